-- The outcome of each call in fixed point: its answer and what it leaves in every buffer that it was lent to write, for every input.
-- No second outcome satisfies any of these. Those of accept and fill stand in `tables` and `sine`.
use Rattle.std.specs.Prelude.{ℕ, ◌^◌, ◌≡◌, List, ℤ, length}
use Rattle.std.proofs.Common.{sym, ◌∙◌}
use Rattle.answer.specs.declared.Answer.{Answer}
use Rattle.answer.specs.Choice.{if_done}
use Rattle.fourier.specs.Reverse.{rev}
use Rattle.points.specs.declared.Point.{Point}
use Rattle.points.specs.Interleaved.{point, interleaved}
use Rattle.points.specs.Rounding.{half_up}
use Rattle.points.specs.Steps.{rounded}
use Rattle.fixed_judgement.specs.Verdicts.{points_log, transform_verdict, reverse_verdict}
use Rattle.fixed_work.specs.Works.{by_schedule, cleared}

-- ---- transform

-- What the schedule leaves, "each part .. worked out whole and rounded once".
abbrev pub transformed : ℕ → List ℤ → List ℤ → List ℤ
transformed schedule buf table = let n = points_log (length buf) in interleaved (2 ^ n) (by_schedule schedule n Point (rounded half_up (point table)) (point buf))

pub record TransformOutcome (schedule : ℕ) (buf table scratch : List ℤ) (answer : Answer) (buf' scratch' : List ℤ) : Type 0 where
  pub answers : answer ≡ transform_verdict schedule buf table (length scratch)
  pub leaves : buf' ≡ if_done (transform_verdict schedule buf table (length scratch)) (transformed schedule buf table) buf
  pub clears : scratch' ≡ if_done (transform_verdict schedule buf table (length scratch)) (cleared schedule scratch) scratch

-- ---- reverse

-- Point rev p at place p.
abbrev pub reversed : List ℤ → List ℤ
reversed buf = let n = points_log (length buf) in interleaved (2 ^ n) (λ p. point buf (rev n p))

pub record ReverseOutcome (buf : List ℤ) (answer : Answer) (buf' : List ℤ) : Type 0 where
  pub answers : answer ≡ reverse_verdict buf
  pub leaves : buf' ≡ if_done (reverse_verdict buf) (reversed buf) buf

-- ---- each outcome is the only one

pub transform_functional : {schedule : ℕ} {buf table scratch : List ℤ} {a b : Answer} {x y x' y' : List ℤ} →
    TransformOutcome schedule buf table scratch a x y → TransformOutcome schedule buf table scratch b x' y' → (a ≡ b) × (x ≡ x') × (y ≡ y')
transform_functional h l = (h.answers ∙ sym l.answers, h.leaves ∙ sym l.leaves, h.clears ∙ sym l.clears)

pub reverse_functional : {buf : List ℤ} {a b : Answer} {x x' : List ℤ} → ReverseOutcome buf a x → ReverseOutcome buf b x' → (a ≡ b) × (x ≡ x')
reverse_functional h l = (h.answers ∙ sym l.answers, h.leaves ∙ sym l.leaves)
