-- The outcome of each call over residues: its answer and what it leaves in every buffer that it was lent to write, for every input.
-- No second outcome satisfies any of these.
use Rattle.std.specs.Prelude.{ℕ, ◌≡◌, List, length}
use Rattle.std.proofs.Common.{sym, ◌∙◌}
use Rattle.answer.specs.declared.Answer.{Answer}
use Rattle.answer.specs.Choice.{if_done}
use Rattle.answer.specs.Lengths.{log_of}
use Rattle.answer.specs.Lists.{at, tabulate}
use Rattle.fourier.specs.Reverse.{rev}
use Rattle.fourier.specs.Schedules.{step}
use Rattle.fourier.specs.Numbers.{frequency_mod, inverse_mod}
use Rattle.modular_judgement.specs.Verdicts.{accept_verdict, transform_verdict, stage_verdict, inverse_verdict, reverse_verdict}
use Rattle.modular_work.specs.Works.{by_schedule, stage_of, cleared}

-- ---- accept

pub record AcceptOutcome (m : ℕ) (table : List ℕ) (answer : Answer) : Type 0 where
  pub answers : answer ≡ accept_verdict m table

-- ---- transform

-- What a transform makes of the data.
abbrev pub transformed : ℕ → List ℕ → ℕ → List ℕ → List ℕ
transformed schedule buf m table = tabulate (length buf) (by_schedule schedule (log_of (length buf)) m (length table) (at table) (at buf))

pub record TransformOutcome (schedule : ℕ) (buf : List ℕ) (m : ℕ) (table scratch : List ℕ) (answer : Answer) (buf' scratch' : List ℕ) : Type 0 where
  pub answers : answer ≡ transform_verdict schedule buf m table (length scratch)
  pub leaves : buf' ≡ if_done (transform_verdict schedule buf m table (length scratch)) (transformed schedule buf m table) buf
  pub clears : scratch' ≡ if_done (transform_verdict schedule buf m table (length scratch)) (cleared schedule scratch) scratch

-- ---- stage

-- What a stage makes of the data.
abbrev pub staged : ℕ → ℕ → List ℕ → ℕ → List ℕ → List ℕ
staged schedule s buf m table = tabulate (length buf) (step (frequency_mod m (length table) (at table)) (stage_of schedule (log_of (length buf)) s) (at buf))

pub record StageOutcome (schedule s : ℕ) (buf : List ℕ) (m : ℕ) (table scratch : List ℕ) (answer : Answer) (buf' scratch' : List ℕ) : Type 0 where
  pub answers : answer ≡ stage_verdict schedule s buf m table (length scratch)
  pub leaves : buf' ≡ if_done (stage_verdict schedule s buf m table (length scratch)) (staged schedule s buf m table) buf
  pub clears : scratch' ≡ if_done (stage_verdict schedule s buf m table (length scratch)) (cleared schedule scratch) scratch

-- ---- inverse

pub record InverseOutcome (buf : List ℕ) (m : ℕ) (table : List ℕ) (answer : Answer) (buf' : List ℕ) : Type 0 where
  pub answers : answer ≡ inverse_verdict buf m table
  pub leaves : buf' ≡ if_done (inverse_verdict buf m table) (tabulate (length buf) (inverse_mod m (log_of (length buf)) (at table) (at buf))) buf

-- ---- reverse

pub record ReverseOutcome (buf : List ℕ) (answer : Answer) (buf' : List ℕ) : Type 0 where
  pub answers : answer ≡ reverse_verdict buf
  pub leaves : buf' ≡ if_done (reverse_verdict buf) (tabulate (length buf) (λ p. at buf (rev (log_of (length buf)) p))) buf

-- ---- each outcome is the only one

pub accept_functional : {m : ℕ} {table : List ℕ} {a b : Answer} → AcceptOutcome m table a → AcceptOutcome m table b → a ≡ b
accept_functional h l = h.answers ∙ sym l.answers

pub transform_functional : {schedule m : ℕ} {buf table scratch : List ℕ} {a b : Answer} {x y x' y' : List ℕ} →
    TransformOutcome schedule buf m table scratch a x y → TransformOutcome schedule buf m table scratch b x' y' → (a ≡ b) × (x ≡ x') × (y ≡ y')
transform_functional h l = (h.answers ∙ sym l.answers, h.leaves ∙ sym l.leaves, h.clears ∙ sym l.clears)

pub stage_functional : {schedule s m : ℕ} {buf table scratch : List ℕ} {a b : Answer} {x y x' y' : List ℕ} →
    StageOutcome schedule s buf m table scratch a x y → StageOutcome schedule s buf m table scratch b x' y' → (a ≡ b) × (x ≡ x') × (y ≡ y')
stage_functional h l = (h.answers ∙ sym l.answers, h.leaves ∙ sym l.leaves, h.clears ∙ sym l.clears)

pub inverse_functional : {m : ℕ} {buf table : List ℕ} {a b : Answer} {x x' : List ℕ} → InverseOutcome buf m table a x → InverseOutcome buf m table b x' → (a ≡ b) × (x ≡ x')
inverse_functional h l = (h.answers ∙ sym l.answers, h.leaves ∙ sym l.leaves)

pub reverse_functional : {buf : List ℕ} {a b : Answer} {x x' : List ℕ} → ReverseOutcome buf a x → ReverseOutcome buf b x' → (a ≡ b) × (x ≡ x')
reverse_functional h l = (h.answers ∙ sym l.answers, h.leaves ∙ sym l.leaves)
