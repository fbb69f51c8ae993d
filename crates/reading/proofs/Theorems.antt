-- A request that is answered 0 is a transform.
use Prim.Native.Nat.{ℕ, ◌/◌}
use Rattle.std.specs.Prelude.{◌≡◌, Bool, true, false, cond, eqb}
use Rattle.std.proofs.Math.Path.{refl}
use Rattle.std.proofs.Common.{sym, ◌∙◌, arith}
use mathlib.Core.List.{List, []}
use Rattle.std.proofs.Math.ListN.{length}
use borrow.Author.Tests.{eq-eqb}
use Rattle.answer.specs.Choice.{done_left}
use Rattle.modular_judgement.specs.Verdicts.{offers, permitted_length, through_scratch, scratch_fits, lent_verdict, rest_verdict, transform_verdict}
use Rattle.modular_work.specs.Works.{cleared}
use Rattle.modular.specs.Outcomes.{TransformOutcome}
use Rattle.reading.specs.Requests.{judged, with_both, printed}
use Rattle.reading.specs.Theorems.{Transformed, asked_modulus, asked_samples, asked_schedule, asked_table, printed_every}

room_fits : (schedule scratch N : ℕ) → scratch ≡ N → scratch_fits schedule scratch N ≡ true
unfolding scratch_fits
room_fits schedule scratch N e = by (through_scratch schedule)
  where
    by : (t : Bool) → cond t (eqb scratch N) true ≡ true
    by true = eq-eqb scratch N e
    by false = refl

-- "Then 2, 4 and 5 follow": of a table and samples of these lengths the transform judges nothing else.
pub both_judged : (m schedule : ℕ) (table samples : List ℕ) (scratch : ℕ) → offers schedule ≡ true → permitted_length (length samples) ≡ true → length table ≡ length samples / 2 → scratch ≡ length samples →
    transform_verdict schedule samples m table scratch ≡ judged m table samples
unfolding transform_verdict rest_verdict lent_verdict judged
both_judged m schedule table samples scratch offer long half room =
    simp (offer, long, room_fits schedule scratch (length samples) room, eq-eqb (length table) (length samples / 2) half)

-- So whatever is proved of transforms holds of it: its results are the Fourier sums of the samples (`transform_sums`).
pub printed-transformed : (s : List ℕ) → (printed s).answer.number ≡ 0 → Transformed s (printed s)
printed-transformed s =
    printed_every (λ r. r.answer.number ≡ 0 → Transformed s r) (λ a l z. absurd (omega arith)) s
    (λ p q there o l half z.
    let samples = asked_samples s q in
    let verdict = both_judged (asked_modulus s) (asked_schedule s) (asked_table s p) samples (length samples) o l half refl in
    record { p = p; q = q; there = there; outcome = whole (asked_modulus s) (asked_schedule s) (asked_table s p) samples verdict z })
  where
    whole : (m schedule : ℕ) (table samples : List ℕ) → transform_verdict schedule samples m table (length samples) ≡ judged m table samples → (judged m table samples).number ≡ 0 →
        TransformOutcome schedule samples m table samples (judged m table samples) (with_both m schedule table samples).results (cleared schedule samples)
    whole m schedule table samples e z = record {
      answers = sym e;
      leaves = rw e (done_left (judged m table samples) _ [] z ∙ sym (done_left (judged m table samples) _ samples z));
      clears = rw e (sym (done_left (judged m table samples) _ samples z));
    }
