-- The steps of reading a request, by what was read.
use Prim.Native.Nat.{ℕ, ◌/◌, ◌<◌, ◌≤◌}
use mathlib.Core.Path.{◌≡◌, ◌∙◌, sym}
use mathlib.Core.Bool.{true}
use mathlib.Core.List.{List, [], ◌++◌, append-nil}
use native.Mathlib.Nat.{zero-add}
use native.Mathlib.Omega.{arith}
use lib.ListN.{length, drop}
use lib.Seq.{sets, sets-eq, drop-length}
use borrow.Author.Tests.{le-leb, lt-leb}
use Rattle.answer.specs.declared.Refusal.{Refusal}
use Rattle.answer.specs.Choice.{refuse_at, done, answer_of, answered, if_done, refused_left}
use Rattle.modular_judgement.specs.Verdicts.{offers, permitted_length}
use Rattle.modular.specs.Outcomes.{transformed, TransformOutcome}
use Rattle.std.proofs.Common.{Result, Ok, Err}
use Rattle.groups.specs.declared.Fault.{Fault}
use Rattle.reading.specs.Requests.{many_at, values_at, refused, judged, with_both, with_table, with_head, Prints}
use Rattle.reading.specs.Refusals.{refusal_named}
use Rattle.reading.specs.Theorems.{values_whole}
use Rattle.reading.proofs.Theorems.{both_judged}

-- ---- several numbers

-- Numbers at the start of a list, and as many as there are places.
pub sets_front : (l vs : List ℕ) (n : ℕ) → length vs ≡ n → n ≤ length l → sets l 0 vs ≡ vs ++ drop n l
sets_front l vs n e h = sets-eq vs l 0 (omega arith) ∙ rw (zero-add, e)

pub sets_whole : (l vs : List ℕ) → length vs ≡ length l → sets l 0 vs ≡ vs
sets_whole l vs e = sets_front l vs (length l) e (omega arith) ∙ rw drop-length (append-nil vs)

-- ---- the table, the samples, and both

module _ (s : List ℕ) (m schedule N : ℕ) (table : List ℕ) (q : ℕ) where
  pub samples_broken : {fault : Fault} → many_at N s q ≡ Err fault → with_table s m schedule N table q ≡ refused (refuse_at 10 fault.place)
  unfolding with_table
  samples_broken e = rw e

  module _ {end : ℕ} (e : many_at N s q ≡ Ok end) where
    pub samples_surplus : end < length s → with_table s m schedule N table q ≡ refused (refuse_at 10 end)
    unfolding with_table
    samples_surplus h = simp (e, lt-leb (length s) end h)

    pub samples-whole : length s ≤ end → with_table s m schedule N table q ≡ with_both m schedule table (values_at N s q)
    unfolding with_table
    samples-whole h = simp (e, le-leb (length s) end h)

-- A table and samples that are there, by what the transform answers of them and leaves.
both_printed : (m schedule : ℕ) (table samples old : List ℕ) {left : List ℕ} (r : Result (Unit {0}) Refusal) → answered r ≡ judged m table samples →
    left ≡ if_done (answered r) (transformed schedule samples m table) old → Prints (with_both m schedule table samples) left r
both_printed m schedule table samples old (Ok x) e l = rw (← e) (λ i. record { answer = done; results = sym l i })
both_printed m schedule table samples old (Err refusal) e l =
    let none = refused_left (answer_of refusal) (transformed schedule samples m table) [] (refusal_named refusal) in
    rw (← e) (λ i. record { answer = answer_of refusal; results = none i })

-- What the transform answers and leaves of the samples is what is printed.
pub samples_transformed : (s : List ℕ) (m schedule : ℕ) (table : List ℕ) (q : ℕ) (samples : List ℕ) {end : ℕ} {read scratch samples' scratch' : List ℕ} (r : Result (Unit {0}) Refusal) →
    offers schedule ≡ true → permitted_length (length samples) ≡ true → length table ≡ length samples / 2 → length scratch ≡ length samples → many_at (length samples) s q ≡ Ok end →
    length s ≤ end → read ≡ sets samples 0 (values_at (length samples) s q) → TransformOutcome schedule read m table scratch (answered r) samples' scratch' →
    Prints (with_table s m schedule (length samples) table q) samples' r
samples_transformed s m schedule table q samples {read = read} {scratch} {samples'} r offer long half room many ends e out =
    let values = values_at (length samples) s q in
    let size = values_whole (length samples) s q _ many in
    let is : read ≡ values = e ∙ sets_whole samples values size in
    let verdict = both_judged m schedule table values (length scratch) offer (rw size long) (rw size half) (rw size room) in
    let left : samples' ≡ if_done (answered r) (transformed schedule values m table) read = rw (← is, out.answers) out.leaves in
    rw (samples-whole s m schedule (length samples) table q many ends) (both_printed m schedule table values read r (rw is at out.answers ∙ verdict) left)

module _ (s : List ℕ) (m schedule p : ℕ) (table samples : List ℕ) (half : length table ≡ length samples / 2) where
  pub table_broken : {fault : Fault} → many_at (length table) s p ≡ Err fault → with_head s m schedule (length samples) p ≡ refused (refuse_at 10 fault.place)
  unfolding with_head
  table_broken many = rw (rw half at many)

  -- The table is read, and the samples decide the rest.
  pub table-whole : {q : ℕ} {read : List ℕ} → many_at (length table) s p ≡ Ok q → read ≡ sets table 0 (values_at (length table) s p) →
      with_head s m schedule (length samples) p ≡ with_table s m schedule (length samples) read q
  unfolding with_head
  table-whole many e =
      let is = e ∙ sets_whole table (values_at (length table) s p) (values_whole (length table) s p _ many) in
      rw (rw half at many, is, half)
