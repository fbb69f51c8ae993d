-- What a request is given, by what was read.
use Prim.Native.Nat.{ℕ, ◌≤◌}
use mathlib.Core.Path.{◌≡◌, sym, ◌∙◌}
use mathlib.Core.Bool.{true, false}
use mathlib.Core.List.{List}
use lib.ListN.{length}
use lib.Seq.{sets}
use Rattle.answer.specs.Choice.{refuse, refuse_at}
use Rattle.answer.specs.Lists.{at}
use Rattle.answer.specs.Lengths.{log_of, exponent_of}
use Rattle.answer.proofs.Lengths.{permitted_range, log_some, log_none}
use native.Mathlib.Omega.{arith}
use borrow.Author.Tests.{lt-ltb, le-ltb}
use Rattle.modular_judgement.specs.Verdicts.{offers, permitted_length}
use Rattle.std.proofs.Common.{Option, Some, None, Ok, Err}
use Rattle.groups.specs.declared.Fault.{Fault}
use Rattle.reading.specs.Requests.{many_at, values_at, refused, with_head, asked, printed}
use Rattle.reading.specs.Theorems.{values_whole}
use Rattle.reading.proofs.Steps.{sets_whole}

-- ---- the length

-- One that has an exponent is permitted, and there is memory for it; one that has none is not.
pub length_permitted : (N k : ℕ) {r : Option ℕ} → r ≡ exponent_of N → r ≡ Some k → (permitted_length N ≡ true) × (N ≤ 4096)
length_permitted N k e f =
    let log = log_some (log_of N) k (sym f ∙ e) in
    let range = permitted_range N (omega arith) in
    (lt-ltb 0 (log_of N) (omega arith), range.1)

pub length_refused : (N : ℕ) {r : Option ℕ} → r ≡ exponent_of N → r ≡ None → permitted_length N ≡ false
length_refused N e f = let none = log_none (log_of N) (sym f ∙ e) in le-ltb 0 (log_of N) (omega arith)

-- ---- the whole request

module _ (s : List ℕ) (m schedule N p : ℕ) where
  pub not_offered : offers schedule ≡ false → asked s m schedule N p ≡ refused (refuse 7)
  unfolding asked
  not_offered e = rw e

  module _ (e : offers schedule ≡ true) where
    pub not_permitted : permitted_length N ≡ false → asked s m schedule N p ≡ refused (refuse 1)
    unfolding asked
    not_permitted h = simp (e, h)

    pub permitted : permitted_length N ≡ true → asked s m schedule N p ≡ with_head s m schedule N p
    unfolding asked
    permitted h = simp (e, h)

module _ (s : List ℕ) where
  pub head_broken : {fault : Fault} → many_at 3 s 0 ≡ Err fault → printed s ≡ refused (refuse_at 10 fault.place)
  unfolding printed
  head_broken e = rw e

  pub head_whole : {p : ℕ} → many_at 3 s 0 ≡ Ok p → (head l : List ℕ) → length head ≡ 3 → l ≡ sets head 0 (values_at 3 s 0) → printed s ≡ asked s (at l 0) (at l 1) (at l 2) p
  unfolding printed
  head_whole e head l long read = rw (e, read, sets_whole head _ (values_whole 3 s 0 _ e ∙ sym long))
