-- The search for the first bad place, and what its answer says.
use Prim.Native.Nat.{ℕ, zero, suc, ◌+◌, ◌<◌, ◌≤◌}
use Rattle.std.specs.Prelude.{◌≡◌, Bool, cond, Option, Some, None, List, length, get_or}
use Rattle.std.specs.Option.{MatchOption}
use Rattle.std.specs.List.{HoldsAt, AllWithin}
use Rattle.std.proofs.Math.Path.{refl}
use Rattle.std.proofs.Math.Bool.{true, false}
use Rattle.std.proofs.Math.Logic.{⊎_elim}
use Rattle.std.proofs.Common.{sym, eq-or-lt_of_le, arith}
use Rattle.answer.specs.Search.{FailsFirst, Passed, first}

-- The meaning of the answer, from any place on.
module _ (ok : ℕ → Bool) where
  passed_from : (i k : ℕ) → ((q : ℕ) → i ≤ q → q < i + k → ok q ≡ true) → first ok i k ≡ None
  unfolding first
  passed_from i zero all = refl
  passed_from i (suc k) all = rw (all i (omega arith) (omega arith)) (passed_from _ k (λ q a b. all q (omega arith) (omega arith)))

  failed_from : (i k p : ℕ) → i ≤ p → p < i + k → ok p ≡ false → ((q : ℕ) → i ≤ q → q < p → ok q ≡ true) → first ok i k ≡ Some p
  unfolding first
  failed_from i zero p a b e all = absurd (omega arith)
  failed_from i (suc k) p a b e all =
      ⊎_elim (λ h. let here : ok i ≡ false = rw h e in rw here (rw h refl))
      (λ h. rw (all i (omega arith) h) (failed_from _ k p h (omega arith) e (λ q c d. all q (omega arith) d))) (eq-or-lt_of_le a)

  -- What an answer says of the places i, .., i + k - 1.
  abbrev Says : ℕ → ℕ → Option ℕ → Type 0
  Says i k (Some p) = (i ≤ p) × (p < i + k) × (ok p ≡ false) × ((q : ℕ) → i ≤ q → q < p → ok q ≡ true)
  Says i k None = (q : ℕ) → i ≤ q → q < i + k → ok q ≡ true

  says : (i k : ℕ) → Says i k (first ok i k)
  unfolding first
  says i zero = λ q a b. absurd (omega arith)
  says i (suc k) = go (ok i) refl (first ok (suc i) k) (says (suc i) k)
    where
      -- What holds at i and behind it.
      both : {n : ℕ} → ok i ≡ true → ((q : ℕ) → suc i ≤ q → q < n → ok q ≡ true) → (q : ℕ) → i ≤ q → q < n → ok q ≡ true
      both e all q a b = ⊎_elim (λ h. rw (← h) e) (λ h. all q h b) (eq-or-lt_of_le a)

      go : (t : Bool) → ok i ≡ t → (f : Option ℕ) → Says (suc i) k f → Says i (suc k) (cond t f (Some i))
      go true e (Some p) s = (omega arith, omega arith, s.2, both e s.3)
      go true e None s = both e (λ q a b. s q a (omega arith))
      go false e f s = (omega arith, omega arith, e, λ q a b. absurd (omega arith))

-- The answer is `None` exactly when the test holds at each place.
pub first_passed : {ok : ℕ → Bool} {k : ℕ} → Passed ok k → first ok 0 k ≡ None
first_passed {ok} {k} r = passed_from ok 0 k (λ q a b. r.each q (omega arith))

pub nowhere_passed : (ok : ℕ → Bool) (k : ℕ) → first ok 0 k ≡ None → Passed ok k
nowhere_passed ok k e = record { each = λ q h. (rw e at (says ok 0 k)) q (omega arith) (omega arith) }

-- The answer is a place exactly when that is the first at which the test fails.
pub first_failed : {ok : ℕ → Bool} {k p : ℕ} → FailsFirst ok k p → first ok 0 k ≡ Some p
first_failed {ok} {k} {p} r = failed_from ok 0 k p (omega arith) (omega (arith, r.within)) r.fails (λ q a b. r.before.each q b)

pub at_failed : (ok : ℕ → Bool) (k p : ℕ) → first ok 0 k ≡ Some p → FailsFirst ok k p
at_failed ok k p e =
    let s = rw e at (says ok 0 k) in
    record { within = omega arith; fails = s.2; before = record { each = λ q h. s.3 q (omega arith) h } }

-- What `position` answers, where it looks for an element at which the test fails.
pub first_position : {A : Type 0} (ok : A → Bool) (d : A) (l : List A) (r : Option ℕ) →
    MatchOption r (AllWithin (λ x. ok x ≡ true) l 0 (length l)) (λ i. (i < length l) × HoldsAt (λ x. ok x ≡ false) l i × AllWithin (λ x. ok x ≡ true) l 0 i) →
    r ≡ first (λ p. ok (get_or l p d)) 0 (length l)
first_position ok d l (Some i) h = sym (first_failed (record { within = h.0; fails = h.1 d; before = record { each = λ q k. h.2 q d (omega arith) k } }))
first_position ok d l None h = sym (first_passed (record { each = λ q k. h q d (omega arith) k }))
