-- The rules of a table, as a loop over its entries tests them.
use Rattle.std.specs.Prelude.{None, Some}
use Prim.Native.Nat.{ℕ, zero, suc, ◌+◌, ◌-◌, ◌*◌, ◌%◌, ◌<◌, ◌≤◌}
use mathlib.Core.Path.{◌≡◌, refl, sym, ◌∙◌}
use mathlib.Core.Bool.{Bool, true, false, ◌&&◌}
use mathlib.Core.Logic.{⊎_elim}
use native.Mathlib.Nat.{mod-lt}
use native.Mathlib.Numerals.{add-one}
use native.Mathlib.Omega.{arith}
use lib.Dec.{ltb, eqb}
use borrow.Author.Tests.{lt-ltb, le-ltb, eq-eqb, ne_eqb}
use Rattle.answer.specs.Cases.{eq_or_ne}
use Rattle.answer.specs.Search.{first, Passed, passed_none, passed_more}
use Rattle.answer.proofs.Search.{first_passed, first_failed}
use Rattle.fourier.specs.Table.{root, wanted, rule}

-- In front of place i: the rules hold so far, and w is what they want there.
pub record Reached (m h : ℕ) (t : ℕ → ℕ) (w i : ℕ) : Type 0 where
  pub next : w ≡ wanted m h t i
  pub passed : Passed (rule m h t) i

pub reached_none : (m h : ℕ) (t : ℕ → ℕ) → Reached m h t 1 0
unfolding wanted
reached_none m h t = record { next = refl; passed = passed_none (rule m h t) }

wanted-below : (m h : ℕ) (t : ℕ → ℕ) (i : ℕ) → 1 < m → wanted m h t i < m
unfolding wanted
wanted-below m h t zero l = l
wanted-below m h t (suc i) l = mod-lt (t i * root m h t) (omega arith)

and_false : (b : Bool) → (b && false) ≡ false
and_false true = refl
and_false false = refl

module _ {m h : ℕ} {t : ℕ → ℕ} {w i : ℕ} (r : Reached m h t w i) where
  -- What is wanted is below m, so the rule of an entry is one comparison.
  pub entry-rule : 1 < m → i < h → rule m h t i ≡ eqb (t i) w
  unfolding rule
  entry-rule l k =
      rw (lt-ltb i h k, ← r.next)
      (⊎_elim (λ e. rw (eq-eqb (t i) w e, lt-ltb (t i) m (rw (e, r.next) (wanted-below m h t i l)))) (λ e. rw (ne_eqb (t i) w e) (and_false (ltb (t i) m))) (eq_or_ne (t i) w))

  pub closing_rule : i ≡ h → rule m h t i ≡ eqb w (m - 1)
  unfolding rule
  closing_rule k = rw (le-ltb i h (omega arith), r.next)

  pub reached_more : 1 < m → i < h → t i ≡ w → Reached m h t (t i * root m h t % m) (i + 1)
  unfolding wanted
  reached_more l k e = record { next = rw add-one; passed = passed_more r.passed (entry-rule l k ∙ eq-eqb (t i) w e) }

  -- How the search ends.
  pub refused : i ≤ h → rule m h t i ≡ false → Some i ≡ first (rule m h t) 0 (suc h)
  refused k e = sym (first_failed (record { within = omega arith; fails = e; before = r.passed }))

  pub accepted : i ≡ h → rule m h t i ≡ true → None ≡ first (rule m h t) 0 (suc h)
  accepted k e = sym (first_passed (rw (add-one, k) at (passed_more r.passed e)))
