-- The powers of a root modulo m: one after the other, by squares, and as a table that is accepted.
use Prim.Native.Nat.{ℕ, zero, suc, ◌-◌, ◌*◌, ◌%◌, ◌^◌, ◌<◌, ◌≤◌}
use Rattle.std.specs.Prelude.{◌≡◌, refl, Bool, ◌&&◌, List, ltb, eqb}
use Rattle.std.proofs.Common.{sym, ◌∙◌, le_refl, one-mul, pow-suc, mod-lt, mod-eq_of_lt, pow-add}
use Rattle.std.proofs.Math.Logic.{⊎_elim}
use Rattle.std.proofs.Math.Nat.{pow-zero, two-pow-succ}
use native.Mathlib.Omega.{arith}
use borrow.Author.Tests.{lt-ltb, le-ltb, eq-eqb, ne_eqb}
use Rattle.algebra.specs.Gaps.{mod_mul_left, mod_mul_right}
use Rattle.answer.specs.Cases.{lt_or_ge, eq_or_ne}
use Rattle.answer.specs.Lists.{at, tabulate}
use Rattle.answer.proofs.Lists.{get_or-tabulate}
use Rattle.fourier.specs.Table.{root, wanted, rule, Accepted}

-- ---- definitions

-- The powers x^0, .., x^(h-1) modulo m.
unfoldable pub powers : ℕ → ℕ → ℕ → List ℕ
powers m x h = tabulate h (λ i. x ^ i % m)

-- Whether x is below m, and its power h is m - 1.
unfoldable pub turns : ℕ → ℕ → ℕ → Bool
turns m x h = ltb x m && eqb (x ^ h % m) (m - 1)

-- ---- laws of powers modulo m

pub power_one : {m x : ℕ} → x < m → x ^ 1 % m ≡ x
power_one l = rw (pow-suc, pow-zero, one-mul) (mod-eq_of_lt l)

pub power_next : (m x k : ℕ) → x ^ k % m * x % m ≡ x ^ suc k % m
power_next m x k = rw (mod_mul_left, pow-suc)

pub power_squared : (m x k : ℕ) → x ^ 2 ^ k % m * (x ^ 2 ^ k % m) % m ≡ x ^ 2 ^ suc k % m
power_squared m x k = rw (mod_mul_left, mod_mul_right, two-pow-succ, pow-add)

-- ---- what the test says

-- x is below m, and its power h is m - 1.
pub record Turns (m x h : ℕ) : Type 0 where
  pub below : x < m
  pub turn : x ^ h % m ≡ m - 1

-- ---- a table of powers is accepted

module _ (m x h : ℕ) (two : 2 ≤ m) (some : 1 ≤ h) (r : Turns m x h) where
  abbrev t : ℕ → ℕ
  t = at (powers m x h)

  entry : (i : ℕ) → i < h → t i ≡ x ^ i % m
  unfolding powers
  entry i l = get_or-tabulate 0 h (λ i. x ^ i % m) i l

  pub powers-root : root m h t ≡ x
  unfolding root
  powers-root =
      ⊎_elim (λ e. rw (eq-eqb h 1 e) (sym r.turn ∙ rw e (power_one r.below)))
      (λ ne. rw (ne_eqb h 1 ne) (entry 1 (omega arith) ∙ power_one r.below)) (eq_or_ne h 1)

  wanted_power : (i : ℕ) → i ≤ h → wanted m h t i ≡ x ^ i % m
  unfolding wanted
  wanted_power zero l = rw pow-zero (sym (mod-eq_of_lt two))
  wanted_power (suc i) l = rw (powers-root, entry i l) (power_next m x i)

  pub powers_accepted : Accepted m h t
  unfolding rule
  powers_accepted = record {
    each = λ i l. ⊎_elim
        (λ k. rw (lt-ltb i h k, entry i k, wanted_power i (omega arith), lt-ltb (x ^ i % m) m (mod-lt (x ^ i) (omega arith))) (eq-eqb (x ^ i % m) (x ^ i % m) refl))
        (λ k. let e : i ≡ h = omega arith in rw (le-ltb i h k, e, wanted_power h (le_refl h)) (eq-eqb (x ^ h % m) (m - 1) r.turn)) (lt_or_ge i h);
  }
