-- How far the parts grow from stage to stage, for any rounding that errs by at most one half.
use Prim.Native.Nat.{ℕ, zero, suc, ◌+◌, ◌-◌, ◌*◌, ◌/◌, ◌^◌, ◌<◌, ◌≤◌}
use Rattle.std.proofs.Common.{add-zero, add-suc, le_refl, le_trans, le_of_suc-le-suc, add-sub_of_le, arith, lit<, lit≤}
use Rattle.std.proofs.Math.Nat.{lt_of_mul-lt-mul_left}
use Rattle.std.specs.Prelude.{ℤ, pos, nat_abs, ◌-ℤ◌, ◌*ℤ◌}
use Rattle.std.proofs.Math.IntN as Z
use Rattle.algebra.specs.Integers.{nat_abs-add, nat_abs_mul}
use Rattle.fourier.specs.Array.{Exponents}
use Rattle.fourier.specs.Schedules.{Schedule, Buffer}
use Rattle.fourier.specs.Leaves.{Leaves, Keeps, related}
use Rattle.points.specs.declared.Point.{Point}
use Rattle.points.specs.Rounding.{Rounding, Half}
use Rattle.points.specs.Steps.{rounded, Sized, Turns, each_sized, sized_up, plus-sized, turned-sized}

-- The size of a part after s stages. A sample's part is at most 32,767 in size; `grow` begins with 32,768, so that a part of -32,768 would
-- need no change.
unfoldable pub grow : ℕ → ℕ
grow zero = 32768
grow (suc s) = (46342 * grow s + 16384) / 32768

pub grow_next : (s : ℕ) → grow s ≤ grow (suc s)
unfolding grow
grow_next s = omega arith

-- In twelve stages a part stays within 2^22.
pub grow-most : (s : ℕ) → s ≤ 12 → grow s ≤ 2 ^ 22
unfolding grow
grow-most s h = le_trans (rw (add-sub_of_le h) at (more (12 - s))) (lit≤ tt)
  where
    more : (d : ℕ) → grow s ≤ grow (s + d)
    more zero = rw add-zero (le_refl (grow s))
    more (suc d) = rw add-suc (le_trans (more d) (grow_next (s + d)))

module _ {rounding : Rounding} (half : Half rounding) where
  -- A rounded part is within half a unit of the quotient.
  pub round_size : (D m k : ℕ) (z : ℤ) → 0 < D → 2 * m + D < 2 * (D * suc k) → nat_abs z ≤ m → nat_abs (rounding D z) ≤ k
  round_size D m k z pos-D room h =
      let size : nat_abs (pos D *ℤ rounding D z) ≤ nat_abs (pos D *ℤ rounding D z -ℤ z) + nat_abs z =
      rw Z.-ℤ-+ℤ_cancel at (nat_abs-add (pos D *ℤ rounding D z -ℤ z) z) in
      le_of_suc-le-suc (lt_of_mul-lt-mul_left D (omega (arith, nat_abs_mul (pos D) (rounding D z), half.errs D z pos-D)))

  -- The rounded step keeps the sizes.
  pub sized_kept : (n : ℕ) {t : ℕ → Point} → Turns t (2 ^ (n - 1)) → Keeps n (λ s z _. Sized (grow s) z) (rounded rounding t) (rounded rounding t)
  unfolding grow
  sized_kept n turns s zero e a b _ _ l h g = sized_up (each_sized (rounding 2) (λ z. round_size 2 (2 * grow s) (grow s) z (lit< tt) (omega arith)) (plus-sized h g)) (grow_next s)
  sized_kept n turns s (suc x) e a b _ _ l h g = each_sized (rounding 32768) (λ z. round_size 32768 (46342 * grow s) (grow (suc s)) z (lit< tt) (omega arith)) (turned-sized (turns.each e l) h g)

  -- The parts of what a schedule leaves of samples.
  pub results_grow : {e : Exponents} {n : ℕ} {order index : ℕ → ℕ} {f : Schedule} {t : ℕ → Point} → Leaves e n order index f → Turns t (2 ^ (n - 1)) →
      (d : Buffer Point) → ((p : ℕ) → p < 2 ^ n → Sized 32768 (d p)) → (p : ℕ) → p < 2 ^ n → Sized (grow n) (f Point (rounded rounding t) d p)
  unfolding grow
  results_grow {n = n} {t = t} leaves turns d start = related n (λ s z _. Sized (grow s) z) {w = rounded rounding t} (sized_kept n turns) leaves d d start

  -- Every part of every result is at most 2^22 in size.
  pub results_sized : {e : Exponents} {n : ℕ} {order index : ℕ → ℕ} {f : Schedule} {t : ℕ → Point} → n ≤ 12 → Leaves e n order index f → Turns t (2 ^ (n - 1)) →
      (d : Buffer Point) → ((p : ℕ) → p < 2 ^ n → Sized 32768 (d p)) → (p : ℕ) → p < 2 ^ n → Sized (2 ^ 22) (f Point (rounded rounding t) d p)
  results_sized {n = n} small leaves turns d start p h = sized_up (results_grow leaves turns d start p h) (grow-most n small)
