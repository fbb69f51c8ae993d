-- Signed numbers that a width holds: what the leaves work out, and what they round.
use Prim.Native.Nat.{ℕ, suc, ◌+◌, ◌*◌, ◌/◌, ◌^◌, ◌<◌, ◌≤◌}
use mathlib.Core.Path.{◌≡◌, ◌∙◌}
use native.Mathlib.Nat.{le_refl, le_trans, lt_of_le_of_lt}
use native.Mathlib.Omega.{arith}
use lib.Dec.{T, ltb, ltb→lt}
use lib.IntN.{ℤ, pos, negsuc, nat_abs, ◌+ℤ◌, ◌-ℤ◌, ◌*ℤ◌}
use lib.Signed.{mag}
use mir.Syntax.{Width, w32, w64}
use mir.Val.{SFits, hbits, to_z, of_z}
use mir.ValLaws.{to_z-of_z}
use Rattle.algebra.specs.Integers.{nat_abs-add, nat_abs-sub}
use Rattle.points.specs.Rounding.{half_up, half_up_half}
use Rattle.points.specs.Growth.{round_size}
use Rattle.points.specs.Steps.{Sized, Turn, products_sized}
use Rattle.points.specs.declared.Point.{Point}

mag_size : (z : ℤ) → mag z ≤ nat_abs z
mag_size (pos n) = le_refl n
mag_size (negsuc n) = omega arith

-- A number whose size is at most a numeral that the width holds: `fits z h tt`.
pub fits : {w : Width} {m : ℕ} (z : ℤ) → nat_abs z ≤ m → T (ltb m (2 ^ hbits w)) → SFits w z
fits {w} {m} z h t = record { sfits = lt_of_le_of_lt (le_trans (mag_size z) h) (ltb→lt m (2 ^ hbits w) t) }

-- An i32 is an i64.
pub fits_wide : {z : ℤ} → SFits w32 z → SFits w64 z
fits_wide h = record { sfits = omega arith }

-- What a call gave is kept in bits and read back: `back w c.f.ok c.f.ensures`, where f ensures r ≡ x.
pub back : (w : Width) {r x : ℤ} → mag r < 2 ^ hbits w → r ≡ x → to_z w (of_z w r) ≡ x
back w {r} h e = to_z-of_z w r (record { sfits = h }) ∙ e

-- What is held on the way from v to the floor of (v + D/2)/D.
pub record Rounds (w : Width) (D : ℕ) (z : ℤ) : Type 0 where
  pub whole : SFits w z
  pub raised : (k : ℕ) → k ≤ D / 2 → SFits w (z +ℤ pos k)
  pub result : SFits w32 (half_up D z)

rounds : {w : Width} (D m k : ℕ) (z : ℤ) → nat_abs z ≤ m → T (ltb (m + D / 2) (2 ^ hbits w)) → T (ltb 0 D) → T (ltb (2 * m + D) (2 * (D * suc k))) → T (ltb k (2 ^ hbits w32)) → Rounds w D z
rounds D m k z h room pos-D small top = record {
  whole = let g : nat_abs z ≤ m + D / 2 = omega arith in fits z g room;
  raised = λ i l. let g : nat_abs (z +ℤ pos i) ≤ m + D / 2 = omega (arith, nat_abs-add z (pos i)) in fits (z +ℤ pos i) g room;
  result = fits (half_up D z) (round_size half_up_half D m k z (ltb→lt 0 D pos-D) (ltb→lt (2 * m + D) (2 * (D * suc k)) small) h) top;
}

pub half_rounds : (a b : ℤ) → nat_abs a ≤ 2 ^ 22 → nat_abs b ≤ 2 ^ 22 → Rounds w32 2 (a +ℤ b)
half_rounds a b h l = rounds 2 (2 ^ 23) (2 ^ 22) (a +ℤ b) (omega (arith, nat_abs-add a b)) tt tt tt tt

pub reduced_rounds : (z : ℤ) → nat_abs z ≤ 23171 * 2 ^ 23 → Rounds w64 32768 z
reduced_rounds z h = rounds 32768 (23171 * 2 ^ 23) (2 ^ 23) z h tt tt tt tt

-- What is held on the way to the sum and to the difference of the two products of a part.
pub record Products (x y : ℤ) : Type 0 where
  pub first : SFits w64 x
  pub second : SFits w64 y
  pub sum_size : nat_abs (x +ℤ y) ≤ 23171 * 2 ^ 23
  pub difference_size : nat_abs (x -ℤ y) ≤ 23171 * 2 ^ 23
  pub sum : SFits w64 (x +ℤ y)
  pub difference : SFits w64 (x -ℤ y)

products_held : (c d x y : ℤ) → nat_abs c + nat_abs d ≤ 23171 → nat_abs x ≤ 2 ^ 23 → nat_abs y ≤ 2 ^ 23 → Products (c *ℤ x) (d *ℤ y)
products_held c d x y k h l =
    let both = products_sized c d x y k h l in
    let first : nat_abs (c *ℤ x) ≤ 23171 * 2 ^ 23 = omega (arith, both) in
    let second : nat_abs (d *ℤ y) ≤ 23171 * 2 ^ 23 = omega (arith, both) in
    let sum : nat_abs (c *ℤ x +ℤ d *ℤ y) ≤ 23171 * 2 ^ 23 = omega (arith, both, nat_abs-add (c *ℤ x) (d *ℤ y)) in
    let difference : nat_abs (c *ℤ x -ℤ d *ℤ y) ≤ 23171 * 2 ^ 23 = omega (arith, both, nat_abs-sub (c *ℤ x) (d *ℤ y)) in
    record {
      first = fits (c *ℤ x) first tt;
      second = fits (d *ℤ y) second tt;
      sum_size = sum;
      difference_size = difference;
      sum = fits (c *ℤ x +ℤ d *ℤ y) sum tt;
      difference = fits (c *ℤ x -ℤ d *ℤ y) difference tt;
    }

pub real_held : {t d : Point} → Turn t → Sized (2 ^ 23) d → Products (t.re *ℤ d.re) (t.im *ℤ d.im)
real_held {t} {d} h l = products_held t.re t.im d.re d.im h.sizes l.real l.imaginary

pub imaginary_held : {t d : Point} → Turn t → Sized (2 ^ 23) d → Products (t.re *ℤ d.im) (t.im *ℤ d.re)
imaginary_held {t} {d} h l = products_held t.re t.im d.im d.re h.sizes l.imaginary l.real

-- A difference of two parts.
pub difference_held : (a b : ℤ) → nat_abs a ≤ 2 ^ 22 → nat_abs b ≤ 2 ^ 22 → SFits w32 (a -ℤ b)
difference_held a b h l = let d : nat_abs (a -ℤ b) ≤ 2 ^ 23 = omega (arith, nat_abs-sub a b) in fits (a -ℤ b) d tt
