-- How far a product of sized pairs lies from another pair, and that it fits.
use Prim.Native.Nat.{suc, ◌*◌, ◌^◌, ◌≤◌}
use native.Mathlib.Omega.{arith}
use lib.IntN.{ℤ, pos, negsuc, nat_abs, ◌-ℤ◌, ◌*ℤ◌}
use lib.Signed.{mag}
use mir.Syntax.{w32, w64}
use mir.Val.{SFits}
use Rattle.algebra.specs.Integers.{nat_abs-sub, nat_abs_mul}
use Rattle.points.proofs.Fits.{fits}

-- How far z is from 16,384 e.
pub record Apart (z e : ℤ) : Type 0 where
  pub scaled : SFits w64 (pos 16384 *ℤ e)
  pub all : SFits w64 (z -ℤ pos 16384 *ℤ e)

size_mag : (z : ℤ) → nat_abs z ≤ suc (mag z)
size_mag (pos n) = omega arith
size_mag (negsuc n) = omega arith

pub apart : (z e : ℤ) → nat_abs z ≤ 23171 * 2 ^ 23 → SFits w32 e → Apart z e
apart z e h f =
    let size : nat_abs (pos 16384 *ℤ e) ≤ 2 ^ 45 = omega (arith, nat_abs_mul (pos 16384) e, size_mag e, f.sfits) in
    let all : nat_abs (z -ℤ pos 16384 *ℤ e) ≤ 2 ^ 46 = omega (arith, nat_abs-sub z (pos 16384 *ℤ e)) in
    record { scaled = fits (pos 16384 *ℤ e) size tt; all = fits (z -ℤ pos 16384 *ℤ e) all tt }
