-- Schedule 3: exponents that count c times, and parts of a buffer. Its sentence, half by half, and that it leaves at every place what
-- schedule 1 leaves, stand in proofs/.
use Prim.Native.Nat.{ℕ, ◌+◌, ◌*◌, ◌%◌, ◌^◌}
use Rattle.std.specs.Prelude.{◌≡◌}
use Rattle.std.proofs.Common.{one-mul}
use native.Mathlib.Omega.{arith}
use Rattle.fourier.specs.Schedules.{Wing, Buffer, butterfly, step, strided}

-- ---- exponents that count c times

module _ {C : Type 0} (w : Wing C) where
  pub strided_once : strided 1 w ≡ w
  strided_once = λ i x e. w x (one-mul e i)

  pub strided_twice : (c : ℕ) → strided 2 (strided c w) ≡ strided (c + c) w
  strided_twice c = λ i x e. w x (double e i)
    where
      double : (e : ℕ) → c * (2 * e) ≡ (c + c) * e
      double e = omega arith

  pub strided-step : (c h : ℕ) (d : Buffer C) (p : ℕ) → step (strided c w) (butterfly 1 h) d p ≡ step w (butterfly c h) d p
  unfolding butterfly
  strided-step c h d p = rw (one-mul (p % h))

-- ---- parts

-- d is the k-th part of 2^r places of e.
pub record Part {C : Type 0} (k r : ℕ) (d e : Buffer C) : Type 0 where
  pub at : (q : ℕ) → d q ≡ e (k * 2 ^ r + q)
