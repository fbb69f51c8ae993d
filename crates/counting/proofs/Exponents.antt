-- The exponents of a stage lie in the table, and follow each other from pair to pair.
use Prim.Native.Nat.{ℕ, suc, ◌-◌, ◌*◌, ◌/◌, ◌%◌, ◌^◌, ◌<◌, ◌≤◌}
use mathlib.Core.Path.{◌≡◌}
use native.Mathlib.Nat.{mod-eq_of_lt, div-add-mod'}
use native.Mathlib.Omega.{arith}
use lib.Pow.{pow_mono}
use Rattle.fourier.specs.Reverse.{rev}
use Rattle.counting.specs.Exponents.{reversals}
use Rattle.counting.proofs.Reversal.{rev_mod}

pub half_small : (n : ℕ) → n ≤ 12 → 2 ^ (n - 1) ≤ 2048
half_small n l = pow_mono {j = 11} (omega arith)

-- Schedule 5's, whatever stands above the low s bits of k.
pub reversals_all : (n s k : ℕ) → reversals n s k ≡ 2 ^ (n - suc s) * rev s k
reversals_all n s k = rw rev_mod

-- Shifted by s bits there and back, in w bits.
pub shifted : (k s w : ℕ) → k < 2 ^ w → k / 2 ^ s * 2 ^ s % 2 ^ w ≡ k - k % 2 ^ s
shifted k s w h = let e = div-add-mod' k (2 ^ s) in rw (mod-eq_of_lt {n = k / 2 ^ s * 2 ^ s} {m = 2 ^ w} (omega arith)) (omega arith)
