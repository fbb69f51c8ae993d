-- Bit reversal, bit by bit and place by place.
use Prim.Native.Nat.{ℕ, zero, suc, ◌+◌, ◌-◌, ◌*◌, ◌/◌, ◌%◌, ◌^◌, ◌<◌, ◌≤◌}
use mathlib.Core.Path.{◌≡◌}
use native.Mathlib.Nat.{two-pow-succ, mul-le-mul_left}
use native.Mathlib.Omega.{arith}
use lib.Pow.{pow_pos, pow_mono}
use Rattle.answer.proofs.Swaps.{Partners}
use Rattle.fourier.specs.Reverse.{rev, rev_lt, rev-rev}

-- The lowest of the bits that are left is put behind those that are turned.
pub bit_next : (turned rest left : ℕ) → 0 < left → turned * 2 ^ left + rev left rest ≡ (turned + turned + rest % 2) * 2 ^ (left - 1) + rev (left - 1) (rest / 2)
unfolding rev
bit_next turned rest zero l = absurd (omega arith)
bit_next turned rest (suc left) l = let e : suc left - 1 ≡ left = omega arith in rw (e, two-pow-succ) (omega arith)

-- None is left.
pub bits_all : {r : ℕ} (turned rest left : ℕ) → left ≤ 0 → r ≡ turned * 2 ^ left + rev left rest → turned ≡ r
unfolding rev
bits_all turned rest zero l e = omega arith
bits_all turned rest (suc left) l e = absurd (omega arith)

-- The turned bits are few.
pub turned-below : (n j turned rest left : ℕ) → n ≤ 12 → rev n j ≡ turned * 2 ^ left + rev left rest → turned < 4096
turned-below n j turned rest left l e =
    let low : turned * 1 ≤ turned * 2 ^ left = mul-le-mul_left turned (pow_pos left) in
    let high : 2 ^ n ≤ 2 ^ 12 = pow_mono l in
    omega (arith, rev_lt n j)

pub rev_partners : (n : ℕ) {N : ℕ} → N ≡ 2 ^ n → Partners (rev n) N
rev_partners n e = rw e (record { within = λ p h. rev_lt n p; again = rev-rev n })
