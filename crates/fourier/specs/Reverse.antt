-- Bit reversal, and that it is its own inverse.
use Rattle.std.specs.Prelude.{ℕ, zero, suc, ◌+◌, ◌*◌, ◌/◌, ◌%◌, ◌^◌, ◌<◌, ◌≡◌}
use Rattle.std.proofs.Common.{zero-mul, one-mul, zero-add, add-zero, add_comm, pow-suc, arith}
use Rattle.std.proofs.Math.Nat.{pow-succ'}
use Rattle.std.proofs.Math.Arith.{digits_lt}

-- rev(j): j with its n bits reversed.
unfoldable pub rev : ℕ → ℕ → ℕ
rev zero j = 0
rev (suc n) j = j % 2 * 2 ^ n + rev n (j / 2)

pub rev_lt : (n j : ℕ) → rev n j < 2 ^ n
unfolding rev
rev_lt zero j = omega arith
rev_lt (suc n) j = rw pow-succ' (digits_lt (omega arith) (rev_lt n (j / 2)))

-- From the other end: the top bit becomes the lowest.
pub rev_top : (n b j : ℕ) → b < 2 → j < 2 ^ n → rev (suc n) (b * 2 ^ n + j) ≡ 2 * rev n j + b
unfolding rev
rev_top zero b j hb hj = omega arith
rev_top (suc n) b j hb hj =
    let bit : (b * (2 ^ n * 2) + j) % 2 ≡ j % 2 = omega arith in
    let half : (b * (2 ^ n * 2) + j) / 2 ≡ b * 2 ^ n + j / 2 = omega arith in
    rw (pow-suc 2 n, bit, half, rev_top n b (j / 2) hb (omega arith)) (omega arith)

pub rev_low : (n j : ℕ) → j < 2 ^ n → rev (suc n) j ≡ 2 * rev n j
rev_low n j h = rw (zero-mul, zero-add, add-zero) at (rev_top n 0 j (omega arith) h)

pub rev_high : (n j : ℕ) → j < 2 ^ n → rev (suc n) (j + 2 ^ n) ≡ 2 * rev n j + 1
rev_high n j h = rw (one-mul, add_comm (2 ^ n) j) at (rev_top n 1 j (omega arith) h)

pub rev-rev : (n j : ℕ) → j < 2 ^ n → rev n (rev n j) ≡ j
unfolding rev
rev-rev zero j h = omega arith
rev-rev (suc n) j h = rw (rev_top n (j % 2) (rev n (j / 2)) (omega arith) (rev_lt n (j / 2)), rev-rev n (j / 2) (omega arith)) (omega arith)
