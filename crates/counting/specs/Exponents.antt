-- The exponents of schedules 2 and 5, pair after pair.
use Rattle.std.specs.Prelude.{ℕ, zero, suc, ◌-◌, ◌*◌, ◌%◌, ◌^◌, ◌<◌, ◌≡◌, refl}
use Rattle.std.proofs.Common.{mul-zero, arith}
use native.Mathlib.Nat.{mul-lt-mul_of_pos_left}
use lib.Pow.{pow_pos}
use Rattle.fourier.specs.Sizes.{half_buffer}
use Rattle.fourier.specs.Reverse.{rev, rev_lt}
use Rattle.stages.specs.Laws.{ExponentsLaws}

-- The exponent of pair k in stage s: schedule 2's, and schedule 5's.
abbrev pub multiples : ℕ → ℕ → ℕ → ℕ
multiples n s k = k - k % 2 ^ s

abbrev pub reversals : ℕ → ℕ → ℕ → ℕ
reversals n s k = 2 ^ (n - suc s) * rev s (k % 2 ^ s)

-- They begin with 0 and lie in the table.
pub multiples_lawful : ExponentsLaws multiples
multiples_lawful = record { first = λ n s. omega arith; below = λ n s k l h. omega arith }

rev-zero : (s : ℕ) → rev s 0 ≡ 0
unfolding rev
rev-zero zero = refl
rev-zero (suc s) = omega (arith, rev-zero s)

pub reversed-below : (n s : ℕ) → s < n → (j : ℕ) → 2 ^ (n - suc s) * rev s j < 2 ^ (n - 1)
reversed-below n s l j = rw (half_buffer l) at (mul-lt-mul_of_pos_left (rev_lt s j) (pow_pos (n - suc s)))

pub reversals_lawful : ExponentsLaws reversals
reversals_lawful = record {
  first = λ n s. let none : 0 % 2 ^ s ≡ 0 = omega arith in rw (none, rev-zero, mul-zero);
  below = λ n s k l h. reversed-below n s l (k % 2 ^ s);
}
