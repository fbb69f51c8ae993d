-- The sine table: the table that it makes for each N.
use Rattle.std.specs.Prelude.{ℕ, ◌+◌, ◌-◌, ◌*◌, ◌/◌, ◌^◌, ◌<◌, ◌≤◌, ◌≡◌, List, ℤ, length}
use Rattle.std.proofs.Common.{sym, ap, ◌∙◌, mul-div_cancel, arith, pow-add}
use Rattle.std.proofs.Math.Pow.{pow_pos}
use Rattle.answer.specs.Lists.{length-tabulate}
use Rattle.fourier.specs.Sizes.{two_halves}
use Rattle.points.specs.Interleaved.{point, interleaved, point-interleaved}
use Rattle.points.specs.declared.Point.{Point}
use Rattle.sine.specs.Constant.{sine}

-- ---- definitions

-- "Every (4,096/N)-th pair is the table for N", N = 2^n.
unfoldable pub sine_pair : ℕ → ℕ → Point
sine_pair n i = point sine (4096 / 2 ^ n * i)

-- That table of N/2 pairs.
unfoldable pub sine_table : ℕ → List ℤ
sine_table n = interleaved (2 ^ (n - 1)) (sine_pair n)

-- ---- strides

-- N strides of 4,096/N are 4,096, N = 2^n.
pub whole : (n : ℕ) → n ≤ 12 → 4096 ≡ 2 ^ (12 - n) * 2 ^ n
whole n l = let e : 12 ≡ 12 - n + n = omega arith in ap (λ (z : ℕ). 2 ^ z) e ∙ pow-add 2 (12 - n) n

pub stride : (n : ℕ) → n ≤ 12 → 4096 / 2 ^ n ≡ 2 ^ (12 - n)
stride n l = ap (λ (z : ℕ). z / 2 ^ n) (whole n l) ∙ mul-div_cancel (2 ^ (12 - n)) (pow_pos n)

-- ---- as a list

-- The table for N has N numbers.
pub sine_table-length : (n : ℕ) → 1 ≤ n → length (sine_table n) ≡ 2 ^ n
unfolding sine_table
sine_table-length n some = length-tabulate _ _ ∙ sym (two_halves n some)

pub sine_table-pair : (n : ℕ) → 1 ≤ n → (i : ℕ) → i < 2 ^ (n - 1) → point (sine_table n) i ≡ sine_pair n i
unfolding sine_table
sine_table-pair n some i h = point-interleaved (2 ^ (n - 1)) (sine_pair n) i h
