-- The sizes of the stages of 2^n places.
use Rattle.std.specs.Prelude.{ℕ, suc, ◌+◌, ◌-◌, ◌*◌, ◌^◌, ◌<◌, ◌≤◌, ◌≡◌}
use Rattle.std.proofs.Common.{⊎_elim, arith, pow-add, pow_mono}
use lib.Pow.{pow_pos}
use Rattle.answer.specs.Cases.{lt_or_ge}
use Rattle.fourier.specs.Sizes.{two_halves}

-- A table that reaches to 2,048 at most is for 2^12 places at most.
pub twelve : {n T : ℕ} → T ≡ 2 ^ (n - 1) → T ≤ 2048 → n ≤ 12
twelve {n} e l = ⊎_elim (λ h. let big : 2 ^ 12 ≤ 2 ^ (n - 1) = pow_mono {i = 12} (omega arith) in absurd (omega arith)) (λ h. h) (lt_or_ge 12 n)

-- 2^12 places have 2,048 pairs.
pub pairs_few : (n : ℕ) → n ≤ 12 → 2 ^ (n - 1) ≤ 2048
pairs_few n l = pow_mono {j = 11} (omega arith)

-- A stage of `stride` blocks of 2h places fits 2^n places and a table of T entries.
pub record Fits (n T stride h : ℕ) : Type 0 where
  pub places : 2 ^ n ≡ stride * (h + h)
  pub some : 1 ≤ stride
  pub table : stride * h ≤ T
  pub pairs : 0 < h

pub fits : {n T : ℕ} (a b : ℕ) → a + suc b ≡ n → T ≡ 2 ^ (n - 1) → Fits n T (2 ^ a) (2 ^ b)
fits {n} a b e et =
    let half : 2 ^ (n - 1) ≡ 2 ^ a * 2 ^ b = (let z : n - 1 ≡ a + b = omega arith in rw (z, pow-add)) in
    let whole = two_halves n (omega arith) in
    record { places = omega arith; some = pow_pos a; table = omega arith; pairs = pow_pos b }
