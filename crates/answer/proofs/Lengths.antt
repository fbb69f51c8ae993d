-- The permitted lengths.
use Rattle.std.specs.Prelude.{ℕ, zero, suc, ◌+◌, ◌*◌, ◌%◌, ◌^◌, ◌≤◌, ◌<◌, ◌≡◌, refl, Some, None}
use Rattle.std.proofs.Common.{⊎_elim, arith, pow_mono, lit<, ◌∙◌, one-mul}
use Rattle.std.proofs.Math.Pow.{shl_exact}
use Rattle.answer.specs.Cases.{lt_or_ge}
use Rattle.answer.specs.Lengths.{candidate, log_of, as_exponent, exponent_of, power_permitted}

-- A permitted length is 2^n, n from 1 to 12.
pub permitted_log : (N : ℕ) → 1 ≤ log_of N → (N ≡ 2 ^ log_of N) × (log_of N ≤ 12)
unfolding log_of
permitted_log N h = let r = candidate _ N h in (r.0, omega arith)

-- It is from 2 to 4,096.
pub permitted_range : (N : ℕ) → 1 ≤ log_of N → (2 ≤ N) × (N ≤ 4096)
permitted_range N h =
    let r = permitted_log N h in
    let low : 2 ^ 1 ≤ 2 ^ log_of N = pow_mono h in
    let high : 2 ^ log_of N ≤ 2 ^ 12 = pow_mono r.1 in
    (omega arith, omega arith)

-- What an exponent says that is found, and one that is not.
pub log_some : (k n : ℕ) → Some n ≡ as_exponent k → (k ≡ n) × (1 ≤ n)
log_some zero n e = cc
log_some (suc k) n e = let same : suc k ≡ n = cc in (same, omega arith)

pub log_none : (k : ℕ) → None ≡ as_exponent k → k ≡ 0
log_none zero e = refl
log_none (suc k) e = cc

positive : (k : ℕ) → 1 ≤ k → Some k ≡ as_exponent k
positive zero h = absurd (omega arith)
positive (suc k) h = refl

-- A one that is shifted loses nothing.
pub shifted : (k : ℕ) → k < 64 → 1 * 2 ^ k % 2 ^ 64 ≡ 2 ^ k
shifted k h = shl_exact 1 k 64 (lit< tt) (omega arith) ∙ one-mul _

-- A candidate that is met, and none of them.
pub exponent_met : (N n : ℕ) → 1 ≤ n → n ≤ 12 → N ≡ 2 ^ n → Some n ≡ exponent_of N
exponent_met N n a b e = let found : log_of N ≡ n = rw e (power_permitted n a b) in rw found (positive n a)

pub exponent_missed : (N : ℕ) → ((k : ℕ) → 1 ≤ k → k < 13 → N ≡ 2 ^ k → ⊥) → None ≡ exponent_of N
exponent_missed N missed =
    ⊎_elim (λ h. let r = permitted_log N h in absurd (missed _ h (omega arith) r.0)) (λ h. let e : log_of N ≡ 0 = omega arith in rw e refl) (lt_or_ge 0 (log_of N))

-- More than 2,048 entries are for no permitted length.
pub exponent_none : (h : ℕ) → 2048 < h → None ≡ exponent_of (h + h)
exponent_none h g = exponent_missed (h + h) (λ k a b e. let top : 2 ^ k ≤ 2 ^ 12 = pow_mono {i = k} {j = 12} (omega arith) in omega arith)
