-- The permitted lengths.
use Rattle.std.specs.Prelude.{ℕ, zero, suc, ◌+◌, ◌^◌, ◌≤◌, ◌<◌, ◌≡◌, refl, Bool, true, false, cond, eqb, Option, Some, None}
use Rattle.std.proofs.Common.{sym, ⊎_elim, eq-or-lt_of_le, arith, eq-eqb, ne_eqb, eqb-true}
use Rattle.std.proofs.Math.Pow.{pow-lt}

-- The n from 1 to k with N = 2^n, or 0 where there is none.
unfoldable pub log_up_to : ℕ → ℕ → ℕ
log_up_to zero N = 0
log_up_to (suc k) N = cond (eqb N (2 ^ suc k)) (suc k) (log_up_to k N)

-- The n of a permitted length, "N = 2^n, from 2 to 4,096", or 0 where N is not permitted.
unfoldable pub log_of : ℕ → ℕ
log_of N = log_up_to 12 N

-- The n of a permitted length, as code answers it.
abbrev pub as_exponent : ℕ → Option ℕ
as_exponent zero = None
as_exponent (suc n) = Some (suc n)

abbrev pub exponent_of : ℕ → Option ℕ
exponent_of N = as_exponent (log_of N)

-- The n of the N = 2^n that a table of h = N/2 entries is for, or 0 where no permitted N has it.
abbrev pub table_log : ℕ → ℕ
table_log h = log_of (h + h)

-- Each candidate from 1 to k is found.
pub found : (k n : ℕ) → 1 ≤ n → n ≤ k → log_up_to k (2 ^ n) ≡ n
unfolding log_up_to
found zero n a b = absurd (omega arith)
found (suc k) n a b =
    ⊎_elim (λ e. rw (eq-eqb (2 ^ n) (2 ^ suc k) (rw e refl)) (sym e))
    (λ l. let h : 2 ^ n < 2 ^ suc k = pow-lt l in rw (ne_eqb (2 ^ n) (2 ^ suc k) (λ e. omega arith)) (found k n a (omega arith))) (eq-or-lt_of_le b)

-- What is found is a candidate.
pub candidate : (k N : ℕ) → 1 ≤ log_up_to k N → (N ≡ 2 ^ log_up_to k N) × (log_up_to k N ≤ k)
unfolding log_up_to
candidate zero N h = absurd (omega arith)
candidate (suc k) N h = go (eqb N (2 ^ suc k)) refl h (candidate k N)
  where
    go : (t : Bool) → eqb N (2 ^ suc k) ≡ t → 1 ≤ cond t (suc k) (log_up_to k N) → (1 ≤ log_up_to k N → (N ≡ 2 ^ log_up_to k N) × (log_up_to k N ≤ k)) →
        (N ≡ 2 ^ cond t (suc k) (log_up_to k N)) × (cond t (suc k) (log_up_to k N) ≤ suc k)
    go true e q ih = (eqb-true N (2 ^ suc k) e, omega arith)
    go false e q ih = let r = ih q in (r.0, omega arith)

-- 2^n is permitted for n from 1 to 12.
pub power_permitted : (n : ℕ) → 1 ≤ n → n ≤ 12 → log_of (2 ^ n) ≡ n
unfolding log_of
power_permitted n a b = found _ n a (omega arith)
