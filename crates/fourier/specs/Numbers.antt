-- The steps on numbers below m with a table, and the sums and the inverse in plain numbers. Their theorems stand in proofs/.
use Rattle.std.specs.Prelude.{ℕ, ◌+◌, ◌-◌, ◌*◌, ◌/◌, ◌%◌, ◌^◌, ◌<◌, ◌≡◌}
use Rattle.std.proofs.Math.Path.{ap}
use Rattle.algebra.specs.Sum.{total, total_cong}
use Rattle.fourier.specs.Schedules.{Wing, Buffer, schedule4, Arithmetic, in_frequency, in_time}
use Rattle.fourier.specs.Table.{lookup, back}

-- ---- definitions

-- f(j) = the sum over k of A(k) x^(jk) modulo m, "as a number from 0 to m - 1".
unfoldable pub fourier_mod : ℕ → ℕ → ℕ → (ℕ → ℕ) → ℕ → ℕ
fourier_mod m x N A j = total N (λ k. A k * x ^ (j * k)) % m

-- It is made of the first N samples.
pub fourier_cong : (m x N : ℕ) {A B : ℕ → ℕ} (j : ℕ) → ((k : ℕ) → k < N → A k ≡ B k) → fourier_mod m x N A j ≡ fourier_mod m x N B j
unfolding fourier_mod
fourier_cong m x N j h = ap (λ z. z % m) (total_cong N (λ k l. ap (λ z. z * x ^ (j * k)) (h k l)))

-- Sum, difference and product modulo m.
abbrev pub plus_mod : ℕ → ℕ → ℕ → ℕ
plus_mod m a b = (a + b) % m

abbrev pub minus_mod : ℕ → ℕ → ℕ → ℕ
minus_mod m a b = (a + (m - b)) % m

abbrev pub times_mod : ℕ → ℕ → ℕ → ℕ
times_mod m a b = a * b % m

abbrev pub arithmetic_mod : ℕ → Arithmetic ℕ
arithmetic_mod m = record { plus = plus_mod m; minus = minus_mod m; times = times_mod m }

-- The steps over residues, with a table t of h = N/2 entries: of schedules 1, 2 and 3; of 4 and 5; and of the inverse.
abbrev pub frequency_mod : ℕ → ℕ → (ℕ → ℕ) → Wing ℕ
frequency_mod m h t = in_frequency (arithmetic_mod m) (lookup m h t)

abbrev pub time_mod : ℕ → ℕ → (ℕ → ℕ) → Wing ℕ
time_mod m h t = in_time (arithmetic_mod m) (lookup m h t)

abbrev pub back_mod : ℕ → ℕ → (ℕ → ℕ) → Wing ℕ
back_mod m h t = in_time (arithmetic_mod m) (back m h t)

-- The inverse: T1 with x^(-e), and "the factor 1/N is ((m + 1)/2)^n modulo m".
unfoldable pub inverse_mod : ℕ → ℕ → (ℕ → ℕ) → Buffer ℕ → Buffer ℕ
inverse_mod m n t d p = times_mod m (((m + 1) / 2) ^ n % m) (schedule4 n ℕ (back_mod m (2 ^ (n - 1)) t) d p)
