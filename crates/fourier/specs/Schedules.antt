-- The five schedules over any carrier and any step. A stage says for each place where its new value comes from.
use Rattle.std.specs.Prelude.{ℕ, zero, suc, ◌+◌, ◌-◌, ◌*◌, ◌/◌, ◌%◌, ◌^◌}
use Rattle.fourier.specs.Reverse.{rev}

-- A step on a pair: w 0 e a b and w 1 e a b are what its two places receive that held a and b, at the exponent e.
abbrev pub Wing : Type 0 → Type 0
Wing C = ℕ → ℕ → C → C → C

-- A buffer, by its places.
abbrev pub Buffer : Type 0 → Type 0
Buffer C = ℕ → C

-- Where a place's new value comes from: part 0 or 1 of the step at the exponent, on what stands at the places first and second.
pub record Source : Type 0 where
  pub part : ℕ
  pub exponent : ℕ
  pub first : ℕ
  pub second : ℕ

abbrev pub from : ℕ → ℕ → ℕ → ℕ → Source
from x e a b = record { part = x; exponent = e; first = a; second = b }

abbrev pub Stage : Type 0
Stage = ℕ → Source

-- ---- stages

-- In blocks of 2h places those h apart are a pair, at the exponents 0, stride, 2 stride, ..
-- Place p, the i-th of run j of h places, belongs to block j / 2.
unfoldable pub butterfly : ℕ → ℕ → Stage
butterfly stride h p =
    let i = p % h in
    let j = p / h in
    let q = j / 2 * (h + h) + i in
    from (j % 2) (stride * i) q (q + h)

-- The places k and k + half, at the exponent e k, give places 2k and 2k + 1.
unfoldable pub shuffled : ℕ → (ℕ → ℕ) → Stage
shuffled half e p = let k = p / 2 in from (p % 2) (e k) k (k + half)

-- Schedule 1, by columns, of N = 2^n places: stage s.
abbrev pub columns : ℕ → ℕ → Stage
columns n s = butterfly (2 ^ s) (2 ^ (n - suc s))

-- Schedule 2, the perfect shuffle: stage s.
abbrev pub shuffle : ℕ → ℕ → Stage
shuffle n s = shuffled (2 ^ (n - 1)) (λ k. k - k % 2 ^ s)

-- Schedule 4, Thong's T1: stage t, counted from 0.
abbrev pub thong : ℕ → ℕ → Stage
thong n t = butterfly (2 ^ (n - suc t)) (2 ^ t)

-- Schedule 5, Pease: stage t, counted from 0.
abbrev pub pease : ℕ → ℕ → Stage
pease n t = shuffled (2 ^ (n - 1)) (λ k. 2 ^ (n - suc t) * rev t (k % 2 ^ t))

-- ---- runs

module _ {C : Type 0} (w : Wing C) where
  -- One stage.
  abbrev pub step : Stage → Buffer C → Buffer C
  step σ d p = w (σ p).part (σ p).exponent (d (σ p).first) (d (σ p).second)

  -- The first s stages of a schedule.
  unfoldable pub run : (ℕ → Stage) → ℕ → Buffer C → Buffer C
  run σ zero d = d
  run σ (suc s) d = step (σ s) (run σ s d)

-- Exponents that count c times.
abbrev pub strided : {C : Type 0} → ℕ → Wing C → Wing C
strided c w x e = w x (c * e)

-- Schedule 3, by halves: the first stage of schedule 1 on 2^(n+1) places, then the same on half p / 2^n by itself, where exponents
-- count double.
unfoldable pub halves : {C : Type 0} → Wing C → ℕ → Buffer C → Buffer C
halves w zero d p = d p
halves w (suc n) d p =
    let h = 2 ^ n in
    halves (strided 2 w) n (λ q. step w (butterfly 1 h) d (p / h * h + q)) (p % h)

-- ---- whole schedules of N = 2^n places, by document 01's numbers: for any carrier and step, from the buffer before to the buffer behind

abbrev pub Schedule : Type 1
Schedule = (C : Type 0) → Wing C → Buffer C → Buffer C

abbrev pub schedule1 : ℕ → Schedule
schedule1 n C w = run w (columns n) n

abbrev pub schedule2 : ℕ → Schedule
schedule2 n C w = run w (shuffle n) n

abbrev pub schedule3 : ℕ → Schedule
schedule3 n C w = halves w n

abbrev pub schedule4 : ℕ → Schedule
schedule4 n C w = run w (thong n) n

abbrev pub schedule5 : ℕ → Schedule
schedule5 n C w = run w (pease n) n

-- ---- steps

-- What the steps of document 01 need of a carrier.
pub record Arithmetic (C : Type 0) : Type 0 where
  pub plus : C → C → C
  pub minus : C → C → C
  pub times : C → C → C

module _ {C : Type 0} (A : Arithmetic C) (t : ℕ → C) where
  -- Schedules 1, 2 and 3: the sum, and x^e times the difference; t e is x^e.
  abbrev pub in_frequency : Wing C
  in_frequency zero e a b = A.plus a b
  in_frequency (suc x) e a b = A.times (t e) (A.minus a b)

  -- Schedules 4 and 5: the second is first multiplied by x^e; then sum and difference.
  abbrev pub in_time : Wing C
  in_time zero e a b = A.plus a (A.times (t e) b)
  in_time (suc x) e a b = A.minus a (A.times (t e) b)
