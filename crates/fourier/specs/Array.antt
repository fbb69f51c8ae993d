-- Dijkstra's two-dimensional array over any carrier and any step, and how a schedule embeds it in a buffer.
use Prim.Native.Nat.{ℕ, zero, suc, ◌+◌, ◌-◌, ◌*◌, ◌/◌, ◌%◌, ◌^◌, ◌<◌, ◌≤◌}
use Rattle.std.specs.Prelude.{◌≡◌}
use Rattle.std.proofs.Common.{le_refl, pow_pos}
use Rattle.std.proofs.Math.Nat.{sub-zero}
use native.Mathlib.Omega.{arith}
use Rattle.fourier.specs.Reverse.{rev}
use Rattle.fourier.specs.Schedules.{Wing, Buffer, from, Stage, step, run}
use Rattle.fourier.specs.Sizes.{rows}

-- The exponent of step s, counted from 0, at row i and at column j before the step.
abbrev pub Exponents : Type 0
Exponents = ℕ → ℕ → ℕ → ℕ

-- Decimation in frequency: the exponent of 004's equation 4; and in time (001).
abbrev pub frequency : Exponents
frequency s i j = 2 ^ s * i

abbrev pub time : ℕ → Exponents
time n s i j = 2 ^ (n - suc s) * rev s j

-- After s steps, 2^(n-s) rows i and 2^s columns j (004, equations 2 and 4): columns 2j and 2j + 1 come from column j, and row i from
-- the rows i and i + 2^(n-s-1).
unfoldable pub array : {C : Type 0} → Wing C → Exponents → ℕ → Buffer C → ℕ → ℕ → ℕ → C
array w e n A zero i j = A i
array w e n A (suc s) i j = w (j % 2) (e s i (j / 2)) (array w e n A s i (j / 2)) (array w e n A s (i + 2 ^ (n - suc s)) (j / 2))

-- The array after s steps stands in the buffer d, row i and column j at `place i j`.
pub record Embedded {C : Type 0} (w : Wing C) (e : Exponents) (n : ℕ) (A : Buffer C) (place : ℕ → ℕ → ℕ) (s : ℕ) (d : Buffer C) : Type 0 where
  pub at : (i j : ℕ) → i < 2 ^ (n - s) → j < 2 ^ s → d (place i j) ≡ array w e n A s i j

-- A schedule embeds the array: after s stages row i and column j stand at `place s i j`. Sample i stands at `order i` before the first
-- stage, and column p of the last row stands at `order p` behind the last.
pub record Embeds (e : Exponents) (n : ℕ) (order : ℕ → ℕ) (place : ℕ → ℕ → ℕ → ℕ) (σ : ℕ → Stage) : Type 0 where
  pub start : (i : ℕ) → i < 2 ^ n → place 0 i 0 ≡ order i
  pub takes : (s i j : ℕ) → s < n → i < 2 ^ (n - suc s) → j < 2 ^ suc s →
      σ s (place (suc s) i j) ≡ from (j % 2) (e s i (j / 2)) (place s i (j / 2)) (place s (i + 2 ^ (n - suc s)) (j / 2))
  pub finish : (p : ℕ) → p < 2 ^ n → place n 0 p ≡ order p

module _ {e : Exponents} {n : ℕ} {order : ℕ → ℕ} {place : ℕ → ℕ → ℕ → ℕ} {σ : ℕ → Stage} (embeds : Embeds e n order place σ) {C : Type 0} (w : Wing C) where
  -- One stage takes the array to the next.
  pub stage_array : {A : Buffer C} (s : ℕ) {d : Buffer C} → s < n → Embedded w e n A (place s) s d → Embedded w e n A (place (suc s)) (suc s) (step w (σ s) d)
  unfolding array
  stage_array s l held = record {
    at = λ i j hi hj.
        let hk : j / 2 < 2 ^ s = omega arith in
        rw (embeds.takes s i j l hi hj, held.at i (j / 2) (omega (arith, rows l)) hk, held.at (i + 2 ^ (n - suc s)) (j / 2) (omega (arith, rows l)) hk);
  }

  -- After s stages the array of s steps stands in the buffer.
  pub run-array : (d : Buffer C) (s : ℕ) → s ≤ n → Embedded w e n (λ i. d (order i)) (place s) s (run w σ s d)
  unfolding run array
  run-array d zero l = record {
    at = λ i j hi hj. let z : j ≡ 0 = omega arith in rw (z, embeds.start i (rw sub-zero at hi));
  }
  run-array d (suc s) l = stage_array s l (run-array d s (omega arith))

  -- After all stages its last row does.
  pub run_last : (d : Buffer C) (p : ℕ) → p < 2 ^ n → run w σ n d (order p) ≡ array w e n (λ i. d (order i)) n 0 p
  run_last d p hp = rw (embeds.finish p hp) at ((run-array d n (le_refl n)).at 0 p (pow_pos (n - n)) hp)
