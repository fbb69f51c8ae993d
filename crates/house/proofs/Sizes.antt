-- The size of a table whose logarithm is found.
use Rattle.std.specs.Prelude.{ℕ, ◌+◌, ◌-◌, ◌^◌, ◌≤◌, ◌≡◌, true, Some, ltb}
use Rattle.std.proofs.Common.{arith, lt-ltb}
use Rattle.answer.specs.Lengths.{table_log, exponent_of}
use Rattle.answer.proofs.Lengths.{log_some, permitted_log}
use Rattle.house.specs.Filling.{table-length}

pub sized : (h n : ℕ) → Some n ≡ exponent_of (h + h) → (table_log h ≡ n) × (ltb 0 (table_log h) ≡ true) × (1 ≤ n) × (h ≡ 2 ^ (n - 1))
sized h n e =
    let r = log_some (table_log h) n e in
    let low : 1 ≤ table_log h = omega arith in
    (r.0, lt-ltb 0 (table_log h) low, r.1, rw r.0 at (table-length h low))

pub few : (h n : ℕ) → Some n ≡ exponent_of (h + h) → n ≤ 12
few h n e =
    let r = log_some (table_log h) n e in
    let low : 1 ≤ table_log h = omega arith in
    let high = (permitted_log (h + h) low).1 in
    omega arith
