-- What the logarithm of a length tells.
use Rattle.std.specs.Prelude.{ℕ, ◌/◌, ◌≤◌, ◌≡◌, true, false, Some, None}
use Rattle.std.proofs.Common.{arith, lt-ltb, le-ltb}
use Rattle.answer.specs.Lengths.{log_of, exponent_of}
use Rattle.answer.proofs.Lengths.{log_some, log_none, permitted_range}
use Rattle.modular_judgement.specs.Verdicts.{permitted_length}

-- Of a permitted length.
pub long : (N n : ℕ) → Some n ≡ exponent_of N → (permitted_length N ≡ true) × (log_of N ≡ n) × (1 ≤ N / 2) × (N ≤ 4096)
long N n e =
    let r = log_some (log_of N) n e in
    let low : 1 ≤ log_of N = omega arith in
    let range = permitted_range N low in
    (lt-ltb 0 (log_of N) low, r.0, omega arith, omega arith)

-- Of another.
pub short : (N : ℕ) → None ≡ exponent_of N → permitted_length N ≡ false
short N e = let z = log_none (log_of N) e in le-ltb 0 (log_of N) (omega arith)
