-- What is known of what was lent, where nothing was refused.
use Rattle.std.specs.Prelude.{ℕ, ◌+◌, ◌-◌, ◌^◌, ◌≤◌, ◌≡◌, List, true, Some, length, ltb}
use Rattle.std.proofs.Common.{sym, ap, arith, lt-ltb}
use Rattle.answer.specs.declared.Answer.{Answer}
use Rattle.answer.specs.Choice.{done}
use Rattle.answer.specs.Lengths.{log_of, table_log, exponent_of}
use Rattle.answer.proofs.Lengths.{log_some, permitted_log, permitted_range}
use Rattle.modular_judgement.specs.Ready.{Ready}

-- A verdict that is done has the number 0.
pub passed : {verdict : Answer} → done ≡ verdict → verdict.number ≡ 0
passed e = ap (λ (a : Answer). a.number) (sym e)

-- The sizes by the n that was found.
pub sizes : {buf : List ℕ} {m : ℕ} {table : List ℕ} {n : ℕ} → Ready buf m table → Some n ≡ exponent_of (length buf) → (1 ≤ n) × (length buf ≡ 2 ^ n) × (length table ≡ 2 ^ (n - 1))
sizes {buf} {n = n} r e =
    let l = log_some (log_of (length buf)) n e in
    (l.1, rw l.0 at r.whole, rw l.0 at r.half)

pub whole : (N n : ℕ) → Some n ≡ exponent_of N → (N ≡ 2 ^ n) × (n ≤ 12)
whole N n e =
    let l = log_some (log_of N) n e in
    rw l.0 at (permitted_log N (omega arith))

-- A table whose logarithm is found has an entry.
pub some_entry : (h n : ℕ) → Some n ≡ exponent_of (h + h) → (ltb 0 (table_log h) ≡ true) × (1 ≤ h)
some_entry h n e =
    let r = log_some (table_log h) n e in
    let low : 1 ≤ table_log h = omega arith in
    let range = permitted_range (h + h) low in
    (lt-ltb 0 (table_log h) low, omega arith)
