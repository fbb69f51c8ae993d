-- What the tests of a call tell.
use Rattle.std.specs.Prelude.{ℕ, ◌≡◌, true, Some}
use Rattle.std.proofs.Common.{lt-ltb, arith}
use Rattle.answer.specs.Lengths.{as_exponent}
use Rattle.answer.proofs.Lengths.{log_some}
use Rattle.fixed_judgement.specs.Verdicts.{points_log, permitted_length}

-- `points_log(l)?`, passed.
pub long : (l n : ℕ) → Some n ≡ as_exponent (points_log l) → permitted_length l ≡ true
long l n e = let found = log_some (points_log l) n e in lt-ltb 0 (points_log l) (omega arith)
