-- The pairs of the constant that a table takes.
use Prim.Native.Nat.{ℕ, ◌*◌, ◌/◌, ◌≤◌}
use mathlib.Core.Path.{◌≡◌, ap}
use Rattle.answer.specs.Lengths.{log_of}
use Rattle.answer.proofs.Lengths.{permitted_log}
use Rattle.points.specs.Interleaved.{point}
use Rattle.sine.specs.Constant.{sine}
use Rattle.sine.specs.Sine.{sine_pair}

-- Pair p of a table of N numbers stands in the constant as pair p times 4,096/N.
pub source-pair : (N : ℕ) → 1 ≤ log_of N → (p : ℕ) → point sine (4096 / N * p) ≡ sine_pair (log_of N) p
unfolding sine_pair
source-pair N permitted p = ap (λ (z : ℕ). point sine (4096 / z * p)) (permitted_log N permitted).0
