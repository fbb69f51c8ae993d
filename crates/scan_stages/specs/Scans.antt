-- What the schedules in fixed point ask of a table and of a buffer.
use Rattle.std.specs.Prelude.{ℕ, ◌/◌, List, ℤ, length}
use Rattle.points.specs.Interleaved.{point}
use Rattle.points.specs.Steps.{Sized, Turns}

-- The sizes of each pair of the table sum to at most 23,171, and every point of the buffer is at most m in size. Behind its end a point
-- is (0, 0).
pub record Scanned (m : ℕ) (t l : List ℤ) : Type 0 where
  pub turns : Turns (point t) (length t / 2)
  pub each : (p : ℕ) → Sized m (point l p)
