-- What the work of a schedule leaves, by the schedule's number.
use Rattle.std.specs.Prelude.{ℕ, cond, List, eqb, ℤ, length, pos}
use Rattle.fourier.specs.Schedules.{Schedule, schedule1, schedule2, schedule3}
use Rattle.stages.specs.Laws.{zeros}

-- The schedule of N = 2^n points.
unfoldable pub by_schedule : ℕ → ℕ → Schedule
by_schedule schedule n C w d =
    cond (eqb schedule 1) (schedule1 n C w d)
    (cond (eqb schedule 2) (schedule2 n C w d)
    (schedule3 n C w d))

-- Scratch "is all zeros after success. Elsewhere it is neither tested nor touched".
unfoldable pub cleared : ℕ → List ℤ → List ℤ
cleared schedule scratch = cond (eqb schedule 2) (zeros (pos 0) (length scratch)) scratch
