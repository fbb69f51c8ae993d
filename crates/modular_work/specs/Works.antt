-- What the work of a schedule leaves, by the schedule's number.
use Rattle.std.specs.Prelude.{ℕ, cond, List, length, eqb}
use Rattle.fourier.specs.Schedules.{Buffer, Stage, columns, shuffle, schedule1, schedule2, schedule3, schedule4, schedule5}
use Rattle.fourier.specs.Numbers.{frequency_mod, time_mod}
use Rattle.stages.specs.Laws.{zeros}
use Rattle.modular_judgement.specs.Verdicts.{through_scratch}

-- What the schedule leaves of N = 2^n data, with a table of h = N/2 entries.
unfoldable pub by_schedule : ℕ → ℕ → ℕ → ℕ → (ℕ → ℕ) → Buffer ℕ → Buffer ℕ
by_schedule schedule n m h t d =
    cond (eqb schedule 1) (schedule1 n ℕ (frequency_mod m h t) d)
    (cond (eqb schedule 2) (schedule2 n ℕ (frequency_mod m h t) d)
    (cond (eqb schedule 3) (schedule3 n ℕ (frequency_mod m h t) d)
    (cond (eqb schedule 4) (schedule4 n ℕ (time_mod m h t) d)
    (schedule5 n ℕ (time_mod m h t) d))))

-- Stage s of schedule 1 or 2.
unfoldable pub stage_of : ℕ → ℕ → ℕ → Stage
stage_of schedule n s = cond (eqb schedule 1) (columns n s) (shuffle n s)

-- Scratch "is all zeros after success. Elsewhere it is neither tested nor touched".
unfoldable pub cleared : ℕ → List ℕ → List ℕ
cleared schedule scratch = cond (through_scratch schedule) (zeros 0 (length scratch)) scratch
