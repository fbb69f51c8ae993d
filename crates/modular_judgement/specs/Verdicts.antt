-- What the calls over residues answer: the first of document 01's conditions that holds, in its order.
use Rattle.std.specs.Prelude.{ℕ, ◌/◌, Bool, true, cond, ◌&&◌, List, length, ltb, leb, eqb}
use Rattle.answer.specs.declared.Answer.{Answer}
use Rattle.answer.specs.Choice.{refuse, done, unless, judged_at}
use Rattle.answer.specs.Lengths.{log_of, table_log}
use Rattle.residues.specs.Moduli.{permits}
use Rattle.residues.specs.Judgement.{bad_entry, bad_sample}

-- N entries for a permitted N.
abbrev pub permitted_length : ℕ → Bool
permitted_length N = ltb 0 (log_of N)

-- The table of N/2 entries by 3 and 4, and the samples by 5.
unfoldable pub lent_verdict : ℕ → List ℕ → List ℕ → Answer
lent_verdict m table buf =
    unless (eqb (length table) (length buf / 2)) (refuse 3)
    (judged_at 4 (bad_entry m table)
    (judged_at 5 (bad_sample m buf) done))

-- Acceptance alone: 2, 3, 4, where N follows from the table's length.
unfoldable pub accept_verdict : ℕ → List ℕ → Answer
accept_verdict m table =
    unless (permits m) (refuse 2)
    (unless (ltb 0 (table_log (length table))) (refuse 3)
    (judged_at 4 (bad_entry m table) done))

-- The schedules that work through scratch: "scratch counts only for schedules 2 and 5".
abbrev pub through_scratch : ℕ → Bool
through_scratch schedule = cond (eqb schedule 2) true (eqb schedule 5)

-- Scratch is as long as the data, where it counts.
unfoldable pub scratch_fits : ℕ → ℕ → ℕ → Bool
scratch_fits schedule scratch N = cond (through_scratch schedule) (eqb scratch N) true

-- From the modulus on: 2, 6, 3, 4, 5. Of scratch only the length counts.
unfoldable pub rest_verdict : ℕ → List ℕ → ℕ → List ℕ → ℕ → Answer
rest_verdict schedule buf m table scratch =
    unless (permits m) (refuse 2)
    (unless (scratch_fits schedule scratch (length buf)) (refuse 6)
    (lent_verdict m table buf))

-- The transform: 7, 1, 2, 6, 3, 4, 5. All five schedules are offered.
unfoldable pub offers : ℕ → Bool
offers schedule = leb 1 schedule && leb schedule 5

unfoldable pub transform_verdict : ℕ → List ℕ → ℕ → List ℕ → ℕ → Answer
transform_verdict schedule buf m table scratch =
    unless (offers schedule) (refuse 7)
    (unless (permitted_length (length buf)) (refuse 1)
    (rest_verdict schedule buf m table scratch))

-- A single stage s: 7, 1, 8, 2, 6, 3, 4, 5. "Of schedules 1 and 2."
unfoldable pub offers_stage : ℕ → Bool
offers_stage schedule = leb 1 schedule && leb schedule 2

unfoldable pub stage_verdict : ℕ → ℕ → List ℕ → ℕ → List ℕ → ℕ → Answer
stage_verdict schedule s buf m table scratch =
    unless (offers_stage schedule) (refuse 7)
    (unless (permitted_length (length buf)) (refuse 1)
    (unless (ltb s (log_of (length buf))) (refuse 8)
    (rest_verdict schedule buf m table scratch)))

-- The inverse: 1, 2, 3, 4, 5.
unfoldable pub inverse_verdict : List ℕ → ℕ → List ℕ → Answer
inverse_verdict buf m table =
    unless (permitted_length (length buf)) (refuse 1)
    (unless (permits m) (refuse 2)
    (lent_verdict m table buf))

-- Bit reversal: 1.
unfoldable pub reverse_verdict : List ℕ → Answer
reverse_verdict buf = unless (permitted_length (length buf)) (refuse 1) done
