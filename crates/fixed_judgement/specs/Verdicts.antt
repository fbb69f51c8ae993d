-- What the calls in fixed point answer: the first of document 01's conditions that holds, in its order.
use Rattle.std.specs.Prelude.{ℕ, ◌/◌, ◌%◌, Bool, true, cond, ◌&&◌, Option, List, ltb, leb, eqb, ℤ, pos, negsuc, length}
use Rattle.std.specs.Int.Signed.{le_z}
use Rattle.answer.specs.declared.Answer.{Answer}
use Rattle.answer.specs.Choice.{refuse, done, unless, judged_at}
use Rattle.answer.specs.Lengths.{log_of}
use Rattle.answer.specs.Search.{first}
use Rattle.points.specs.Interleaved.{number}
use Rattle.tables.specs.Rules.{bad_pair}

-- The n of the N = 2^n points that 2N numbers are, or 0 where no permitted N has so many.
unfoldable pub points_log : ℕ → ℕ
points_log l = cond (eqb (l % 2) 0) (log_of (l / 2)) 0

-- "2N in fixed point" for a permitted N.
abbrev pub permitted_length : ℕ → Bool
permitted_length l = ltb 0 (points_log l)

-- "A sample part lies from -32,767 to 32,767."
abbrev pub least : ℤ
least = negsuc 32766

abbrev pub most : ℤ
most = pos 32767

unfoldable pub in_range : ℤ → Bool
in_range z = le_z least z && le_z z most

-- So it is of the number at place q.
abbrev pub ranged : List ℤ → ℕ → Bool
ranged buf q = in_range (number buf q)

-- 5: the first number "outside the fixed range".
abbrev pub bad_sample : List ℤ → Option ℕ
bad_sample buf = first (ranged buf) 0 (length buf)

-- Scratch is as long as the data, where it counts: for schedule 2.
unfoldable pub scratch_fits : ℕ → ℕ → ℕ → Bool
scratch_fits schedule scratch l = cond (eqb schedule 2) (eqb scratch l) true

-- "Only schedules 1, 2 and 3 exist here."
unfoldable pub offers : ℕ → Bool
offers schedule = leb 1 schedule && leb schedule 3

-- The transform: 7, 1, 6, 3, 4, 5. Of scratch only the length counts; a table for N has N numbers.
unfoldable pub transform_verdict : ℕ → List ℤ → List ℤ → ℕ → Answer
transform_verdict schedule buf table scratch =
    unless (offers schedule) (refuse 7)
    (unless (permitted_length (length buf)) (refuse 1)
    (unless (scratch_fits schedule scratch (length buf)) (refuse 6)
    (unless (eqb (length table) (length buf / 2)) (refuse 3)
    (judged_at 4 (bad_pair table)
    (judged_at 5 (bad_sample buf) done)))))

-- Bit reversal of pairs: 1.
unfoldable pub reverse_verdict : List ℤ → Answer
reverse_verdict buf = unless (permitted_length (length buf)) (refuse 1) done
