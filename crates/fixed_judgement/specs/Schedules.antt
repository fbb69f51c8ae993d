-- The schedules by their numbers.
use Rattle.std.specs.Prelude.{ℕ, ◌≡◌, true, false, Result, Ok, Err}
use Rattle.answer.specs.declared.Refusal.{Refusal}
use Rattle.answer.specs.declared.Refusal.TheVariants as refusal
use Rattle.fixed_judgement.specs.Verdicts.{offers}
use Rattle.fixed_judgement.specs.declared.schedules.Schedule.{Schedule}
use Rattle.fixed_judgement.specs.declared.schedules.Schedule.TheVariants as schedule

-- The number of a schedule.
abbrev pub number_of : Schedule → ℕ
number_of schedule.Columns = 1
number_of schedule.Shuffle = 2
number_of schedule.Halves = 3

-- What a number gives: its schedule exactly where it is offered, else 7.
abbrev pub Numbered : ℕ → Result Schedule Refusal → Type 0
Numbered number (Ok s) = (offers number ≡ true) × (number_of s ≡ number)
Numbered number (Err r) = (offers number ≡ false) × (r ≡ refusal.Schedule)
