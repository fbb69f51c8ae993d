-- The schedules by their numbers.
use Rattle.std.specs.Prelude.{ℕ, ◌≡◌, true, false, Result, Ok, Err}
use Rattle.answer.specs.declared.Refusal.{Refusal}
use Rattle.answer.specs.declared.Refusal.TheVariants as refusal
use Rattle.modular_judgement.specs.Verdicts.{offers, offers_stage}
use Rattle.modular_judgement.specs.declared.schedules.Schedule.{Schedule}
use Rattle.modular_judgement.specs.declared.schedules.Schedule.TheVariants as schedule
use Rattle.modular_judgement.specs.declared.schedules.Single.{Single}
use Rattle.modular_judgement.specs.declared.schedules.Single.TheVariants as single

-- The number of a schedule.
abbrev pub number_of : Schedule → ℕ
number_of schedule.Columns = 1
number_of schedule.Shuffle = 2
number_of schedule.Halves = 3
number_of schedule.Thong = 4
number_of schedule.Pease = 5

-- And of one whose single stages are offered.
abbrev pub single_number : Single → ℕ
single_number single.Columns = 1
single_number single.Shuffle = 2

-- What a number gives: its schedule exactly where it is offered, else 7.
abbrev pub Numbered : ℕ → Result Schedule Refusal → Type 0
Numbered number (Ok s) = (offers number ≡ true) × (number_of s ≡ number)
Numbered number (Err r) = (offers number ≡ false) × (r ≡ refusal.Schedule)

abbrev pub SingleNumbered : ℕ → Result Single Refusal → Type 0
SingleNumbered number (Ok s) = (offers_stage number ≡ true) × (single_number s ≡ number)
SingleNumbered number (Err r) = (offers_stage number ≡ false) × (r ≡ refusal.Schedule)
