-- A number in the range is that of a schedule.
use Rattle.std.specs.Prelude.{ℕ, ◌≤◌, refl, Result, Ok, Err}
use Rattle.std.specs.Result.{IsOk}
use Rattle.std.proofs.Common.{le-leb, true≢false}
use Rattle.answer.specs.declared.Refusal.{Refusal}
use Rattle.modular_judgement.specs.Schedules as modular
use Rattle.modular_judgement.specs.Verdicts as modular-verdicts
use Rattle.modular_judgement.specs.declared.schedules.Schedule as modular-schedule
use Rattle.fixed_judgement.specs.Schedules as fixed
use Rattle.fixed_judgement.specs.Verdicts as fixed-verdicts
use Rattle.fixed_judgement.specs.declared.schedules.Schedule as fixed-schedule

pub modular_offered : (number : ℕ) (r : Result modular-schedule.Schedule Refusal) → modular.Numbered number r → 1 ≤ number → number ≤ 5 → IsOk r
unfolding modular-verdicts.offers
modular_offered number (Ok s) n a b = refl
modular_offered number (Err r) n a b = absurd (true≢false (rw (le-leb _ _ a, le-leb _ _ b) at n.0))

pub fixed_offered : (number : ℕ) (r : Result fixed-schedule.Schedule Refusal) → fixed.Numbered number r → 1 ≤ number → number ≤ 3 → IsOk r
unfolding fixed-verdicts.offers
fixed_offered number (Ok s) n a b = refl
fixed_offered number (Err r) n a b = absurd (true≢false (rw (le-leb _ _ a, le-leb _ _ b) at n.0))
