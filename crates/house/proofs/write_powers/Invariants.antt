-- In front of `entry` the table holds the powers, and `power` is the next one.
use Rattle.std.proofs.Common.{◌≡◌, ◌%◌, ◌^◌, length}
use Rattle.answer.specs.Lists.{at}
use Rattle.answer.proofs.Writes.{Written}
use Rattle.house.proofs.write_powers.Given as goal

abbrev pub invariant-loop-entry : goal.invariant-loop-entry
invariant-loop-entry l = (l.power.0 ≡ l.x.0 ^ l.entry-index % l.m.value) × Written 0 l.table (length l.initial.table) l.entry-index (λ k. l.x.0 ^ k % l.m.value) (at l.initial.table)
