-- The rules hold in front of the places that are left, and `wanted` is what they want there.
use Rattle.std.specs.Prelude.{◌≤◌, ◌≡◌, length}
use Rattle.answer.specs.Lists.{at}
use Rattle.residue_tables.proofs.Rules.{Reached}
use Rattle.residue_tables.proofs.judge_table.Given as goal

abbrev pub invariant-loop-place : goal.invariant-loop-place
invariant-loop-place l = (l.places.end ≡ length l.table) × (l.places.start ≤ l.places.end) × Reached l.m.value (length l.table) (at l.table) l.wanted l.places.start
