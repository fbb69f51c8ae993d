-- The rules hold in front of the places that are left.
use Rattle.std.specs.Prelude.{suc, ◌/◌, ◌≤◌, ◌≡◌, length}
use Rattle.answer.specs.Search.{Passed}
use Rattle.points.specs.Interleaved.{point}
use Rattle.tables.specs.Rules.{rule}
use Rattle.tables.proofs.judging.judge_table.Given as goal

abbrev pub invariant-loop-place : goal.invariant-loop-place
invariant-loop-place l = (l.places.end ≡ suc (length l.table / 2)) × (l.places.start ≤ l.places.end) × Passed (rule (length l.table / 2) (point l.table)) l.places.start
