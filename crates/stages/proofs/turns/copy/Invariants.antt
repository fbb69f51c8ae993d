-- In front of place p all is copied.
use Rattle.std.specs.Prelude.{◌≤◌, length}
use Rattle.answer.proofs.Writes.{Written}
use Rattle.stages.specs.Laws.{held}
use Rattle.stages.proofs.turns.copy.Given as goal

abbrev pub invariant-loop-p : goal.invariant-loop-p
invariant-loop-p g l =
    let z = g.P.Places.blank in
    (l.p ≤ length l.from) × Written z l.to (length l.from) l.p (held z l.from) (held z l.initial.to)
