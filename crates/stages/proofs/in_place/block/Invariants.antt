-- The pairs in front of i are done.
use Rattle.std.specs.Prelude.{◌≤◌, ◌≡◌, length}
use Rattle.answer.proofs.Pairs.{Paired}
use Rattle.fourier.specs.Schedules.{butterfly, step}
use Rattle.stages.specs.Laws.{held}
use Rattle.stages.proofs.in_place.block.Given as goal

abbrev pub invariant-loop-i : goal.invariant-loop-i
invariant-loop-i g l =
    let P = g.P.Places in
    let old = held P.zero (P.values l.initial.buf) in
    (l.i ≤ l.h) × (length l.buf ≡ length l.initial.buf) × Paired P.zero (P.values l.buf) l.h l.i (step (g.S.Step.wing l.by) (butterfly l.stride l.h) old) old
