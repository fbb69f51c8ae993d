-- The blocks in front of block j are done.
use Rattle.std.specs.Prelude.{◌*◌, ◌+◌, ◌≤◌, ◌≡◌, length}
use Rattle.answer.proofs.Writes.{Written}
use Rattle.fourier.specs.Schedules.{butterfly, step}
use Rattle.stages.specs.Laws.{held}
use Rattle.stages.proofs.in_place.stage.Given as goal

abbrev pub invariant-loop-j : goal.invariant-loop-j
invariant-loop-j g l =
    let P = g.P.Places in
    let old = held P.zero (P.values l.initial.buf) in
    (l.j ≤ l.stride) × (length l.buf ≡ length l.initial.buf) × Written P.zero (P.values l.buf) (l.stride * (l.h + l.h)) (l.j * (l.h + l.h)) (step (g.S.Step.wing l.by) (butterfly l.stride l.h) old) old
