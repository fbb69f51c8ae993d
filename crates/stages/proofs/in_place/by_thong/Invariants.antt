-- The buffer holds what T1 has after t stages.
use Rattle.std.specs.Prelude.{◌^◌, ◌≤◌, ◌≡◌, length}
use Rattle.fourier.specs.Schedules.{thong}
use Rattle.stages.specs.Laws.{held}
use Rattle.stages.proofs.Going.{Going}
use Rattle.stages.proofs.in_place.by_thong.Given as goal

abbrev pub invariant-loop-t : goal.invariant-loop-t
invariant-loop-t g l =
    let P = g.P.Places in
    (l.t ≤ l.n) × (length l.buf ≡ length l.initial.buf) × Going P.zero g.S.Step.wing g.S.Step.Grown l.by (thong l.n) (2 ^ l.n) (held P.zero (P.values l.initial.buf)) l.t (P.values l.buf)
