-- The buffer holds what schedule 1 has after s stages.
use Rattle.std.specs.Prelude.{◌^◌, ◌≤◌, ◌≡◌, length}
use Rattle.fourier.specs.Schedules.{columns}
use Rattle.stages.specs.Laws.{held}
use Rattle.stages.proofs.Going.{Going}
use Rattle.stages.proofs.in_place.by_columns.Given as goal

abbrev pub invariant-loop-s : goal.invariant-loop-s
invariant-loop-s g l =
    let P = g.P.Places in
    (l.s ≤ l.n) × (length l.buf ≡ length l.initial.buf) × Going P.zero g.S.Step.wing g.S.Step.Grown l.by (columns l.n) (2 ^ l.n) (held P.zero (P.values l.initial.buf)) l.s (P.values l.buf)
