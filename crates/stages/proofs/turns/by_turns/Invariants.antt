-- The buffer holds what the schedule has after two stages a turn, and so does scratch in the middle of a turn.
use Rattle.std.specs.Prelude.{◌-◌, ◌*◌, ◌/◌, ◌^◌, ◌≤◌, ◌≡◌, length}
use Rattle.fourier.specs.Schedules.{shuffled}
use Rattle.stages.specs.Laws.{held}
use Rattle.stages.proofs.Going.{Going}
use Rattle.stages.proofs.turns.by_turns.Given as goal

abbrev pub invariant-loop-turn : goal.invariant-loop-turn
invariant-loop-turn g l =
    let P = g.P.Places in
    (l.turn ≤ l.n / 2) × (length l.scratch ≡ length l.initial.buf) × (length l.buf ≡ length l.initial.buf)
    × Going P.zero g.S.Step.wing g.S.Step.Grown l.by (λ s. shuffled (2 ^ (l.n - 1)) (g.E.Exponents.of l.n s)) (2 ^ l.n) (held P.zero (P.values l.initial.buf)) (2 * l.turn) (P.values l.buf)
