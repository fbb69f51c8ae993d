-- The pairs in front of k are done, and e is the exponent of pair k.
use Rattle.std.specs.Prelude.{◌-◌, ◌*◌, ◌^◌, ◌≤◌, ◌≡◌, length}
use Rattle.answer.proofs.Writes.{Written}
use Rattle.fourier.specs.Schedules.{shuffled, step}
use Rattle.stages.specs.Laws.{held}
use Rattle.stages.proofs.turns.stage.Given as goal

abbrev pub invariant-loop-k : goal.invariant-loop-k
invariant-loop-k g l =
    let P = g.P.Places in
    (l.k ≤ 2 ^ (l.n - 1)) × (l.e.0 ≡ g.E.Exponents.of l.n l.s l.k) × (length l.to ≡ length l.initial.to)
    × Written P.zero (P.values l.to) (2 ^ l.n) (2 * l.k) (step (g.S.Step.wing l.by) (shuffled (2 ^ (l.n - 1)) (g.E.Exponents.of l.n l.s)) (held P.zero (P.values l.from))) (held P.zero (P.values l.initial.to))
