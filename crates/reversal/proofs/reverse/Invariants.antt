-- The pairs with a place in front of i are exchanged.
use Rattle.std.specs.Prelude.{◌^◌, ◌≤◌, ◌≡◌, length}
use Rattle.answer.proofs.Swaps.{Exchanged}
use Rattle.fourier.specs.Reverse.{rev}
use Rattle.stages.specs.Laws.{held}
use Rattle.reversal.proofs.reverse.Given as goal

abbrev pub invariant-loop-i : goal.invariant-loop-i
invariant-loop-i g l =
    let P = g.P.Places in
    (l.i ≤ 2 ^ l.n) × (length l.buf ≡ length l.initial.buf) × Exchanged P.zero (P.values l.buf) (2 ^ l.n) l.i (rev l.n) (held P.zero (P.values l.initial.buf))
