use Rattle.std.specs.Prelude.{refl}
use Rattle.std.proofs.Common.{◌∙◌, length-set, arith}
use Rattle.answer.proofs.Lengths.{shifted}
use Rattle.answer.proofs.Lists.{listed}
use Rattle.answer.proofs.Swaps.{exchanged_stay, exchanged_swap, exchanged_all}
use Rattle.fourier.specs.Reverse.{rev_lt}
use Rattle.reversal.proofs.Bits.{rev_partners}
use Rattle.reversal.proofs.reverse.Goals as goal
use Rattle.reversal.proofs.reverse.Goals.{then-i-j, else-i-j}

pub at-b-requires : goal.at-b-requires
at-b-requires g c = omega (arith, c.reversed-j.ensures, rev_lt c.args.n c.loop-i.i, c.loop-i.invariant.2.long)

pub put-requires-then-i-j : goal.put-requires-then-i-j
put-requires-then-i-j g c =
    rw c.put.ensures.after (simp length-set (omega (arith, c.reversed-j.ensures, rev_lt c.args.n c.loop-i.i, c.loop-i.invariant.2.long)))

pub loop-i-preserved : goal.loop-i-preserved
loop-i-preserved g c =
    let l = c.loop-i in
    let inside = rw (shifted c.args.n (omega arith)) at c.loop-i-test.true in
    let partners = rev_partners c.args.n refl in (
      omega (arith, inside),
      elim c.if-i-j.branch [ then-i-j w ↦ rw w.buf-is (w.put-then-i-j.ensures.len ∙ w.put.ensures.len ∙ l.invariant.1) | else-i-j w ↦ rw w.buf-is l.invariant.1 ],
      elim c.if-i-j.branch [
        | then-i-j w ↦ rw (w.buf-is, w.put-then-i-j.ensures.after, w.put.ensures.after, w.at-a.ensures, w.at-b.ensures) (exchanged_swap l.invariant.2 partners inside _ c.reversed-j.ensures w.if-i-j.true)
        | else-i-j w ↦ rw w.buf-is (exchanged_stay l.invariant.2 partners inside (omega (arith, c.reversed-j.ensures, w.if-i-j.false)))
      ],
    )

pub returns-clause-after : goal.returns-clause-after
returns-clause-after g c = listed (exchanged_all c.loop-i.invariant.2 (omega (arith, rw (shifted c.args.n (omega arith)) at c.loop-i-test.false)))
