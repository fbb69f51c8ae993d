use Rattle.std.proofs.Common.{◌≡◌, ◌*◌, ◌+◌, ◌∙◌, refl, le_refl, arith, lit≤}
use Rattle.answer.proofs.Lists.{listed}
use Rattle.answer.proofs.Writes.{written_all}
use Rattle.stages.proofs.Blocks.{stage_next}
use Rattle.stages.proofs.Cuts.{block_cut, cut_long, cut_values, back_values, back_long, cut_every}
use Rattle.stages.proofs.in_place.stage.Goals as goal

pub block-requires-clause-buf_len : goal.block-requires-clause-buf_len
block-requires-clause-buf_len g c = cut_long g.met.P.Places.laws c.loop-j.buf (block_cut c.loop-j.j c.loop-j.invariant.1 c.requires.buf_len c.loop-j-test.true)

pub block-requires-clause-ready : goal.block-requires-clause-ready
block-requires-clause-ready g c =
    let cut = block_cut c.loop-j.j c.loop-j.invariant.1 c.requires.buf_len c.loop-j-test.true in
    let laws = g.met.S.Step.laws in
    cut_every g.met.P.Places.laws c.loop-j.buf cut g.P.Places.zero (g.S.Step.Ready c.args.by)
    (λ i h. rw (c.loop-j.invariant.2.left (c.loop-j.j * (c.args.h + c.args.h) + i) (omega (arith, cut.room)) (omega arith)) (c.requires.ready _))
    (laws.ready c.args.by 0 _ (lit≤ tt) (laws.behind c.args.by 0))

pub loop-j-preserved : goal.loop-j-preserved
loop-j-preserved g c =
    let l = c.loop-j in
    let laws = g.met.P.Places.laws in
    let cut = block_cut l.j l.invariant.1 c.requires.buf_len c.loop-j-test.true in (
      omega arith,
      back_long laws l.buf cut c.block.new.buf c.block.ensures.len ∙ l.invariant.1,
      rw (back_values laws l.buf cut c.block.new.buf c.block.ensures.len)
          (stage_next (g.S.Step.wing c.args.by) c.args.stride c.args.h l.invariant.2 l.j (c.args.h + c.args.h) refl refl cut.room (omega arith) (rw (cut_values laws l.buf cut) at c.block.ensures.after)),
    )

pub returns-clause-after : goal.returns-clause-after
returns-clause-after g c = let e : c.loop-j.j ≡ c.args.stride = omega arith in listed (written_all c.loop-j.invariant.2 (rw e (le_refl _)))
