use Rattle.std.proofs.Common.{◌∙◌, arith}
use Rattle.answer.proofs.Lists.{listed}
use Rattle.answer.proofs.Pairs.{paired_all}
use Rattle.stages.proofs.Blocks.{block_next}
use Rattle.stages.proofs.in_place.block.Goals as goal

pub loop-i-preserved : goal.loop-i-preserved
loop-i-preserved g c =
    let s = c.args in (
      omega arith,
      c.put-in-loop-i.ensures.len ∙ c.put.ensures.len ∙ c.loop-i.invariant.1,
      rw (c.put-in-loop-i.ensures.after, c.put.ensures.after)
          (block_next (g.S.Step.wing s.by) s.stride s.h c.loop-i.invariant.2 c.loop-i-test.true
          (rw (c.at-a.ensures, c.at-b.ensures) at c.pair-low.ensures.first) (rw (c.at-a.ensures, c.at-b.ensures) at c.pair-low.ensures.second)),
    )

pub returns-clause-after : goal.returns-clause-after
returns-clause-after g c = listed (paired_all c.loop-i.invariant.2 (omega arith))
