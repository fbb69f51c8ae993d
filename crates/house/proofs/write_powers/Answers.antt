use Rattle.std.proofs.Common.{◌∙◌, add-one, arith}
use Rattle.answer.proofs.Lists.{listed}
use Rattle.answer.proofs.Writes.{written_next, written_all}
use Rattle.house_rows.specs.Powers.{powers, power_next}
use Rattle.house.proofs.write_powers.Goals as goal

pub loop-entry-preserved : goal.loop-entry-preserved
loop-entry-preserved c =
    let l = c.loop-entry in
    (c.times-power.ensures ∙ rw (l.invariant.0, add-one) (power_next _ _ l.entry-index), written_next l.invariant.1 (omega arith) l.invariant.0)

pub returns : goal.returns
unfolding powers
returns c = listed (written_all c.loop-entry.invariant.1 (omega arith))
