use Rattle.std.specs.Prelude.{refl}
use Rattle.std.proofs.Common.{◌∙◌, arith}
use Rattle.std.proofs.lemmas.List.{get_or_default}
use Rattle.answer.proofs.Lists.{listed, tabulate_self}
use Rattle.answer.proofs.Writes.{written_none, written_next, written_all}
use Rattle.stages.proofs.turns.copy.Goals as goal

pub loop-p-init : goal.loop-p-init
loop-p-init g c = (omega arith, written_none (record { long = c.requires; here = λ p h. refl }))

pub loop-p-preserved : goal.loop-p-preserved
loop-p-preserved g c =
    (omega arith, written_next c.loop-p.invariant.1 (omega arith) (c.index-from-p.is ∙ get_or_default c.args.from.now c.loop-p.p _ g.P.Places.blank (omega arith)))

pub returns : goal.returns
returns g c = listed (written_all c.loop-p.invariant.1 (omega arith)) ∙ tabulate_self g.P.Places.blank _
