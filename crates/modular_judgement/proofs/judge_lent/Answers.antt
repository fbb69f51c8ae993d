-- A table that no rule refuses is accepted, and as short as the data ask.
use Rattle.std.specs.Prelude.{suc, length}
use Rattle.std.proofs.Common.{sym, arith}
use Rattle.answer.specs.Lists.{at}
use Rattle.answer.proofs.Search.{nowhere_passed}
use Rattle.fourier.specs.Table.{rule}
use Rattle.residues.specs.Judgement.{accepted_below}
use Rattle.modular_judgement.proofs.judge_lent.Goals as goal

pub invariant_of-result : goal.invariant_of-result
invariant_of-result c =
    let m = c.args.m.value in
    let t = c.args.table.now in
    let accepted = nowhere_passed (rule m (length t) (at t)) (suc (length t)) (sym c.in_default.ensures) in
    record { below = accepted_below m t (omega arith) accepted; few = omega arith }
