use Rattle.std.proofs.Common.{arith}
use Rattle.answer.proofs.Lengths.{log_some}
use Rattle.modular_judgement.specs.Ready.{stage_ready}
use Rattle.modular.proofs.Passing.{passed, sizes}
use Rattle.modular.proofs.staging.try_stage.Goals as goal

pub do_stage-requires : goal.do_stage-requires
do_stage-requires c =
    let w = c.in_ok-schedule.ensures in
    let ready = stage_ready _ _ _ _ _ _ (passed w.answers) in
    let log = log_some _ _ w.passes.1 in
    let size = sizes ready.2 w.passes.1 in
    record { below = rw w.passes.3 ready.2.judged.values; s_lt_n = rw w.passes.2 (omega arith, size.1, size.2); scratch_len = rw w.passes.0 ready.3 }
