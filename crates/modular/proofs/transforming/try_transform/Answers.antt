use Rattle.modular_judgement.specs.Ready.{transform_ready}
use Rattle.modular.proofs.Passing.{passed, sizes}
use Rattle.modular.proofs.transforming.try_transform.Goals as goal

pub do_schedule-requires : goal.do_schedule-requires
do_schedule-requires c =
    let w = c.in_ok-schedule.ensures in
    let ready = transform_ready _ _ _ _ _ (passed w.answers) in
    record { below = rw w.passes.3 ready.1.judged.values; le_n = rw w.passes.2 (sizes ready.1 w.passes.1); scratch_len = rw w.passes.0 ready.2 }
