use Rattle.kernels.proofs.Offered.{modular_offered}
use Rattle.kernels.proofs.fdr_modular_kernel.Goals as goal

pub unwrap-schedule-requires : goal.unwrap-schedule-requires
unwrap-schedule-requires c = modular_offered c.args.schedule _ c.try_from.ensures c.requires.le_schedule.0 c.requires.le_schedule.1
