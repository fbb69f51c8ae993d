use Rattle.kernels.proofs.Offered.{fixed_offered}
use Rattle.kernels.proofs.fdr_fixed_kernel.Goals as goal

pub unwrap-schedule-requires : goal.unwrap-schedule-requires
unwrap-schedule-requires c = fixed_offered c.args.schedule _ c.try_from.ensures c.requires.le_schedule.0 c.requires.le_schedule.1
