use Rattle.std.proofs.Common.{arith}
use Rattle.answer.proofs.Lists.{listed}
use Rattle.answer.proofs.Writes.{written_all}
use Rattle.runs.proofs.scale.Goals as goal

pub returns : goal.returns
returns c = listed (written_all c.loop-value.invariant (omega arith))
