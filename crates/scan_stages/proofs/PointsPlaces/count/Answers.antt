use Rattle.std.proofs.Common.{sym}
use Rattle.answer.specs.Lists.{length-tabulate}
use Rattle.scan_stages.proofs.PointsPlaces.count.Goals as goal

pub returns : goal.returns
returns c = sym (length-tabulate _ _)
