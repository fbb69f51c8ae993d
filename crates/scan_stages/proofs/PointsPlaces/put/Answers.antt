use Rattle.std.proofs.Common.{arith}
use Rattle.answer.specs.Lists.{length-tabulate}
use Rattle.points.specs.Interleaved.{points-put}
use Rattle.scan_stages.proofs.PointsPlaces.put.Goals as goal

pub put_point-requires : goal.put_point-requires
put_point-requires c = omega (arith, rw length-tabulate at c.requires)

pub returns-clause-after : goal.returns-clause-after
returns-clause-after c = rw c.put_point.ensures (points-put c.args.buf.now c.args.p c.args.v (omega (arith, rw length-tabulate at c.requires)))
