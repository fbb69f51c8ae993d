use Rattle.std.proofs.Common.{sym, ◌∙◌, arith}
use Rattle.answer.specs.Lists.{length-tabulate}
use Rattle.answer.proofs.Lists.{get_or-tabulate}
use Rattle.points.specs.Interleaved.{point}
use Rattle.scan_stages.specs.Buffers.{origin}
use Rattle.scan_stages.proofs.PointsPlaces.at.Goals as goal

pub point_at-requires : goal.point_at-requires
point_at-requires c = omega (arith, rw length-tabulate at c.requires)

pub returns : goal.returns
returns c = c.point_at.ensures ∙ sym (get_or-tabulate origin _ (point c.args.buf.now) c.args.p (rw length-tabulate at c.requires))
