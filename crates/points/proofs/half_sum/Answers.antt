-- The sum and its half are an i32.
use Rattle.std.proofs.Common.{rules, w32, ◌+ℤ◌}
use Rattle.points.proofs.Fits.{Rounds, half_rounds}
use Rattle.points.proofs.half_sum.Goals as goal

pub returns : goal.returns
returns c = let r : Rounds w32 2 (c.args.a +ℤ c.args.b) = half_rounds c.args.a c.args.b c.requires.0 c.requires.1 in search (rules, r.raised)
