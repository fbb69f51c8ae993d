-- With the half added it is an i64, and its 32,768th part an i32.
use Rattle.std.proofs.Common.{rules, w64}
use Rattle.points.proofs.Fits.{fits_wide, Rounds, reduced_rounds}
use Rattle.points.proofs.reduced.Goals as goal

pub overflow_cast-result : goal.overflow_cast-result
overflow_cast-result c = let h : Rounds w64 32768 c.args.z = reduced_rounds c.args.z c.requires in search (rules, fits_wide, h.raised)

pub returns : goal.returns
returns c = let h : Rounds w64 32768 c.args.z = reduced_rounds c.args.z c.requires in search (rules, fits_wide, h.raised)
