-- The difference fits.
use Rattle.std.proofs.Common.{rules}
use Rattle.points.proofs.Fits.{fits_wide}
use Rattle.rules.proofs.Signed.{apart}
use Rattle.rules.proofs.near.Goals as goal

pub returns : goal.returns
returns c = let w = apart c.args.z c.args.e c.requires c.ranges.e in rw (c.unsigned_abs.ensures.value, c.from.ensures) (search (rules, fits_wide))
