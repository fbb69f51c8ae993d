-- The differences are i32s.
use Rattle.std.proofs.Common.{rules, w32, FitsSigned, ◌-ℤ◌}
use Rattle.points.proofs.Fits.{difference_held}
use Rattle.points.proofs.Point.minus.Goals as goal

pub returns-clause-value : goal.returns-clause-value
returns-clause-value c =
    let a = c.args.self in
    let b = c.args.other in
    let re : FitsSigned w32 (a.re -ℤ b.re) = difference_held a.re b.re c.requires.0.real c.requires.1.real in
    let im : FitsSigned w32 (a.im -ℤ b.im) = difference_held a.im b.im c.requires.0.imaginary c.requires.1.imaginary in
    search rules
