-- The sizes of the pair and of d bound the two products, and those of the real part as well, so that what fits does not hang on which is meant.
use Rattle.std.proofs.Common.{rules}
use Rattle.points.proofs.Fits.{fits_wide, imaginary_held, real_held}
use Rattle.points.proofs.Point.imaginary.Goals as goal

pub overflow_add-result : goal.overflow_add-result
overflow_add-result c =
    let h = imaginary_held c.requires.turn c.requires.sized in
    let r = real_held c.requires.turn c.requires.sized in
    rw (c.product.ensures, c.product-2.ensures) (search (rules, fits_wide))

pub returns : goal.returns
returns c =
    let h = imaginary_held c.requires.turn c.requires.sized in
    rw (c.product.ensures, c.product-2.ensures) (record { value = search (rules, fits_wide); size = search (rules, fits_wide) })
