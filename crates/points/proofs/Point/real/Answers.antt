-- The sizes of the pair and of d bound the two products.
use Rattle.std.proofs.Common.{rules}
use Rattle.points.proofs.Fits.{fits_wide, real_held}
use Rattle.points.proofs.Point.real.Goals as goal

pub overflow_sub-result : goal.overflow_sub-result
overflow_sub-result c =
    let h = real_held c.requires.turn c.requires.sized in
    rw (c.product.ensures, c.product-2.ensures) (search (rules, fits_wide))

pub returns : goal.returns
returns c =
    let h = real_held c.requires.turn c.requires.sized in
    rw (c.product.ensures, c.product-2.ensures) (record { value = search (rules, fits_wide); size = search (rules, fits_wide) })
