-- Shifted there and back, k has lost its low s bits.
use native.Mathlib.Omega.{arith}
use Rattle.counting.proofs.Exponents.{shifted}
use Rattle.counting.proofs.multiple.Goals as goal

pub returns : goal.returns
returns c = shifted c.args.k c.args.s 64 (omega arith)
