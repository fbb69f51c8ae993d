use Prim.Native.Nat.{◌+◌, ◌-◌}
use mathlib.Core.Path.{◌≡◌, ◌∙◌}
use native.Mathlib.Nat.{sub-zero}
use native.Mathlib.Omega.{arith}
use Rattle.reversal.proofs.Bits.{bit_next, bits_all, turned-below}
use Rattle.reversal.proofs.reversed.Goals as goal

pub loop-past-init : goal.loop-past-init
loop-past-init c = rw sub-zero (omega arith)

pub overflow_add-result : goal.overflow_add-result
overflow_add-result c = let l = c.loop-past in record { fits = omega (arith, turned-below c.args.n c.args.j l.result l.rest (c.args.n - l.past) c.requires l.invariant) }

pub overflow_add-result-in-loop-past : goal.overflow_add-result-in-loop-past
overflow_add-result-in-loop-past c = let l = c.loop-past in record { fits = omega (arith, turned-below c.args.n c.args.j l.result l.rest (c.args.n - l.past) c.requires l.invariant) }

pub loop-past-preserved : goal.loop-past-preserved
loop-past-preserved c = let l = c.loop-past in let next : c.args.n - l.past - 1 ≡ c.args.n - (l.past + 1) = omega arith in rw next at (l.invariant ∙ bit_next l.result l.rest (c.args.n - l.past) (omega arith))

pub returns : goal.returns
returns c = let l = c.loop-past in bits_all l.result l.rest (c.args.n - l.past) (omega arith) l.invariant
