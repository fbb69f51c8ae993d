use Prim.Native.Nat.{◌+◌, ◌-◌}
use mathlib.Core.Path.{◌≡◌, sym, ◌∙◌}
use native.Mathlib.Nat.{one-mul, mod-eq_of_lt, sub-zero}
use native.Mathlib.Omega.{arith}
use Rattle.fourier.specs.Sizes.{half_buffer}
use Rattle.counting.proofs.Reversal.{counts_start, counts_zero, counts_room, counts_one, counts_none}
use Rattle.counting.proofs.Exponents.{half_small}
use Rattle.counting.specs.Exponents.{reversed-below}
use Rattle.counting.proofs.reversed.Goals as goal

pub loop-past-init : goal.loop-past-init
loop-past-init c =
    let small = half_small c.args.n (omega arith) in
    rw sub-zero
    (counts_start (rw one-mul (mod-eq_of_lt (omega arith)) ∙ sym (half_buffer c.requires.s_lt_n.0)) c.requires.e_value)

pub overflow_add-result : goal.overflow_add-result
overflow_add-result c =
    let sum = counts_zero _ c.loop-past.invariant (omega arith) c.if-high-eq0.true in
    let low = reversed-below c.args.n c.args.s c.requires.s_lt_n.0 (c.args.k + 1) in
    let small = half_small c.args.n (omega arith) in
    record { fits = omega arith }

pub returns-then-high-eq0 : goal.returns-then-high-eq0
returns-then-high-eq0 c = counts_zero _ c.loop-past.invariant (omega arith) c.if-high-eq0.true

pub overflow_sub-rest : goal.overflow_sub-rest
overflow_sub-rest c = counts_room _ c.loop-past.invariant (omega arith) (omega arith)

pub loop-past-preserved : goal.loop-past-preserved
loop-past-preserved c = let next : c.args.s - c.loop-past.past - 1 ≡ c.args.s - (c.loop-past.past + 1) = omega arith in rw next at (counts_one _ c.loop-past.invariant (omega arith) (omega arith))

pub returns : goal.returns
returns c = counts_none c.loop-past.invariant (omega arith)
