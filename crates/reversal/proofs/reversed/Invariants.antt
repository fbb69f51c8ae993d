-- In front of each turn the answer is the result with the bits that are left, reversed, behind it.
use Prim.Native.Nat.{◌+◌, ◌-◌, ◌*◌, ◌^◌}
use mathlib.Core.Path.{◌≡◌}
use Rattle.fourier.specs.Reverse.{rev}
use Rattle.reversal.proofs.reversed.Given as goal

abbrev pub invariant-loop-past : goal.invariant-loop-past
invariant-loop-past l = rev l.n l.j ≡ l.result * 2 ^ (l.n - l.past) + rev (l.n - l.past) l.rest
