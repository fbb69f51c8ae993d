-- The bits that are left count on as all s bits do, until one of them is a zero.
use Prim.Native.Nat.{suc, ◌-◌, ◌^◌}
use Rattle.counting.proofs.Reversal.{Counts}
use Rattle.counting.proofs.reversed.Given as goal

abbrev pub invariant-loop-past : goal.invariant-loop-past
invariant-loop-past l = Counts (2 ^ (l.n - suc l.s)) l.s l.k (l.s - l.past) l.bit l.rest l.high
