-- Digit after digit in front of those that stand.
use Rattle.line.proofs.Puts.{Spelling}
use Rattle.line.proofs.put_decimal.Given as goal

abbrev pub invariant-loop-rest : goal.invariant-loop-rest
invariant-loop-rest l = Spelling l.v l.p l.initial.out l.out l.rest l.q

abbrev pub decreases-loop-rest : goal.decreases-loop-rest
decreases-loop-rest l = l.rest
