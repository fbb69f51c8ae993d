-- Number after number in front of those that stand, from the last on.
use Rattle.line.proofs.Puts.{Listing}
use Rattle.line.proofs.put_results.Given as goal

abbrev pub invariant-loop-result : goal.invariant-loop-result
invariant-loop-result l = Listing l.results l.p l.initial.out l.out l.result-iterator.iter.rest.now l.q
