-- What is left to read of the definition is the invariant.
use Rattle.reading.proofs.Filling.{Filling}
use Rattle.reading.proofs.numbers.Given as goal

abbrev pub invariant-loop-slot : goal.invariant-loop-slot
invariant-loop-slot l = Filling l.s l.p l.initial.out l.out l.next l.slot-index
