-- The reader goes byte by byte as the definition does; what is left to read of the definition is the invariant.
use Rattle.groups.proofs.Reading.{Front, Read}
use Rattle.groups.proofs.number_at.Given as goal

abbrev pub invariant-loop-i : goal.invariant-loop-i
invariant-loop-i l = record { front : Front l.s l.p l.bytes; read : Read l.s l.p l.low l.unit l.i }
