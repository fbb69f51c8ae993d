-- A byte in front of the digits.
use Rattle.std.proofs.Common.{arith}
use Rattle.line.proofs.Puts.{space_room, put_space}
use Rattle.line.proofs.put_spaced.Goals as goal

pub overflow_sub-q : goal.overflow_sub-q
overflow_sub-q c = omega (arith, space_room _ c.put_decimal-q.ensures c.requires.0 c.requires.1)

pub bounds-out-q : goal.bounds-out-q
bounds-out-q c = (space_room _ c.put_decimal-q.ensures c.requires.0 c.requires.1).1

pub returns : goal.returns
returns c = put_space _ c.put_decimal-q.ensures c.requires.0 c.requires.1
