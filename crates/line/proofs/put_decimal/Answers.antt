use Rattle.std.proofs.Common.{arith}
use Rattle.line.proofs.Puts.{spelling_none, spelling_some, spelling_more, spelled}
use Rattle.line.proofs.put_decimal.Goals as goal

pub loop-rest-init : goal.loop-rest-init
loop-rest-init c = spelling_none _ _ _ (omega arith) c.requires.0 c.requires.1

pub overflow_sub-q : goal.overflow_sub-q
overflow_sub-q c = omega (arith, spelling_some c.loop-rest.invariant)

pub bounds-out-q : goal.bounds-out-q
bounds-out-q c = (spelling_some c.loop-rest.invariant).1

pub loop-rest-preserved : goal.loop-rest-preserved
loop-rest-preserved c = spelling_more c.loop-rest.invariant c.loop-rest-test.true

pub overflow_sub-q-2 : goal.overflow_sub-q-2
overflow_sub-q-2 c = omega (arith, spelling_some c.loop-rest.invariant)

pub bounds-out-q-2 : goal.bounds-out-q-2
bounds-out-q-2 c = (spelling_some c.loop-rest.invariant).1

pub returns : goal.returns
returns c = spelled c.loop-rest.invariant c.loop-rest-test.false
