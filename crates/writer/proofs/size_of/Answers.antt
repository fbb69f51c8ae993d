use native.Mathlib.Omega.{arith}
use mathlib.Core.Path.{ap}
use lib.ListN.{length}
use Rattle.groups.specs.Theorems.{bytes_few, bytes_one, bytes_more}
use Rattle.writer.proofs.size_of.Goals as goal

pub loop-rest-init : goal.loop-rest-init
loop-rest-init c = (omega arith, omega arith)

pub overflow_add-size : goal.overflow_add-size
overflow_add-size c = omega (arith, bytes_few c.args.v, bytes_few c.loop-rest.rest)

pub loop-rest-preserved : goal.loop-rest-preserved
loop-rest-preserved c =
    let more = bytes_more c.loop-rest.rest c.loop-rest-test.true (omega arith) in
    (omega (arith, ap length more), omega arith)

pub returns : goal.returns
returns c = omega (arith, ap length (bytes_one c.loop-rest.rest (omega arith)))
