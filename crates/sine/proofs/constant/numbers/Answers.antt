-- By the constant itself.
use Rattle.std.proofs.Common.{refl}
use Rattle.sine.specs.Constant.{sine}
use Rattle.sine.proofs.constant.numbers.Goals as goal

pub returns : goal.returns
unfolding sine
returns c = refl
