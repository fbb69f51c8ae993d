use Rattle.dft.proofs.Input.{served}
use Rattle.dft.proofs.serve.Goals as goal

pub returns : goal.returns
returns g c = served _ _ _ c.in_ok-n.n _ _ (rw (← c.space-input.ensures) at c.in_ok-n.ensures.bytes) c.print.ensures
