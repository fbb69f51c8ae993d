use Rattle.modular_judgement.specs.Ready.{inverse_ready}
use Rattle.modular.proofs.Passing.{passed, sizes}
use Rattle.modular.proofs.inverting.try_inverse.Goals as goal

pub invert-requires : goal.invert-requires
invert-requires c =
    let w = c.in_ok-n.ensures in
    let ready = inverse_ready _ _ _ (passed w.answers) in
    record { below = rw w.passes.2 ready.judged.values; le_n = rw w.passes.1 (sizes ready w.passes.0) }
