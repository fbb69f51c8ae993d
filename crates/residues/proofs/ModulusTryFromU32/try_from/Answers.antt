use Rattle.std.proofs.Common.{sym, ◌∙◌}
use Rattle.residues.specs.Moduli.{permits_permitted}
use Rattle.residues.proofs.ModulusTryFromU32.try_from.Goals as goal

pub invariant_of-result : goal.invariant_of-result
invariant_of-result c = record { permitted = permits_permitted _ (sym c.permitted.ensures ∙ c.if-permitted.true) }
