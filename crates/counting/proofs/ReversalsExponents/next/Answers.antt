use Rattle.std.specs.Prelude.{◌+◌}
use Rattle.std.proofs.Common.{sym, ◌∙◌}
use Rattle.counting.proofs.Exponents.{reversals_all}
use Rattle.counting.proofs.ReversalsExponents.next.Goals as goal

pub reversed-requires-clause-e_value : goal.reversed-requires-clause-e_value
reversed-requires-clause-e_value c = c.requires.e_value ∙ reversals_all c.args.n c.args.s c.args.k

pub returns : goal.returns
returns c = c.reversed.ensures ∙ sym (reversals_all c.args.n c.args.s (c.args.k + 1))
