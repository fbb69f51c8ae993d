-- The first part outside the range is the first place at which the test of the range fails.
use Rattle.std.proofs.Common.{◌≡◌, pos, true, false, rules, tests}
use Rattle.std.proofs.lemmas.Iterator.{IsFirst-from_position, YieldsList-from_slice}
use Rattle.answer.proofs.Search.{first_position}
use Rattle.fixed_judgement.specs.Verdicts.{in_range}
use Rattle.fixed_judgement.proofs.judge_samples.Goals as goal

pub returns : goal.returns
returns c =
    first_position in_range (pos 0) c.args.buf.now c.position.result
    (IsFirst-from_position _ _ c.position.result (λ x. in_range x ≡ false) (λ x. in_range x ≡ true) c.position.ensures.ran (YieldsList-from_slice c.args.buf.now cc) (λ x q k. search (rules, tests)) (λ x q k. search (rules, tests)))
