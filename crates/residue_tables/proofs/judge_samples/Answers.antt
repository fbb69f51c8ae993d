-- The first sample at or above m is the first place at which the test "below m" fails.
use Rattle.std.proofs.Common.{◌≡◌, true, false, ltb, rules, tests}
use Rattle.std.proofs.lemmas.Iterator.{IsFirst-from_position, YieldsList-from_slice}
use Rattle.answer.proofs.Search.{first_position}
use Rattle.residues.specs.Judgement.{below}
use Rattle.residue_tables.proofs.judge_samples.Goals as goal

pub returns : goal.returns
unfolding below
returns c =
    let m = c.args.m in
    first_position (λ x. ltb x m) 0 c.args.buf.now c.position.result
    (IsFirst-from_position _ _ c.position.result (λ x. ltb x m ≡ false) (λ x. ltb x m ≡ true) c.position.ensures.ran (YieldsList-from_slice c.args.buf.now cc) (λ x q k. search (rules, tests)) (λ x q k. search (rules, tests)))
