-- By the test of the length.
use Rattle.std.specs.Prelude.{◌^◌}
use Rattle.std.proofs.Common.{sym, ◌∙◌, length, arith}
use Rattle.fourier.specs.Reverse.{rev}
use Rattle.scan_stages.specs.Buffers.{laid}
use Rattle.answer.proofs.Lengths.{log_some}
use Rattle.fixed_judgement.specs.Verdicts.{points_log, reverse_verdict}
use Rattle.fixed_judgement.specs.Ready.{permitted_points}
use Rattle.fixed_judgement.proofs.Tests.{long}
use Rattle.fixed.proofs.reversing.try_reverse.Goals as goal

pub reverse-requires : goal.reverse-requires
reverse-requires c =
    let l = length c.args.buf.now in
    let n = sym c.in_ok-n.ensures.ok_part ∙ c.points_log.ensures in
    let points = permitted_points l (long l _ n) in
    rw (← (log_some (points_log l) _ n).0) (omega (arith, points.whole), points.few)

pub returns : goal.returns
unfolding reverse_verdict
returns c =
    let l = length c.args.buf.now in
    let n = sym c.in_ok-n.ensures.ok_part ∙ c.points_log.ensures in
    let permitted = long l _ n in
    record { answers = rw permitted; leaves = rw permitted (laid c.args.buf.now _ (2 ^ points_log l) (λ d p. d (rev (points_log l) p)) (permitted_points l permitted).whole c.reverse.ensures.len (rw (← (log_some (points_log l) _ n).0) at c.reverse.ensures.after)) }
