-- Each pair of the table is written from its pair of the constant.
use Rattle.std.proofs.Common.{◌∙◌, ◌≡◌, ◌+◌, ◌*◌, ◌/◌, ◌<◌, ap, length, arith}
use borrow.Author.Count.{below_more}
use Rattle.answer.specs.Lengths.{log_of}
use Rattle.answer.proofs.Lengths.{permitted_log, permitted_range}
use Rattle.fourier.specs.Sizes.{two_halves}
use Rattle.points.specs.Interleaved.{point, interleaved_by, length-put, point-put-same, point-put_other}
use Rattle.sine.specs.Sine.{sine_pair, sine_table}
use Rattle.sine.proofs.Numbers.{source-pair}
use Rattle.sine.proofs.filling.write_pairs.Goals as goal

pub nonzero_div-stride : goal.nonzero_div-stride
nonzero_div-stride c = omega (arith, permitted_range (length c.args.table.now) c.requires)

pub loop-p-preserved : goal.loop-p-preserved
loop-p-preserved c =
    let N = length c.args.table.now in
    let l = c.loop-p in
    let z = c.point_at.result in
    let inside : l.p + l.p + 1 < length l.table = omega (arith, l.invariant.0) in
    rw c.put_point.ensures (
      length-put l.table l.p z ∙ l.invariant.0,
      below_more (λ q. point _ q ≡ sine_pair (log_of N) q) l.p (λ q h. point-put_other l.table l.p z q (λ e. omega arith) ∙ l.invariant.1 q h)
          (point-put-same l.table l.p z inside ∙ c.point_at.ensures ∙ ap (λ k. point k (4096 / N * l.p)) c.numbers-numbers.ensures ∙ source-pair N c.requires l.p),
    )

pub returns : goal.returns
unfolding sine_table
returns c =
    let N = length c.args.table.now in
    let l = c.loop-p in
    let long : length l.table ≡ _ = l.invariant.0 ∙ (permitted_log N c.requires).0 ∙ two_halves (log_of N) c.requires in
    interleaved_by l.table _ (sine_pair (log_of N)) long (λ p h. l.invariant.1 p (omega arith))
