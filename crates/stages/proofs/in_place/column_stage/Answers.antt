use Rattle.std.specs.Prelude.{suc, ◌-◌, ◌≡◌}
use Rattle.std.proofs.Common.{arith}
use Rattle.answer.proofs.Lengths.{shifted}
use Rattle.stages.proofs.Sizes.{fits}
use Rattle.stages.proofs.in_place.column_stage.Goals as goal

pub overflow_shl-s : goal.overflow_shl-s
overflow_shl-s g c = omega arith

pub overflow_shl-n : goal.overflow_shl-n
overflow_shl-n g c = omega arith

pub stage-requires-clause-buf_len : goal.stage-requires-clause-buf_len
stage-requires-clause-buf_len g c =
    let rest = c.args.n - 1 - c.args.s in
    let k = fits c.args.s rest (omega arith) c.requires.sizes.3 in
    rw (shifted c.args.s (omega arith), shifted rest (omega arith), ← k.places) c.requires.sizes.2

pub stage-requires-clause-le_stride : goal.stage-requires-clause-le_stride
stage-requires-clause-le_stride g c =
    let rest = c.args.n - 1 - c.args.s in
    let k = fits c.args.s rest (omega arith) c.requires.sizes.3 in
    rw (shifted c.args.s (omega arith), shifted rest (omega arith)) (k.some, k.table)

pub returns-clause-after : goal.returns-clause-after
returns-clause-after g c =
    let rest : c.args.n - 1 - c.args.s ≡ c.args.n - suc c.args.s = omega arith in
    let k = fits c.args.s (c.args.n - suc c.args.s) (omega arith) c.requires.sizes.3 in
    rw (shifted c.args.s (omega arith), shifted (c.args.n - 1 - c.args.s) (omega arith), rest, ← k.places) at c.stage.ensures.after
