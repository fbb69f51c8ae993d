use Rattle.std.specs.Prelude.{suc, ◌-◌, ◌≡◌, refl}
use Rattle.std.proofs.Common.{◌∙◌, arith}
use Rattle.answer.proofs.Lengths.{shifted}
use Rattle.fourier.specs.Blocks.{butterfly_within, ran_all}
use Rattle.stages.proofs.Sizes.{fits}
use Rattle.stages.proofs.Going.{butterfly_tabled, going_none, going_next, going_ready}
use Rattle.stages.proofs.in_place.by_thong.Goals as goal

pub loop-t-init : goal.loop-t-init
loop-t-init g c = (omega arith, refl, going_none g.met.S.Step.laws c.requires.grown (g.met.P.Places.laws.long _ _ c.requires.sizes.2))

pub overflow_shl-n : goal.overflow_shl-n
overflow_shl-n g c = omega arith

pub overflow_shl-t : goal.overflow_shl-t
overflow_shl-t g c = omega (arith, c.loop-t-test.true)

pub stage-requires-clause-buf_len : goal.stage-requires-clause-buf_len
stage-requires-clause-buf_len g c =
    let rest = c.args.n - 1 - c.loop-t.t in
    let k = fits rest c.loop-t.t (omega arith) c.requires.sizes.3 in
    rw (shifted rest (omega arith), shifted c.loop-t.t (omega arith), ← k.places) (c.loop-t.invariant.1 ∙ c.requires.sizes.2)

pub stage-requires-clause-ready : goal.stage-requires-clause-ready
stage-requires-clause-ready g c =
    going_ready g.met.S.Step.laws c.loop-t.invariant.2 (omega arith)

pub stage-requires-clause-le_stride : goal.stage-requires-clause-le_stride
stage-requires-clause-le_stride g c =
    let rest = c.args.n - 1 - c.loop-t.t in
    let k = fits rest c.loop-t.t (omega arith) c.requires.sizes.3 in
    rw (shifted rest (omega arith), shifted c.loop-t.t (omega arith)) (k.some, k.table)

pub loop-t-preserved : goal.loop-t-preserved
loop-t-preserved g c =
    let t = c.loop-t.t in
    let rest : c.args.n - 1 - t ≡ c.args.n - suc t = omega arith in
    let k = fits (c.args.n - suc t) t (omega arith) c.requires.sizes.3 in (
      omega arith,
      c.stage.ensures.len ∙ c.loop-t.invariant.1,
      going_next g.met.S.Step.laws c.loop-t.invariant.2 (rw k.places (butterfly_within _ _ _)) (butterfly_tabled k.some k.pairs k.table)
          (rw (shifted (c.args.n - 1 - t) (omega arith), shifted t (omega arith), rest, ← k.places) at c.stage.ensures.after),
    )

pub returns-clause-after : goal.returns-clause-after
returns-clause-after g c = ran_all c.args.n c.loop-t.invariant.2.ran (omega arith)
