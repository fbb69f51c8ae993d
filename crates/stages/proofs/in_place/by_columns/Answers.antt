use Rattle.std.specs.Prelude.{suc, ◌-◌, refl}
use Rattle.std.proofs.Common.{◌∙◌, arith}
use Rattle.fourier.specs.Blocks.{butterfly_within, ran_all}
use Rattle.stages.proofs.Sizes.{fits}
use Rattle.stages.proofs.Going.{butterfly_tabled, going_none, going_next, going_ready}
use Rattle.stages.proofs.in_place.by_columns.Goals as goal

pub loop-s-init : goal.loop-s-init
loop-s-init g c = (omega arith, refl, going_none g.met.S.Step.laws c.requires.grown (g.met.P.Places.laws.long _ _ c.requires.sizes.2))

pub column_stage-requires-clause-ready : goal.column_stage-requires-clause-ready
column_stage-requires-clause-ready g c =
    going_ready g.met.S.Step.laws c.loop-s.invariant.2 (omega arith)

pub loop-s-preserved : goal.loop-s-preserved
loop-s-preserved g c =
    let k = fits c.loop-s.s (c.args.n - suc c.loop-s.s) (omega arith) c.requires.sizes.3 in (
      omega arith,
      c.column_stage.ensures.len ∙ c.loop-s.invariant.1,
      going_next g.met.S.Step.laws c.loop-s.invariant.2 (rw k.places (butterfly_within _ _ _)) (butterfly_tabled k.some k.pairs k.table) c.column_stage.ensures.after,
    )

pub returns-clause-after : goal.returns-clause-after
returns-clause-after g c = ran_all c.args.n c.loop-s.invariant.2.ran (omega arith)
