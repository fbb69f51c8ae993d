use Rattle.std.specs.Prelude.{◌+◌, ◌-◌, ◌*◌, ◌≡◌, refl}
use Rattle.std.proofs.Common.{◌∙◌, arith}
use Rattle.fourier.specs.Blocks.{ran_all}
use Rattle.stages.proofs.Going.{going_none, going_ready, turn_next}
use Rattle.stages.proofs.turns.by_turns.Goals as goal

pub loop-turn-init : goal.loop-turn-init
loop-turn-init g c = (omega arith, c.requires.scratch_len, refl, going_none g.met.S.Step.laws c.requires.grown (g.met.P.Places.laws.long _ _ c.requires.sizes.2))

pub stage-requires-clause-ready : goal.stage-requires-clause-ready
stage-requires-clause-ready g c =
    going_ready g.met.S.Step.laws c.loop-turn.invariant.3 (omega arith)

pub stage-requires-in-loop-turn-clause-ready : goal.stage-requires-in-loop-turn-clause-ready
stage-requires-in-loop-turn-clause-ready g c =
    let there = turn_next g.met.S.Step.laws g.met.E.Exponents.laws c.loop-turn.invariant.3 (omega arith) c.requires.sizes.3 c.stage.ensures.after in
    going_ready g.met.S.Step.laws there (omega arith)

pub loop-turn-preserved : goal.loop-turn-preserved
loop-turn-preserved g c =
    let there = turn_next g.met.S.Step.laws g.met.E.Exponents.laws c.loop-turn.invariant.3 (omega arith) c.requires.sizes.3 c.stage.ensures.after in
    let back = turn_next g.met.S.Step.laws g.met.E.Exponents.laws there (omega arith) c.requires.sizes.3 c.stage-in-loop-turn.ensures.after in
    let two : 2 * c.loop-turn.turn + 1 + 1 ≡ 2 * (c.loop-turn.turn + 1) = omega arith in (
      omega arith,
      c.stage.ensures.len ∙ c.loop-turn.invariant.1,
      c.stage-in-loop-turn.ensures.len ∙ c.loop-turn.invariant.2,
      rw two at back,
    )

pub through_scratch-requires-clause-ready : goal.through_scratch-requires-clause-ready
through_scratch-requires-clause-ready g c =
    going_ready g.met.S.Step.laws c.loop-turn.invariant.3 (omega arith)

pub returns-then-n-eq1-clause-after : goal.returns-then-n-eq1-clause-after
returns-then-n-eq1-clause-after g c =
    let last : 2 * c.loop-turn.turn ≡ c.args.n - 1 = omega arith in
    let done = turn_next g.met.S.Step.laws g.met.E.Exponents.laws (rw last at c.loop-turn.invariant.3) (omega arith) c.requires.sizes.3 c.through_scratch.ensures.after in
    ran_all c.args.n done.ran (omega arith)

pub returns-else-n-eq1-clause-after : goal.returns-else-n-eq1-clause-after
returns-else-n-eq1-clause-after g c = ran_all c.args.n c.loop-turn.invariant.3.ran (omega arith)
