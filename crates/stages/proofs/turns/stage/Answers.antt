use Rattle.std.specs.Prelude.{◌-◌, ◌^◌, refl}
use Rattle.std.proofs.Common.{◌∙◌, arith}
use Rattle.answer.proofs.Lengths.{shifted}
use Rattle.answer.proofs.Lists.{listed}
use Rattle.answer.proofs.Writes.{written_none, written_all}
use Rattle.fourier.specs.Sizes.{two_halves}
use Rattle.stages.specs.Laws.{held}
use Rattle.stages.proofs.Sizes.{pairs_few}
use Rattle.stages.proofs.Shuffled.{pair_next}
use Rattle.stages.proofs.turns.stage.Goals as goal

pub overflow_shl-half : goal.overflow_shl-half
overflow_shl-half g c = omega arith

pub loop-k-init : goal.loop-k-init
loop-k-init g c =
    let some = two_halves c.args.n (omega arith) in
    (omega arith, g.met.E.Exponents.laws.first c.args.n c.args.s, refl, written_none (record { long = g.met.P.Places.laws.long _ _ (c.requires.to_len ∙ c.requires.sizes.2); here = λ p h. refl }))

pub next-e-requires-clause-s_lt_n : goal.next-e-requires-clause-s_lt_n
next-e-requires-clause-s_lt_n g c = (omega arith, omega arith, omega (arith, rw (shifted (c.args.n - 1) (omega arith)) at c.loop-k-test.true, pairs_few c.args.n (omega arith)))

pub loop-k-preserved : goal.loop-k-preserved
loop-k-preserved g c =
    let half = shifted (c.args.n - 1) (omega arith) in
    let less = rw half at c.loop-k-test.true in
    let e = g.E.Exponents.of c.args.n c.args.s in (
      omega (arith, less),
      c.next-e.ensures,
      c.put-in-loop-k.ensures.len ∙ c.put.ensures.len ∙ c.loop-k.invariant.2,
      rw (c.put-in-loop-k.ensures.after, c.put.ensures.after)
          (pair_next (g.S.Step.wing c.args.by) (2 ^ (c.args.n - 1)) e (held g.P.Places.zero (g.P.Places.values c.args.from.now)) c.loop-k.invariant.3 (omega (arith, less, two_halves c.args.n (omega arith))) half c.loop-k.invariant.1
          (rw (c.at.ensures, c.at-in-loop-k.ensures) at c.pair-low.ensures.first) (rw (c.at.ensures, c.at-in-loop-k.ensures) at c.pair-low.ensures.second)),
    )

pub returns-clause-after : goal.returns-clause-after
returns-clause-after g c =
    let past = rw (shifted (c.args.n - 1) (omega arith)) at c.loop-k-test.false in
    listed (written_all c.loop-k.invariant.3 (omega (arith, past, two_halves c.args.n (omega arith))))
