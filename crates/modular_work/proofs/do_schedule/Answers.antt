-- By the schedule: each leaves what its own definition says.
use Rattle.std.proofs.Common.{refl, arith}
use Rattle.fourier.specs.Sizes.{two_halves}
use Rattle.fourier.proofs.Halves.{halves_once}
use Rattle.modular_work.specs.Works.{by_schedule, cleared}
use Rattle.stages.proofs.Sizes.{twelve}
use Rattle.butterflies.proofs.Asked.{sizes}
use Rattle.modular_work.proofs.Scratch.{scratch_long}
use Rattle.modular_work.proofs.do_schedule.Goals as goal

pub by_turns-requires-clause-scratch_len : goal.by_turns-requires-clause-scratch_len
by_turns-requires-clause-scratch_len c = scratch_long 2 _ _ refl (rw c.in-Shuffle.is at c.requires.scratch_len)

pub by_halves-requires : goal.by_halves-requires
by_halves-requires c =
    let l = c.requires.le_n in
    let whole = two_halves c.args.n l.0 in
    record { left = c.args.n; past = 0; power = omega (arith, l.1); few = omega (arith, twelve l.2 c.args.roots.few); some = omega arith; through = λ g. omega (arith, l.2); grown = c.requires.below.each }

pub by_turns-requires-in-Pease-clause-scratch_len : goal.by_turns-requires-in-Pease-clause-scratch_len
by_turns-requires-in-Pease-clause-scratch_len c = scratch_long 5 _ _ refl (rw c.in-Pease.is at c.requires.scratch_len)

pub returns-in-Columns-clause-buf_after : goal.returns-in-Columns-clause-buf_after
unfolding by_schedule
returns-in-Columns-clause-buf_after c = rw (c.in-Columns.is, c.requires.le_n.1) c.by_columns.ensures.after

pub returns-in-Columns-clause-scratch_after : goal.returns-in-Columns-clause-scratch_after
unfolding cleared
returns-in-Columns-clause-scratch_after c = rw c.in-Columns.is refl

pub returns-in-Shuffle-clause-buf_after : goal.returns-in-Shuffle-clause-buf_after
unfolding by_schedule
returns-in-Shuffle-clause-buf_after c = rw (c.in-Shuffle.is, c.requires.le_n.1) c.by_turns.ensures.after

pub returns-in-Shuffle-clause-scratch_after : goal.returns-in-Shuffle-clause-scratch_after
unfolding cleared
returns-in-Shuffle-clause-scratch_after c = rw c.in-Shuffle.is c.by_turns.ensures.scratch_after

pub returns-in-Halves-clause-buf_after : goal.returns-in-Halves-clause-buf_after
unfolding by_schedule
returns-in-Halves-clause-buf_after c = rw (c.in-Halves.is, c.requires.le_n.1) (rw halves_once at (c.by_halves.ensures.after c.args.n (omega (arith, c.requires.le_n.1))))

pub returns-in-Halves-clause-scratch_after : goal.returns-in-Halves-clause-scratch_after
unfolding cleared
returns-in-Halves-clause-scratch_after c = rw c.in-Halves.is refl

pub returns-in-Thong-clause-buf_after : goal.returns-in-Thong-clause-buf_after
unfolding by_schedule
returns-in-Thong-clause-buf_after c = rw (c.in-Thong.is, c.requires.le_n.1) c.by_thong.ensures.after

pub returns-in-Thong-clause-scratch_after : goal.returns-in-Thong-clause-scratch_after
unfolding cleared
returns-in-Thong-clause-scratch_after c = rw c.in-Thong.is refl

pub returns-in-Pease-clause-buf_after : goal.returns-in-Pease-clause-buf_after
unfolding by_schedule
returns-in-Pease-clause-buf_after c = rw (c.in-Pease.is, c.requires.le_n.1) c.by_turns-in-Pease.ensures.after

pub returns-in-Pease-clause-scratch_after : goal.returns-in-Pease-clause-scratch_after
unfolding cleared
returns-in-Pease-clause-scratch_after c = rw c.in-Pease.is c.by_turns-in-Pease.ensures.scratch_after

pub by_columns-requires-clause-sizes : goal.by_columns-requires-clause-sizes
by_columns-requires-clause-sizes c = sizes c.requires.le_n c.args.roots.few

pub by_turns-requires-clause-sizes : goal.by_turns-requires-clause-sizes
by_turns-requires-clause-sizes c = sizes c.requires.le_n c.args.roots.few

pub by_thong-requires-clause-sizes : goal.by_thong-requires-clause-sizes
by_thong-requires-clause-sizes c = sizes c.requires.le_n c.args.roots.few

pub by_turns-requires-in-Pease-clause-sizes : goal.by_turns-requires-in-Pease-clause-sizes
by_turns-requires-in-Pease-clause-sizes c = sizes c.requires.le_n c.args.roots.few
