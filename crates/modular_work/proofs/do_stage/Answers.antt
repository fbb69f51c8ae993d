use Rattle.std.proofs.Common.{refl}
use Rattle.modular_work.specs.Works.{stage_of, cleared}
use Rattle.butterflies.proofs.Asked.{sizes}
use Rattle.modular_work.proofs.Scratch.{scratch_long}
use Rattle.modular_work.proofs.do_stage.Goals as goal

pub through_scratch-requires-clause-scratch_len : goal.through_scratch-requires-clause-scratch_len
through_scratch-requires-clause-scratch_len c = scratch_long 2 _ _ refl (rw c.in-Shuffle.is at c.requires.scratch_len)

pub returns-in-Columns-clause-buf_after : goal.returns-in-Columns-clause-buf_after
unfolding stage_of
returns-in-Columns-clause-buf_after c = rw (c.in-Columns.is, c.requires.s_lt_n.1) c.column_stage.ensures.after

pub returns-in-Columns-clause-scratch_after : goal.returns-in-Columns-clause-scratch_after
unfolding cleared
returns-in-Columns-clause-scratch_after c = rw c.in-Columns.is refl

pub returns-in-Shuffle-clause-buf_after : goal.returns-in-Shuffle-clause-buf_after
unfolding stage_of
returns-in-Shuffle-clause-buf_after c = rw (c.in-Shuffle.is, c.requires.s_lt_n.1) c.through_scratch.ensures.after

pub returns-in-Shuffle-clause-scratch_after : goal.returns-in-Shuffle-clause-scratch_after
unfolding cleared
returns-in-Shuffle-clause-scratch_after c = rw c.in-Shuffle.is c.through_scratch.ensures.scratch_after

pub column_stage-requires-clause-sizes : goal.column_stage-requires-clause-sizes
column_stage-requires-clause-sizes c = sizes c.requires.s_lt_n c.args.roots.few

pub through_scratch-requires-clause-sizes : goal.through_scratch-requires-clause-sizes
through_scratch-requires-clause-sizes c = sizes c.requires.s_lt_n c.args.roots.few
