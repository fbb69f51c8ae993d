-- By the schedule: each leaves what its own definition says.
use Rattle.std.specs.Prelude.{ℕ, ◌^◌, ◌<◌, ◌≤◌, ◌≡◌, refl}
use Rattle.std.proofs.Common.{arith, pow_mono}
use borrow.Author.Tests.{eqb-true}
use Rattle.fourier.specs.Sizes.{two_halves}
use Rattle.fourier.proofs.Halves.{halves_once}
use Rattle.fourier.specs.Schedules.{schedule1, schedule2, schedule3}
use Rattle.points.specs.declared.Point.{Point}
use Rattle.points.specs.Growth.{grow}
use Rattle.points.specs.Interleaved.{point}
use Rattle.points.specs.Rounding.{half_up}
use Rattle.points.specs.Steps.{rounded, Sized}
use Rattle.scan_stages.specs.Buffers.{held_each, laid}
use Rattle.fixed_judgement.specs.Verdicts.{scratch_fits}
use Rattle.fixed_work.specs.Works.{by_schedule, cleared}
use Rattle.fixed_work.proofs.do_schedule.Goals as goal

-- A table for n from 1 to 12 has 4,096 numbers at most.
held : {n T : ℕ} → n ≤ 12 → T ≡ 2 ^ n → T < 2 ^ 63
held {n} l e = let most : 2 ^ n ≤ 2 ^ 12 = pow_mono {i = n} {j = 12} l in omega arith

pub invariant_of-by : goal.invariant_of-by
invariant_of-by c = record { turns = c.requires.scanned.turns; fits = held c.requires.le_n.1 c.requires.le_n.3 }

pub invariant_of-by-in-Shuffle : goal.invariant_of-by-in-Shuffle
invariant_of-by-in-Shuffle c = record { turns = c.requires.scanned.turns; fits = held c.requires.le_n.1 c.requires.le_n.3 }

pub invariant_of-by-in-Halves : goal.invariant_of-by-in-Halves
invariant_of-by-in-Halves c = record { turns = c.requires.scanned.turns; fits = held c.requires.le_n.1 c.requires.le_n.3 }

pub by_columns-requires-clause-grown : goal.by_columns-requires-clause-grown
by_columns-requires-clause-grown c = held_each (Sized (grow 0)) c.args.buf.now (2 ^ c.args.n) c.requires.le_n.2 c.requires.scanned.each

pub by_turns-requires-clause-grown : goal.by_turns-requires-clause-grown
by_turns-requires-clause-grown c = held_each (Sized (grow 0)) c.args.buf.now (2 ^ c.args.n) c.requires.le_n.2 c.requires.scanned.each

pub by_turns-requires-clause-scratch_len : goal.by_turns-requires-clause-scratch_len
unfolding scratch_fits
by_turns-requires-clause-scratch_len c = eqb-true _ _ (rw c.in-Shuffle.is at c.requires.scratch_len)

pub by_halves-requires : goal.by_halves-requires
by_halves-requires c =
    let l = c.requires.le_n in
    record { left = c.args.n; past = 0; power = omega (arith, l.2); few = omega (arith, l.1); some = omega arith; through = λ g. omega (arith, l.3, two_halves c.args.n l.0); grown = held_each (Sized (grow 0)) c.args.buf.now (2 ^ c.args.n) l.2 c.requires.scanned.each }

pub returns-in-Columns-clause-buf_after : goal.returns-in-Columns-clause-buf_after
unfolding by_schedule
returns-in-Columns-clause-buf_after c = rw c.in-Columns.is (laid c.args.buf.now _ (2 ^ c.args.n) (schedule1 c.args.n Point (rounded half_up (point c.args.table.now))) c.requires.le_n.2 c.by_columns.ensures.len c.by_columns.ensures.after)

pub returns-in-Columns-clause-scratch_after : goal.returns-in-Columns-clause-scratch_after
unfolding cleared
returns-in-Columns-clause-scratch_after c = rw c.in-Columns.is refl

pub returns-in-Shuffle-clause-buf_after : goal.returns-in-Shuffle-clause-buf_after
unfolding by_schedule
returns-in-Shuffle-clause-buf_after c = rw c.in-Shuffle.is (laid c.args.buf.now _ (2 ^ c.args.n) (schedule2 c.args.n Point (rounded half_up (point c.args.table.now))) c.requires.le_n.2 c.by_turns.ensures.len c.by_turns.ensures.after)

pub returns-in-Shuffle-clause-scratch_after : goal.returns-in-Shuffle-clause-scratch_after
unfolding cleared
returns-in-Shuffle-clause-scratch_after c = rw c.in-Shuffle.is c.by_turns.ensures.scratch_after

pub returns-in-Halves-clause-buf_after : goal.returns-in-Halves-clause-buf_after
unfolding by_schedule
returns-in-Halves-clause-buf_after c = rw c.in-Halves.is (laid c.args.buf.now _ (2 ^ c.args.n) (schedule3 c.args.n Point (rounded half_up (point c.args.table.now))) c.requires.le_n.2 c.by_halves.ensures.len (rw halves_once at (c.by_halves.ensures.after c.args.n (omega (arith, c.requires.le_n.2)))))

pub returns-in-Halves-clause-scratch_after : goal.returns-in-Halves-clause-scratch_after
unfolding cleared
returns-in-Halves-clause-scratch_after c = rw c.in-Halves.is refl
