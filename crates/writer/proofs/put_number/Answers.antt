use native.Mathlib.Omega.{arith}
use mathlib.Core.Path.{refl}
use Rattle.groups.specs.Theorems.{bytes_few}
use Rattle.writer.proofs.Writing.{inside, write_more, write_last, low, high}
use Rattle.writer.proofs.put_number.Goals as goal

pub overflow_sub-last : goal.overflow_sub-last
overflow_sub-last c =
    let ends = rw c.in_ok-end.ensures.ok_part at c.checked_add.ensures in
    omega (arith, c.size_of.ensures, bytes_few c.args.v)

pub loop-q-init : goal.loop-q-init
loop-q-init c =
    let ends = rw c.in_ok-end.ensures.ok_part at c.checked_add.ensures in
    record {
      writing = record { long = refl; small = omega arith; room = omega (arith, c.size_of.ensures); ends = refl; left = refl };
      ends = omega (arith, c.size_of.ensures);
      last = omega (arith, c.size_of.ensures, bytes_few c.args.v);
      within = omega (arith, c.size_of.ensures, bytes_few c.args.v);
    }

pub bounds-out-q : goal.bounds-out-q
bounds-out-q c = inside c.loop-q.invariant.writing

pub loop-q-preserved : goal.loop-q-preserved
loop-q-preserved c =
    let l = c.loop-q.invariant in
    record { writing = write_more l.writing (high l.writing (omega arith)); ends = l.ends; last = l.last; within = l.within }

pub overflow_cast-out-2 : goal.overflow_cast-out-2
overflow_cast-out-2 c = omega (arith, low c.loop-q.invariant.writing (omega arith))

pub bounds-out-last : goal.bounds-out-last
bounds-out-last c = omega (arith, inside c.loop-q.invariant.writing)

pub returns : goal.returns
returns c =
    let l = c.loop-q.invariant in
    write_last l.writing (omega arith) (omega arith) (omega arith)
