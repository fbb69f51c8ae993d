-- An entry, or 0 minus an entry.
use Prim.Native.Nat.{◌-◌}
use native.Mathlib.Nat.{zero-add}
use native.Mathlib.Omega.{arith}
use lib.ListN.{length}
use borrow.Author.Tests.{lt-ltb, le-ltb}
use Rattle.fourier.specs.Table.{lookup}
use Rattle.residues.proofs.lookup.Goals as goal

pub returns-then-place-table : goal.returns-then-place-table
unfolding lookup
returns-then-place-table c = simp (lt-ltb _ _ c.if-place-table.true)

pub minus-requires : goal.minus-requires
minus-requires c =
    let entry = c.requires.below.each (c.args.e.0 - length c.args.table.now) in
    (omega arith, omega arith)

pub returns : goal.returns
unfolding lookup
returns c = rw (← zero-add (c.args.m.value - _), le-ltb _ _ c.if-place-table.false) c.minus.ensures
