-- The bytes that are written and those that are left make all of them.
use mathlib.Core.Path.{◌≡◌}
use Prim.Native.Nat.{◌+◌, ◌≤◌}
use lib.ListN.{length}
use Rattle.groups.specs.Groups.{bytes_of}
use Rattle.writer.proofs.Writing.{Writing}
use Rattle.writer.proofs.put_number.Given as goal

abbrev pub invariant-loop-q : goal.invariant-loop-q
invariant-loop-q l = record {
  writing : Writing l.v l.p l.initial.out l.out l.rest l.q;
  ends : l.end ≡ l.p + length (bytes_of l.v);
  last : l.last + 1 ≡ l.end;
  within : l.p ≤ l.last;
}
