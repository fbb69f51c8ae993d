-- The groups that are counted and those that are left make all of them.
use mathlib.Core.Path.{◌≡◌}
use Prim.Native.Nat.{◌+◌, ◌<◌}
use lib.ListN.{length}
use Rattle.groups.specs.Groups.{bytes_of}
use Rattle.writer.proofs.size_of.Given as goal

abbrev pub invariant-loop-rest : goal.invariant-loop-rest
invariant-loop-rest l = (length (bytes_of l.v) + 1 ≡ l.size + length (bytes_of l.rest)) × (l.rest < 4294967296)

abbrev pub decreases-loop-rest : goal.decreases-loop-rest
decreases-loop-rest l = l.rest
