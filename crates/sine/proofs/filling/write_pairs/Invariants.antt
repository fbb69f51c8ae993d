-- The pairs in front of `p` are our own.
use Prim.Native.Nat.{ℕ, ◌<◌}
use mathlib.Core.Path.{◌≡◌}
use lib.ListN.{length}
use Rattle.answer.specs.Lengths.{log_of}
use Rattle.points.specs.Interleaved.{point}
use Rattle.sine.specs.Sine.{sine_pair}
use Rattle.sine.proofs.filling.write_pairs.Given as goal

abbrev pub invariant-loop-p : goal.invariant-loop-p
invariant-loop-p l = (length l.table ≡ length l.initial.table) × ((q : ℕ) → q < l.p → point l.table q ≡ sine_pair (log_of (length l.initial.table)) q)
