-- In front of turn i the power is the i-th of (m + 1)/2.
use Rattle.std.specs.Prelude.{◌+◌, ◌/◌, ◌%◌, ◌^◌, ◌≡◌}
use Rattle.runs.proofs.factor.Given as goal

abbrev pub invariant-loop-i : goal.invariant-loop-i
invariant-loop-i l = l.power.0 ≡ ((l.m.value + 1) / 2) ^ l.i % l.m.value
