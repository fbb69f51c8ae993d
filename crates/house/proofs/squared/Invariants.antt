-- After i squares the power is x^(2^i).
use Rattle.std.proofs.Common.{◌≡◌, ◌%◌, ◌^◌}
use Rattle.house.proofs.squared.Given as goal

abbrev pub invariant-loop : goal.invariant-loop
invariant-loop l = l.power.0 ≡ l.initial.power.0 ^ 2 ^ l.counter % l.m.value
