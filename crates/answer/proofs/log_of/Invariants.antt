-- None of the candidates in front of n is met.
use Rattle.std.proofs.Common.{◌≡◌, ℕ, ◌<◌, ◌≤◌, ◌^◌}
use Rattle.answer.proofs.log_of.Given as goal

abbrev pub invariant-loop-n : goal.invariant-loop-n
invariant-loop-n l = (1 ≤ l.n) × ((k : ℕ) → 1 ≤ k → k < l.n → l.len ≡ 2 ^ k → ⊥)
