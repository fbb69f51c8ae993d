-- The length is that of a permitted N, or nothing is written.
use Rattle.std.proofs.Common.{ℕ, Option, Some, ◌≤◌, ◌∙◌, ◌≡◌, sym, length, arith, lt-ltb}
use Rattle.answer.specs.Lengths.{log_of, exponent_of}
use Rattle.answer.proofs.Lengths.{log_some}
use Rattle.sine.specs.Filling.{fixed_fill_verdict}
use Rattle.sine.proofs.filling.try_fill.Goals as goal

permitted : {r : Option ℕ} (N n : ℕ) → r ≡ exponent_of N → r ≡ Some n → 1 ≤ log_of N
permitted N n e f = let found = log_some (log_of N) n (sym f ∙ e) in omega arith

pub write_pairs-requires : goal.write_pairs-requires
write_pairs-requires c = permitted (length c.args.table.now) _ c.log_of.ensures c.in_ok-ok_or.ensures.ok_part

pub returns-clause-leaves : goal.returns-clause-leaves
unfolding fixed_fill_verdict
returns-clause-leaves c =
    let known = permitted (length c.args.table.now) _ c.log_of.ensures c.in_ok-ok_or.ensures.ok_part in
    rw (lt-ltb 0 (log_of (length c.args.table.now)) known) c.write_pairs.ensures
