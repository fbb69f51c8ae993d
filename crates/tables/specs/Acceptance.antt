-- Acceptance of a table alone: what the call answers for every table, and what it means that it answers 0.
use Rattle.std.specs.Prelude.{ℕ, suc, ◌/◌, ◌≤◌, ◌≡◌, List, ltb, ℤ, length}
use Rattle.std.proofs.Common.{sym, ap, ◌∙◌, arith, ltb-true, lt-ltb}
use Rattle.answer.specs.Choice.{refuse, refuse_at, done, unless, judged_at, unless-done, unless_past, judged-done, judged_here}
use Rattle.answer.specs.Lengths.{log_of}
use Rattle.answer.specs.Search.{FailsFirst}
use Rattle.answer.proofs.Search.{first_passed, nowhere_passed, at_failed}
use Rattle.answer.specs.declared.Answer.{Answer}
use Rattle.points.specs.Interleaved.{point}
use Rattle.tables.specs.Rules.{rule, Accepted, bad_pair}

-- ---- definitions

-- Acceptance alone, "3 and 4 in fixed point": a table for N has N numbers.
unfoldable pub fixed_accept_verdict : List ℤ → Answer
fixed_accept_verdict table =
    -- 3: "when .. accepting alone, not that of any permitted N".
    unless (ltb 0 (log_of (length table))) (refuse 3)
    -- 4: "table not accepted; place: first .. pair at which a rule fails, N/2 for the closing rule".
    (judged_at 4 (bad_pair table) done)

pub record AcceptOutcome (table : List ℤ) (answer : Answer) : Type 0 where
  pub answers : answer ≡ fixed_accept_verdict table

-- ---- no second outcome

pub accept_functional : {table : List ℤ} {a b : Answer} → AcceptOutcome table a → AcceptOutcome table b → a ≡ b
accept_functional x y = x.answers ∙ sym y.answers

-- ---- what it says that nothing is refused

-- A table is accepted by itself: its length is that of a permitted N, and the rules hold at every place.
pub record AcceptedTable (table : List ℤ) : Type 0 where
  pub permitted : 1 ≤ log_of (length table)
  pub accepted : Accepted (length table / 2) (point table)

pub done_accepted : {table : List ℤ} {answer : Answer} → AcceptOutcome table answer → answer.number ≡ 0 → AcceptedTable table
unfolding fixed_accept_verdict
done_accepted {table} o e =
    let three = unless-done (ltb 0 (log_of (length table))) (refuse 3) _ (omega arith) (ap (λ a. a.number) (sym o.answers) ∙ e) in
    let four = judged-done 4 (bad_pair table) done (omega arith) three.1 in
    record { permitted = ltb-true _ _ three.0; accepted = nowhere_passed _ _ four.0 }

pub accepted_done : {table : List ℤ} {answer : Answer} → AcceptOutcome table answer → AcceptedTable table → answer ≡ done
unfolding fixed_accept_verdict
accepted_done {table} o r = o.answers ∙ rw (lt-ltb 0 (log_of (length table)) r.permitted, first_passed r.accepted)

-- The place of 4 is the first at which a rule fails.
pub accept_pair : {p : ℕ} {table : List ℤ} → AcceptOutcome table (refuse_at 4 p) → FailsFirst (rule (length table / 2) (point table)) (suc (length table / 2)) p
unfolding fixed_accept_verdict
accept_pair {p} {table} o =
    at_failed (rule (length table / 2) (point table)) (suc (length table / 2)) p
    (judged_here 4 (bad_pair table) done p (λ z. omega arith) (unless_past (ltb 0 (log_of (length table))) (refuse 3) _ (λ z. omega arith) (sym o.answers)))
