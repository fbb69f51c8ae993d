-- That a filled table is accepted.
use Rattle.std.specs.Prelude.{ℕ, ◌-◌, ◌/◌, ◌^◌, ◌≤◌, ◌≡◌, List, ltb, ℤ, length}
use Rattle.std.proofs.Common.{sym, ap, ◌∙◌, arith, ltb-true}
use Rattle.answer.specs.Choice.{refuse, done, unless-done}
use Rattle.answer.specs.Lengths.{log_of, power_permitted}
use Rattle.answer.proofs.Lengths.{permitted_log}
use Rattle.answer.specs.declared.Answer.{Answer}
use Rattle.fourier.specs.Sizes.{two_halves}
use Rattle.tables.specs.Acceptance.{AcceptOutcome, AcceptedTable, accepted_done}
use Rattle.sine.specs.Sine.{sine_table, sine_table-length}
use Rattle.sine.proofs.Sine.{sine_table_accepted}
use Rattle.sine.specs.Filling.{FillOutcome, fills, fixed_fill_verdict}

-- Our own table is accepted.
pub sine_table-done : (n : ℕ) → 1 ≤ n → n ≤ 12 → AcceptedTable (sine_table n)
sine_table-done n some few =
    let long = sine_table-length n some in
    let half : length (sine_table n) / 2 ≡ 2 ^ (n - 1) = omega (arith, two_halves n some) in
    record { permitted = rw (long, power_permitted n some few) some; accepted = rw half (sine_table_accepted n some few) }

-- A filled table is accepted.
pub filled : {table : List ℤ} {answer : Answer} {left : List ℤ} → FillOutcome table answer left → answer.number ≡ 0 → AcceptedTable left
unfolding fixed_fill_verdict
filled {table} {answer} {left} o e =
    let some = ltb-true _ _ (unless-done (ltb 0 (log_of (length table))) (refuse 3) done (omega arith) (ap (λ a. a.number) (sym o.answers) ∙ e)).0 in
    let p = permitted_log (length table) some in
    rw (fills (log_of (length table)) some p.1 p.0 o).1 (sine_table-done (log_of (length table)) some p.1)

pub filled_accepted : {table : List ℤ} {a b : Answer} {left : List ℤ} → FillOutcome table a left → a.number ≡ 0 → AcceptOutcome left b → b ≡ done
filled_accepted o e accept = accepted_done accept (filled o e)
