-- The filling of a table: what the call answers and leaves, for every table.
use Rattle.std.specs.Prelude.{ℕ, ◌^◌, ◌≤◌, ◌≡◌, true, List, ltb, ℤ, length}
use Rattle.std.proofs.Common.{sym, ◌∙◌, lt-ltb}
use Rattle.answer.specs.Choice.{refuse, done, unless, if_done}
use Rattle.answer.specs.Lengths.{log_of, power_permitted}
use Rattle.answer.specs.declared.Answer.{Answer}
use Rattle.sine.specs.Sine.{sine_table}

-- ---- definitions

-- "Filling in fixed point knows 3 only."
unfoldable pub fixed_fill_verdict : List ℤ → Answer
fixed_fill_verdict table = unless (ltb 0 (log_of (length table))) (refuse 3) done

-- Filling leaves our own table for N, or what was there.
pub record FillOutcome (table : List ℤ) (answer : Answer) (left : List ℤ) : Type 0 where
  pub answers : answer ≡ fixed_fill_verdict table
  pub leaves : left ≡ if_done (fixed_fill_verdict table) (sine_table (log_of (length table))) table

-- ---- no second outcome

pub fill_functional : {table : List ℤ} {a b : Answer} {l k : List ℤ} → FillOutcome table a l → FillOutcome table b k → (a ≡ b) × (l ≡ k)
fill_functional x y = (x.answers ∙ sym y.answers, x.leaves ∙ sym y.leaves)

-- ---- theorems

-- Every length that is permitted is filled.
pub fills : (n : ℕ) → 1 ≤ n → n ≤ 12 → {table : List ℤ} {answer : Answer} {left : List ℤ} → length table ≡ 2 ^ n → FillOutcome table answer left → (answer ≡ done) × (left ≡ sine_table n)
unfolding fixed_fill_verdict
fills n some few {table} {answer} {left} long o =
    let e : log_of (length table) ≡ n = rw (long, power_permitted n some few) in
    let b : ltb 0 n ≡ true = lt-ltb 0 n some in
    (o.answers ∙ rw (e, b), o.leaves ∙ rw (e, b))
