-- The filling of a table from a setting: what it answers and leaves, that a filled table is accepted, and that the house rows fill.
use Rattle.std.specs.Prelude.{ℕ, ◌+◌, ◌-◌, ◌^◌, ◌<◌, ◌≤◌, ◌≡◌, List, ltb, length}
use Rattle.std.proofs.Common.{sym, ap, ◌∙◌, arith, ltb-true, lt-ltb}
use Rattle.answer.specs.Choice.{refuse, refuse_at, done, unless, if_done, unless-done}
use Rattle.answer.specs.Lengths.{table_log, power_permitted}
use Rattle.answer.proofs.Lengths.{permitted_log, permitted_range}
use Rattle.answer.specs.Lists.{at, length-tabulate}
use Rattle.answer.specs.declared.Answer.{Answer}
use Rattle.fourier.specs.Sizes.{two_halves}
use Rattle.fourier.specs.Table.{root, Accepted}
use Rattle.residues.specs.Moduli.{permits, Permitted, permits_permitted, permitted_permits}
use Rattle.house_rows.specs.declared.Setting.{Setting}
use Rattle.house_rows.specs.Powers.{powers, turns, Turns, powers-root, powers_accepted}
use Rattle.house_rows.proofs.Powers.{turns_facts, facts_turns}
use Rattle.house_rows.proofs.Rows.{row_permitted, root_below, root-turns}
use Rattle.house_rows.specs.Settings.{root_for, row_setting, root_for_row}

-- ---- definitions

-- The setting's root for that N.
abbrev pub root_of_table : Setting → ℕ → ℕ
root_of_table setting h = root_for setting (table_log h)

-- The refusals of a table of h entries, in document 01's order.
abbrev pub verdict : Setting → ℕ → Answer
verdict setting h =
    -- 2: "m even, below 3, or above 2^31 - 1".
    unless (permits setting.modulus) (refuse 2)
    -- 3: "when filling .., not that of any permitted N".
    (unless (ltb 0 (table_log h)) (refuse 3)
    -- 4: "the setting's root for N is not below m, or its power N/2 isn't m - 1; place N/2".
    (unless (turns setting.modulus (root_of_table setting h) h) (refuse_at 4 h) done))

-- What filling a table answers and leaves: the powers of the setting's root, or what was there.
pub record FillOutcome (setting : Setting) (table : List ℕ) (answer : Answer) (left : List ℕ) : Type 0 where
  pub answers : answer ≡ verdict setting (length table)
  pub leaves : left ≡ if_done (verdict setting (length table)) (powers setting.modulus (root_of_table setting (length table)) (length table)) table

-- ---- no second outcome

pub fill_functional : {setting : Setting} {table : List ℕ} {a b : Answer} {l k : List ℕ} → FillOutcome setting table a l → FillOutcome setting table b k → (a ≡ b) × (l ≡ k)
fill_functional x y = (x.answers ∙ sym y.answers, x.leaves ∙ sym y.leaves)

-- ---- what it says that nothing is refused

-- The length of a table for a permitted N is N/2.
pub table-length : (h : ℕ) → 1 ≤ table_log h → h ≡ 2 ^ (table_log h - 1)
table-length h l = let e : h + h ≡ 2 ^ (table_log h - 1) + 2 ^ (table_log h - 1) = (permitted_log (h + h) l).0 ∙ two_halves (table_log h) l in omega arith

-- No refusal applies.
pub record Ready (setting : Setting) (h : ℕ) : Type 0 where
  pub modulus : Permitted setting.modulus
  pub permitted : 1 ≤ table_log h
  pub root : Turns setting.modulus (root_of_table setting h) h

pub done_ready : (setting : Setting) (h : ℕ) → (verdict setting h).number ≡ 0 → Ready setting h
done_ready setting h e =
    let two = unless-done (permits setting.modulus) (refuse 2) _ (omega arith) e in
    let three = unless-done (ltb 0 (table_log h)) (refuse 3) _ (omega arith) two.1 in
    let four = unless-done (turns setting.modulus (root_of_table setting h) h) (refuse_at 4 h) done (omega arith) three.1 in
    record { modulus = permits_permitted _ two.0; permitted = ltb-true _ _ three.0; root = turns_facts _ _ _ four.0 }

pub ready_done : (setting : Setting) (h : ℕ) → Ready setting h → verdict setting h ≡ done
ready_done setting h r =
    rw (permitted_permits _ r.modulus, lt-ltb _ _ r.permitted, facts_turns _ _ _ r.root)

-- ---- theorems

-- A filled table is accepted, and its root is the setting's.
pub record Filled (setting : Setting) (table : List ℕ) : Type 0 where
  pub accepted : Accepted setting.modulus (length table) (at table)
  pub rooted : root setting.modulus (length table) (at table) ≡ root_of_table setting (length table)

pub filled : {setting : Setting} {table : List ℕ} {answer : Answer} {left : List ℕ} → FillOutcome setting table answer left → answer.number ≡ 0 → Filled setting left
unfolding powers
filled {setting} {table} {answer} {left} o e =
    let h = length table in
    let z : (verdict setting h).number ≡ 0 = ap (λ a. a.number) (sym o.answers) ∙ e in
    let r = done_ready setting h z in
    let l : left ≡ powers setting.modulus (root_of_table setting h) h = o.leaves ∙ rw z in
    let long : length left ≡ h = ap length l ∙ length-tabulate h _ in
    let two : 2 ≤ setting.modulus = omega (arith, r.modulus.least) in
    let some : 1 ≤ h = omega (arith, permitted_range (h + h) r.permitted) in
    record {
      accepted = rw (long, l) (powers_accepted setting.modulus (root_of_table setting h) h two some r.root);
      rooted = rw (long, l) (powers-root setting.modulus (root_of_table setting h) h two some r.root);
    }

-- Every house row fills a table of each of the twelve lengths.
row_done : (row n : ℕ) → row < 3 → 1 ≤ n → n ≤ 12 → verdict (row_setting row) (2 ^ (n - 1)) ≡ done
unfolding row_setting
row_done row n h a b =
    let e : table_log (2 ^ (n - 1)) ≡ n = rw (← two_halves n a) (power_permitted n a b) in
    ready_done (row_setting row) (2 ^ (n - 1)) (record {
      modulus = row_permitted row h;
      permitted = rw e a;
      root = rw (e, root_for_row row n a b) (record { below = root_below row h n; turn = root-turns row h n a b });
    })

pub row_fills : (row n : ℕ) → row < 3 → 1 ≤ n → n ≤ 12 → {table : List ℕ} {answer : Answer} {left : List ℕ} → length table ≡ 2 ^ (n - 1) → FillOutcome (row_setting row) table answer left →
    (answer ≡ done) × Filled (row_setting row) left
row_fills row n h a b {table} {answer} long o =
    let e : answer ≡ done = o.answers ∙ rw long (row_done row n h a b) in
    (e, filled o (ap (λ z. z.number) e))
