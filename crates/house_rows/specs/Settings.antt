-- Settings, and the setting that a house row yields.
use Rattle.std.specs.Prelude.{ℕ, suc, ◌-◌, ◌<◌, ◌≤◌, ◌≡◌, ltb, get_or, replicate, Result, Ok, Err}
use Rattle.std.proofs.Common.{sym, ap, ◌∙◌, arith, lt-ltb}
use Rattle.answer.specs.Choice.{refuse, done, unless, if_done}
use Rattle.answer.specs.Lists.{tabulate}
use Rattle.answer.proofs.Lists.{get_or-tabulate}
use Rattle.answer.specs.declared.Answer.{Answer}
use Rattle.answer.specs.declared.Refusal.{Refusal}
use Rattle.residues.specs.declared.Residue.{Residue}
use Rattle.house_rows.specs.declared.Setting.{Setting}
use Rattle.house_rows.specs.Rows.{modulus_of, root_of}

-- ---- definitions

abbrev pub residue : ℕ → Residue
residue v = record { 0 = v }

-- The setting's root for 2^n.
unfoldable pub root_for : Setting → ℕ → ℕ
root_for setting n = (get_or setting.roots (n - 1) (residue 0)).0

-- "The modulus together with its twelve roots, one per length", of a house row.
unfoldable pub row_setting : ℕ → Setting
row_setting row = record { modulus = modulus_of row; roots = tabulate 12 (λ k. residue (root_of (modulus_of row) (suc k))) }

-- A setting "of all zeros".
abbrev pub zeros : Setting
zeros = record { modulus = 0; roots = replicate 12 (residue 0) }

-- The setting of an outcome, or zeros.
abbrev pub setting_or_zeros : Result Setting Refusal → Setting
setting_or_zeros (Ok setting) = setting
setting_or_zeros (Err refusal) = zeros

-- 9: "no such house row".
abbrev pub verdict : ℕ → Answer
verdict row = unless (ltb row 3) (refuse 9) done

-- What a row yields: the answer, and the row's setting or zeros.
pub record SettingOutcome (row : ℕ) (answer : Answer) (setting : Setting) : Type 0 where
  pub answers : answer ≡ verdict row
  pub yields : setting ≡ if_done (verdict row) (row_setting row) zeros

-- ---- no second outcome

pub setting_functional : {row : ℕ} {a b : Answer} {s t : Setting} → SettingOutcome row a s → SettingOutcome row b t → (a ≡ b) × (s ≡ t)
setting_functional x y = (x.answers ∙ sym y.answers, x.yields ∙ sym y.yields)

-- ---- each of the three rows yields its setting

pub row_yields : {row : ℕ} {answer : Answer} {setting : Setting} → row < 3 → SettingOutcome row answer setting → (answer ≡ done) × (setting ≡ row_setting row)
row_yields {row} h outcome = let e = lt-ltb row 3 h in (outcome.answers ∙ rw e, outcome.yields ∙ rw e)

-- ---- the roots of a row's setting

pub root_for_row : (row n : ℕ) → 1 ≤ n → n ≤ 12 → root_for (row_setting row) n ≡ root_of (modulus_of row) n
unfolding root_for row_setting
root_for_row row n a b =
    let e : suc (n - 1) ≡ n = omega arith in
    ap (λ r. r.0) (get_or-tabulate (residue 0) 12 (λ k. residue (root_of (modulus_of row) (suc k))) (n - 1) (omega arith)) ∙ rw e
