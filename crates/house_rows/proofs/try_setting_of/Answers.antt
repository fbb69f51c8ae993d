-- The constant holds the three settings, so each row finds its own.
use Rattle.std.proofs.Common.{◌≡◌, ℕ, ◌<◌, refl, ap, lt-ltb, arith}
use Rattle.answer.specs.Choice.{done}
use Rattle.answer.specs.Lists.{tabulate}
use Rattle.answer.proofs.Lists.{tabulate_as}
use Rattle.house_rows.specs.Rows.{modulus_of, constants, constant}
use Rattle.house_rows.proofs.Rows.{constant-root}
use Rattle.house_rows.specs.declared.Setting.{Setting}
use Rattle.house_rows.specs.Settings.{residue, row_setting, SettingOutcome}
use Rattle.house_rows.proofs.try_setting_of.Goals as goal

-- A row's setting by the constants.
abbrev by_constants : ℕ → Setting
by_constants row = record { modulus = modulus_of row; roots = tabulate 12 (λ k. residue (constant row k)) }

as_roots : (row : ℕ) → row < 3 → by_constants row ≡ row_setting row
unfolding row_setting
as_roots row h = ap (λ roots. record { modulus = modulus_of row; roots = roots }) (tabulate_as 12 _ _ (λ k l. ap residue (constant-root row h k l)))

found : (row k : ℕ) → row ≡ k → k < 3 → SettingOutcome row done (by_constants k)
found row k e h = rw e (record { answers = rw (lt-ltb k 3 h) refl; yields = rw (lt-ltb k 3 h) (as_roots k h) })

pub returns-in-0 : goal.returns-in-0
unfolding constant constants modulus_of tabulate
returns-in-0 c = found c.args.row 0 c.in-0.is (omega arith)

pub returns-in-1 : goal.returns-in-1
unfolding constant constants modulus_of tabulate
returns-in-1 c = found c.args.row 1 c.in-1.is (omega arith)

pub returns-in-2 : goal.returns-in-2
unfolding constant constants modulus_of tabulate
returns-in-2 c = found c.args.row 2 c.in-2.is (omega arith)
