-- The residues modulo m as a commutative ring. Its map from numbers takes a number to its residue.
use Rattle.std.specs.Prelude.{◌≡◌, ℕ, ◌+◌, ◌-◌, ◌*◌, ◌%◌, ◌<◌, ◌≤◌}
use Rattle.std.proofs.Math.Path.{sym}
use Rattle.std.proofs.Common.{ap, ◌∙◌}
use mathlib.Core.HLevel.{Σ_prop_path}
use Rattle.std.proofs.Math.Nat as N
use Rattle.std.proofs.Math.Bridge.{le_prop}
use Rattle.algebra.specs.Gaps.{mod_mul_left, mod_mul_right}
use Rattle.algebra.specs.Ring.{Ring, neg_unique}

-- A residue modulo m: a number below m.
abbrev pub Mod : ℕ → Type 0
Mod m = (a : ℕ) × (a < m)

pub mod_path : {m : ℕ} {u v : Mod m} → u.0 ≡ v.0 → u ≡ v
mod_path p = Σ_prop_path (λ x. le_prop) p

module _ (m : ℕ) (pos : 0 < m) where
  residue : ℕ → Mod m
  residue a = (a % m, N.mod-lt a pos)

  unfoldable pub modulo : Ring (Mod m)
  unfolding residue
  modulo =
      record {
        ◌⊕◌ = λ u v. residue (u.0 + v.0);
        ◌⊗◌ = λ u v. residue (u.0 * v.0);
        neg = λ u. residue (m - u.0);
        of = residue;
        plus_assoc = λ a b c. mod_path (simp (N.mod-add-mod, N.add-mod-mod, N.add_assoc));
        plus_comm = λ a b. mod_path (simp N.add_comm);
        plus-zero = λ a. mod_path (simp (N.zero-mod, N.add-zero) (N.mod-eq_of_lt a.1));
        plus-neg = λ a. mod_path (simp (N.add-mod-mod, N.zero-mod) (rw (N.add-sub_of_le (N.le_of_lt a.1)) (N.mod_self m)));
        times_assoc = λ a b c. mod_path (simp (mod_mul_left, mod_mul_right, N.mul_assoc));
        times_comm = λ a b. mod_path (simp N.mul_comm);
        times-one = λ a. mod_path (simp (mod_mul_right, N.mul-one) (N.mod-eq_of_lt a.1));
        times-plus = λ a b c. mod_path (simp (mod_mul_right, N.mod-add-mod, N.add-mod-mod, N.mul-add));
        of_plus = λ a b. mod_path (simp (N.mod-add-mod, N.add-mod-mod));
        of_times = λ a b. mod_path (simp (mod_mul_left, mod_mul_right));
      }

  open modulo use {neg, of, of_plus}

  pub of_number : (a : ℕ) → (of a).0 ≡ a % m
  unfolding modulo residue
  of_number a = λ i. a % m

  pub of_mod : (a : ℕ) → of (a % m) ≡ of a
  unfolding modulo residue
  of_mod a = mod_path (N.mod-mod a m)

  -- Two numbers below m with one residue are one number.
  pub of_injective : {a b : ℕ} → a < m → b < m → of a ≡ of b → a ≡ b
  of_injective {a} {b} h l e = sym (N.mod-eq_of_lt h) ∙ sym (of_number a) ∙ ap (λ (u : Mod m). u.0) e ∙ of_number b ∙ N.mod-eq_of_lt l

  pub of_modulus : of m ≡ of 0
  unfolding modulo residue
  of_modulus = mod_path (N.mod_self m ∙ sym (N.zero-mod m))

  pub of_minus : (b : ℕ) → b ≤ m → of (m - b) ≡ neg (of b)
  of_minus b h = neg_unique modulo (of b) (of (m - b)) (sym (of_plus b (m - b)) ∙ rw (N.add-sub_of_le h) of_modulus)
