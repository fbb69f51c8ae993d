-- The integers as a commutative ring, and the sizes of integers as natural numbers, which `omega` reads.
use Rattle.std.specs.Prelude.{◌≡◌, refl, ℕ, zero, suc, ◌+◌, ◌*◌, ◌≤◌, ◌<◌, ltb, ℤ, pos, negsuc, nat_abs, ◌+ℤ◌, ◌-ℤ◌, ◌*ℤ◌, neg_ℤ}
use Rattle.std.proofs.Common.{◌∙◌, ap₂, le_refl, arith, ltb→lt}
use Rattle.std.proofs.Math.IntN.{sub_ℕ, +ℤ_assoc, +ℤ_comm, +ℤ_idr, +ℤ_invr, *ℤ_comm}
use Rattle.algebra.specs.Gaps.{cond_either, add-*ℤ, *ℤ_assoc, one-*ℤ}
use Rattle.algebra.specs.Ring.{Ring}

-- The ring of integers, `ring integers ..`: its operations are those of ℤ, and its map from numbers is pos.
abbrev pub integers : Ring ℤ
integers =
    record {
      ◌⊕◌ = ◌+ℤ◌;
      ◌⊗◌ = ◌*ℤ◌;
      neg = neg_ℤ;
      of = pos;
      plus_assoc = +ℤ_assoc;
      plus_comm = +ℤ_comm;
      plus-zero = +ℤ_idr;
      plus-neg = +ℤ_invr;
      times_assoc = *ℤ_assoc;
      times_comm = *ℤ_comm;
      times-one = λ a. *ℤ_comm a (pos 1) ∙ one-*ℤ a;
      times-plus = λ a b c. *ℤ_comm a (b +ℤ c) ∙ add-*ℤ b c a ∙ ap₂ ◌+ℤ◌ (*ℤ_comm b a) (*ℤ_comm c a);
      of_plus = λ a b. refl;
      of_times = λ a b. refl;
    }

-- ---- sizes

nat_abs_subℕ : (a b m : ℕ) → a ≤ b + m → b ≤ a + m → nat_abs (sub_ℕ a b) ≤ m
nat_abs_subℕ a b m h l =
    cond_either (λ z. nat_abs z ≤ m) (ltb a b) (λ t. let q : a < b = ltb→lt a b t in omega arith) (λ t. omega arith)

-- Of a difference of natural numbers.
pub nat_abs_diff : (a b m : ℕ) → a ≤ b + m → b ≤ a + m → nat_abs (pos a -ℤ pos b) ≤ m
nat_abs_diff a zero m h l = omega arith
nat_abs_diff a (suc b) m h l = nat_abs_subℕ a (suc b) m h l

pub nat_abs-neg : (z : ℤ) → nat_abs (neg_ℤ z) ≡ nat_abs z
nat_abs-neg (pos zero) = refl
nat_abs-neg (pos (suc n)) = refl
nat_abs-neg (negsuc n) = refl

pub nat_abs-add : (a b : ℤ) → nat_abs (a +ℤ b) ≤ nat_abs a + nat_abs b
nat_abs-add (pos a) (pos b) = le_refl (a + b)
nat_abs-add (pos a) (negsuc b) = nat_abs_subℕ a (suc b) (a + suc b) (omega arith) (omega arith)
nat_abs-add (negsuc a) (pos b) = nat_abs_subℕ b (suc a) (suc a + b) (omega arith) (omega arith)
nat_abs-add (negsuc a) (negsuc b) = omega arith

pub nat_abs-sub : (a b : ℤ) → nat_abs (a -ℤ b) ≤ nat_abs a + nat_abs b
nat_abs-sub a b = rw (← nat_abs-neg b) (nat_abs-add a (neg_ℤ b))

pub nat_abs_mul : (a b : ℤ) → nat_abs (a *ℤ b) ≡ nat_abs a * nat_abs b
nat_abs_mul (pos a) (pos b) = refl
nat_abs_mul (pos a) (negsuc b) = nat_abs-neg (pos (a * suc b))
nat_abs_mul (negsuc a) (pos b) = nat_abs-neg (pos (suc a * b))
nat_abs_mul (negsuc a) (negsuc b) = refl
