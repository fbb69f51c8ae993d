-- Laws that the kit's library lacks: of a choice by a test, of remainders, and of the integers' product.
use Rattle.std.specs.Prelude.{◌≡◌, Bool, true, false, not, cond, ℕ, zero, suc, ◌+◌, ◌*◌, ◌/◌, ◌%◌, T, ℤ, pos, negsuc, ◌+ℤ◌, ◌-ℤ◌, ◌*ℤ◌, neg_ℤ}
use Rattle.std.proofs.Common.{sym, ◌∙◌, ap, ap₂, arith}
use Rattle.std.proofs.Math.Nat as N
use Rattle.std.proofs.Math.IntN.{one, +ℤ_assoc, +ℤ_comm, +ℤ_idl, +ℤ_idr, +ℤ_invr, +ℤ_invl, zero-*ℤ, *ℤ_comm, *ℤ-one, suc_ℤ-+ℤ, pred_ℤ-+ℤ, suc_ℤ-*ℤ, pred_ℤ-*ℤ}

pub cond_either {ℓ} : {A : Type ℓ} (P : A → Type 0) (b : Bool) {x y : A} → (T b → P x) → (T (not b) → P y) → P (cond b x y)
cond_either P true f g = f tt
cond_either P false f g = g tt

pub mod_mul_left : (a b m : ℕ) → a % m * b % m ≡ a * b % m
mod_mul_left a b m =
    let whole : (a / m * m + a % m) * b ≡ a * b = ap (λ (z : ℕ). z * b) (N.div-add-mod' a m) in
    let parts : a * b ≡ m * (a / m * b) + a % m * b = omega arith in
    rw parts (sym (N.mul-add-mod_self_left m (a / m * b) (a % m * b)))

pub mod_mul_right : (a b m : ℕ) → a * (b % m) % m ≡ a * b % m
mod_mul_right a b m = rw (N.mul_comm a (b % m), mod_mul_left, N.mul_comm b a)

+ℤ_right_comm : (a b c : ℤ) → a +ℤ b +ℤ c ≡ a +ℤ c +ℤ b
+ℤ_right_comm a b c = +ℤ_assoc a b c ∙ ap (λ x. a +ℤ x) (+ℤ_comm b c) ∙ sym (+ℤ_assoc a c b)

zero-add_*ℤ : (b c : ℤ) → (pos zero +ℤ b) *ℤ c ≡ pos zero *ℤ c +ℤ b *ℤ c
zero-add_*ℤ b c = ap (λ x. x *ℤ c) (+ℤ_idl b) ∙ sym (ap (λ x. x +ℤ b *ℤ c) (zero-*ℤ c) ∙ +ℤ_idl (b *ℤ c))

pub add-*ℤ : (a b c : ℤ) → (a +ℤ b) *ℤ c ≡ a *ℤ c +ℤ b *ℤ c
add-*ℤ (pos zero) b c = zero-add_*ℤ b c
add-*ℤ (pos (suc n)) b c =
    ap (λ x. x *ℤ c) (suc_ℤ-+ℤ (pos n) b) ∙ suc_ℤ-*ℤ (pos n +ℤ b) c ∙ ap (λ x. x +ℤ c) (add-*ℤ (pos n) b c)
    ∙ +ℤ_right_comm (pos n *ℤ c) (b *ℤ c) c ∙ ap (λ x. x +ℤ b *ℤ c) (sym (suc_ℤ-*ℤ (pos n) c))
add-*ℤ (negsuc zero) b c =
    ap (λ x. x *ℤ c) (pred_ℤ-+ℤ (pos zero) b) ∙ pred_ℤ-*ℤ (pos zero +ℤ b) c ∙ ap (λ x. x -ℤ c) (zero-add_*ℤ b c)
    ∙ +ℤ_right_comm (pos zero *ℤ c) (b *ℤ c) (neg_ℤ c) ∙ ap (λ x. x +ℤ b *ℤ c) (sym (pred_ℤ-*ℤ (pos zero) c))
add-*ℤ (negsuc (suc n)) b c =
    ap (λ x. x *ℤ c) (pred_ℤ-+ℤ (negsuc n) b) ∙ pred_ℤ-*ℤ (negsuc n +ℤ b) c ∙ ap (λ x. x -ℤ c) (add-*ℤ (negsuc n) b c)
    ∙ +ℤ_right_comm (negsuc n *ℤ c) (b *ℤ c) (neg_ℤ c) ∙ ap (λ x. x +ℤ b *ℤ c) (sym (pred_ℤ-*ℤ (negsuc n) c))

pub neg-*ℤ : (a b : ℤ) → neg_ℤ a *ℤ b ≡ neg_ℤ (a *ℤ b)
neg-*ℤ a b =
    sym (+ℤ_idr (neg_ℤ a *ℤ b)) ∙ ap (λ x. neg_ℤ a *ℤ b +ℤ x) (sym (+ℤ_invr (a *ℤ b))) ∙ sym (+ℤ_assoc (neg_ℤ a *ℤ b) (a *ℤ b) (neg_ℤ (a *ℤ b)))
    ∙ ap (λ x. x +ℤ neg_ℤ (a *ℤ b)) (sym (add-*ℤ (neg_ℤ a) a b) ∙ ap (λ x. x *ℤ b) (+ℤ_invl a) ∙ zero-*ℤ b) ∙ +ℤ_idl (neg_ℤ (a *ℤ b))

pub one-*ℤ : (b : ℤ) → pos 1 *ℤ b ≡ b
unfolding one
one-*ℤ b = *ℤ_comm (pos 1) b ∙ *ℤ-one b

pub *ℤ_assoc : (a b c : ℤ) → a *ℤ b *ℤ c ≡ a *ℤ (b *ℤ c)
*ℤ_assoc (pos zero) b c = ap (λ x. x *ℤ c) (zero-*ℤ b) ∙ zero-*ℤ c ∙ sym (zero-*ℤ (b *ℤ c))
*ℤ_assoc (pos (suc n)) b c =
    ap (λ x. x *ℤ c) (suc_ℤ-*ℤ (pos n) b) ∙ add-*ℤ (pos n *ℤ b) b c ∙ ap (λ x. x +ℤ b *ℤ c) (*ℤ_assoc (pos n) b c) ∙ sym (suc_ℤ-*ℤ (pos n) (b *ℤ c))
*ℤ_assoc (negsuc zero) b c =
    ap (λ x. x *ℤ c) (neg-*ℤ (pos 1) b) ∙ neg-*ℤ (pos 1 *ℤ b) c ∙ ap neg_ℤ (ap (λ x. x *ℤ c) (one-*ℤ b) ∙ sym (one-*ℤ (b *ℤ c))) ∙ sym (neg-*ℤ (pos 1) (b *ℤ c))
*ℤ_assoc (negsuc (suc n)) b c =
    ap (λ x. x *ℤ c) (pred_ℤ-*ℤ (negsuc n) b) ∙ add-*ℤ (negsuc n *ℤ b) (neg_ℤ b) c
    ∙ ap₂ ◌+ℤ◌ (*ℤ_assoc (negsuc n) b c) (neg-*ℤ b c) ∙ sym (pred_ℤ-*ℤ (negsuc n) (b *ℤ c))
