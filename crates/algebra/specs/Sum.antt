-- Powers and finite sums in a commutative ring, and the sum of natural numbers.
use Rattle.std.specs.Prelude.{◌≡◌, [], ◌∷◌}
use Rattle.std.proofs.Math.Path.{refl, sym, ap, ap₂}
use Rattle.std.proofs.Common.{◌∙◌}
use Prim.Native.Nat.{ℕ, zero, suc, ◌+◌, ◌*◌, ◌%◌, ◌^◌, ◌<◌}
use Rattle.std.proofs.Math.Nat as N
use Rattle.algebra.specs.Ring.{Ring, one-times}
use Rattle.algebra.specs.Solver.{v, :0, ◌:+◌, ◌:*◌, ring}

-- The sum of f(k) over k below n, of natural numbers.
unfoldable pub total : ℕ → (ℕ → ℕ) → ℕ
total zero f = 0
total (suc n) f = total n f + f n

pub total_cong : (n : ℕ) {f g : ℕ → ℕ} → ((i : ℕ) → i < n → f i ≡ g i) → total n f ≡ total n g
unfolding total
total_cong zero h = refl
total_cong (suc n) h = ap₂ ◌+◌ (total_cong n (λ i l. h i (N.le_step l))) (h n (N.le_refl (suc n)))

module _ {K : Type 0} (R : Ring K) where
  infixl 65 ◌⊕◌
  infixl 70 ◌⊗◌
  open R use {◌⊕◌, ◌⊗◌, of, plus_assoc, plus-zero, times_assoc, times-one, of_plus, of_times}

  -- x to the n.
  unfoldable pub pow : K → ℕ → K
  pow x zero = of 1
  pow x (suc n) = pow x n ⊗ x

  -- The sum of f(k) over k below n.
  unfoldable pub sum : ℕ → (ℕ → K) → K
  sum zero f = of 0
  sum (suc n) f = sum n f ⊕ f n

  -- ---- powers

  pub pow-zero : (x : K) → pow x 0 ≡ of 1
  unfolding pow
  pow-zero x = refl

  pub pow-suc : (x : K) (n : ℕ) → pow x (suc n) ≡ pow x n ⊗ x
  unfolding pow
  pow-suc x n = refl

  pub pow-one : (x : K) → pow x 1 ≡ x
  unfolding pow
  pow-one x = one-times R x

  pub pow-plus : (x : K) (a b : ℕ) → pow x (a + b) ≡ pow x a ⊗ pow x b
  pow-plus x a b = elim b as (λ b. pow x (a + b) ≡ pow x a ⊗ pow x b) [
    | zero ↦ rw (N.add-zero, pow-zero) (sym (times-one (pow x a)))
    | suc (b → ih) ↦ rw (N.add-suc, pow-suc, pow-suc, ih) (times_assoc (pow x a) (pow x b) x)
  ]

  pub pow-times : (x : K) (a b : ℕ) → pow x (a * b) ≡ pow (pow x a) b
  pow-times x a b = elim b as (λ b. pow x (a * b) ≡ pow (pow x a) b) [ zero ↦ simp (N.mul-zero, pow-zero) | suc (b → ih) ↦ simp (N.mul-suc, pow-suc, pow-plus, ih) ]

  pub times-pow : (x y : K) (n : ℕ) → pow (x ⊗ y) n ≡ pow x n ⊗ pow y n
  times-pow x y n = elim n as (λ n. pow (x ⊗ y) n ≡ pow x n ⊗ pow y n) [
    | zero ↦ rw (pow-zero, pow-zero, pow-zero) (sym (times-one (of 1)))
    | suc (n → ih) ↦ rw (pow-suc, pow-suc, pow-suc, ih) (ring R (pow x n ∷ pow y n ∷ x ∷ y ∷ []) (v 0 :* v 1 :* (v 2 :* v 3)) (v 0 :* v 2 :* (v 1 :* v 3)) refl)
  ]

  pub one-pow : (n : ℕ) → pow (of 1) n ≡ of 1
  one-pow n = elim n as (λ n. pow (of 1) n ≡ of 1) [ zero ↦ pow-zero (of 1) | suc (n → ih) ↦ rw (pow-suc, ih) (times-one (of 1)) ]

  -- Powers of what comes round after n.
  pub pow_mod : (x : K) (n : ℕ) → pow x n ≡ of 1 → (e : ℕ) → pow x (e % n) ≡ pow x e
  pow_mod x n round e = sym (ap (pow x) (sym (N.div-add-mod e n)) ∙ rw (pow-plus, pow-times, round, one-pow) (one-times R (pow x (e % n))))

  pub of_pow : (a n : ℕ) → of (a ^ n) ≡ pow (of a) n
  of_pow a n = elim n as (λ n. of (a ^ n) ≡ pow (of a) n) [ zero ↦ rw (N.pow-zero, pow-zero) | suc (n → ih) ↦ rw (N.pow-suc, pow-suc, of_times, ih) ]

  -- ---- sums

  pub sum_one : (f : ℕ → K) → sum 1 f ≡ f 0
  unfolding sum
  sum_one f = ring R (f 0 ∷ []) (:0 :+ v 0) (v 0) refl

  pub sum_cong : (n : ℕ) {f g : ℕ → K} → ((i : ℕ) → i < n → f i ≡ g i) → sum n f ≡ sum n g
  unfolding sum
  sum_cong zero h = refl
  sum_cong (suc n) h = ap₂ ◌⊕◌ (sum_cong n (λ i l. h i (N.le_step l))) (h n (N.le_refl (suc n)))

  pub sum-plus : (n : ℕ) (f g : ℕ → K) → sum n (λ i. f i ⊕ g i) ≡ sum n f ⊕ sum n g
  unfolding sum
  sum-plus zero f g = sym (plus-zero (of 0))
  sum-plus (suc n) f g =
      ap (λ z. z ⊕ (f n ⊕ g n)) (sum-plus n f g)
      ∙ ring R (sum n f ∷ sum n g ∷ f n ∷ g n ∷ []) (v 0 :+ v 1 :+ (v 2 :+ v 3)) (v 0 :+ v 2 :+ (v 1 :+ v 3)) refl

  pub sum_split : (n m : ℕ) (f : ℕ → K) → sum (n + m) f ≡ sum n f ⊕ sum m (λ i. f (n + i))
  unfolding sum
  sum_split n zero f = rw N.add-zero (sym (plus-zero (sum n f)))
  sum_split n (suc m) f =
      rw N.add-suc (ap (λ z. z ⊕ f (n + m)) (sum_split n m f) ∙ plus_assoc (sum n f) (sum m (λ i. f (n + i))) (f (n + m)))

  pub of_total : (n : ℕ) (f : ℕ → ℕ) → of (total n f) ≡ sum n (λ k. of (f k))
  unfolding total sum
  of_total zero f = refl
  of_total (suc n) f = of_plus (total n f) (f n) ∙ ap (λ z. z ⊕ of (f n)) (of_total n f)
