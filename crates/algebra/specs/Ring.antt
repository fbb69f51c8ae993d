-- Commutative rings: operations, the map from numbers, and laws as equations; and the laws that follow from them.
use Rattle.std.specs.Prelude.{◌≡◌, ℕ, ◌+◌, ◌*◌}
use Rattle.std.proofs.Common.{sym, ap, ◌∙◌}

pub record Ring (K : Type 0) : Type 0 where
  infixl 65 ◌⊕◌
  infixl 70 ◌⊗◌
  pub ◌⊕◌ : K → K → K
  pub ◌⊗◌ : K → K → K
  pub neg : K → K
  -- The number n in the ring: of 0 is zero and of 1 is one.
  pub of : ℕ → K
  pub plus_assoc : (a b c : K) → a ⊕ b ⊕ c ≡ a ⊕ (b ⊕ c)
  pub plus_comm : (a b : K) → a ⊕ b ≡ b ⊕ a
  pub plus-zero : (a : K) → a ⊕ of 0 ≡ a
  pub plus-neg : (a : K) → a ⊕ neg a ≡ of 0
  pub times_assoc : (a b c : K) → a ⊗ b ⊗ c ≡ a ⊗ (b ⊗ c)
  pub times_comm : (a b : K) → a ⊗ b ≡ b ⊗ a
  pub times-one : (a : K) → a ⊗ of 1 ≡ a
  pub times-plus : (a b c : K) → a ⊗ (b ⊕ c) ≡ a ⊗ b ⊕ a ⊗ c
  pub of_plus : (a b : ℕ) → of (a + b) ≡ of a ⊕ of b
  pub of_times : (a b : ℕ) → of (a * b) ≡ of a ⊗ of b

module _ {K : Type 0} (R : Ring K) where
  infixl 65 ◌⊕◌
  infixl 70 ◌⊗◌
  open R use {◌⊕◌, ◌⊗◌, neg, of, plus_assoc, plus_comm, plus-zero, plus-neg, times_assoc, times_comm, times-one, times-plus}

  pub zero-plus : (a : K) → of 0 ⊕ a ≡ a
  zero-plus a = plus_comm (of 0) a ∙ plus-zero a

  pub one-times : (a : K) → of 1 ⊗ a ≡ a
  one-times a = times_comm (of 1) a ∙ times-one a

  pub plus_left_comm : (a b c : K) → a ⊕ (b ⊕ c) ≡ b ⊕ (a ⊕ c)
  plus_left_comm a b c = sym (plus_assoc a b c) ∙ rw (plus_comm a b) (plus_assoc b a c)

  pub times_left_comm : (a b c : K) → a ⊗ (b ⊗ c) ≡ b ⊗ (a ⊗ c)
  times_left_comm a b c = sym (times_assoc a b c) ∙ rw (times_comm a b) (times_assoc b a c)

  pub plus_times : (a b c : K) → (a ⊕ b) ⊗ c ≡ a ⊗ c ⊕ b ⊗ c
  plus_times a b c = times_comm (a ⊕ b) c ∙ times-plus c a b ∙ rw (times_comm c a, times_comm c b)

  pub neg-plus_cancel : (a b : K) → neg a ⊕ (a ⊕ b) ≡ b
  neg-plus_cancel a b = sym (plus_assoc (neg a) a b) ∙ rw (plus_comm (neg a) a, plus-neg a) (zero-plus b)

  -- What added to a gives zero is its negative.
  pub neg_unique : (a b : K) → a ⊕ b ≡ of 0 → b ≡ neg a
  neg_unique a b h = sym (neg-plus_cancel a b) ∙ rw h (plus-zero (neg a))

  pub neg-neg : (a : K) → neg (neg a) ≡ a
  neg-neg a = sym (neg_unique (neg a) a (plus_comm (neg a) a ∙ plus-neg a))

  pub times_zero : (a : K) → a ⊗ of 0 ≡ of 0
  times_zero a = sym (neg-plus_cancel (a ⊗ of 0) (a ⊗ of 0)) ∙ rw (← times-plus a (of 0) (of 0), plus-zero (of 0)) (plus_comm (neg (a ⊗ of 0)) (a ⊗ of 0) ∙ plus-neg (a ⊗ of 0))

  pub zero-times : (a : K) → of 0 ⊗ a ≡ of 0
  zero-times a = times_comm (of 0) a ∙ times_zero a

  pub times-neg : (a b : K) → a ⊗ neg b ≡ neg (a ⊗ b)
  times-neg a b = neg_unique (a ⊗ b) (a ⊗ neg b) (sym (times-plus a b (neg b)) ∙ rw (plus-neg b) (times_zero a))

  pub neg-times : (a b : K) → neg a ⊗ b ≡ neg (a ⊗ b)
  neg-times a b = times_comm (neg a) b ∙ times-neg b a ∙ ap neg (times_comm b a)
