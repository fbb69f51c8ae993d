-- Identities of a commutative ring, by computation. An expression is brought to a normal form: a list of signed monomials in a fixed
-- order, in which opposite ones have met and gone. Two expressions with one normal form have one value in every ring (`ring`).
use Rattle.std.specs.Prelude.{◌≡◌, Bool, cond, ◌&&◌, ℕ, zero, suc, T, leb, eqb}
use Rattle.std.proofs.Math.Path.{refl, sym, ap, ap₂}
use Rattle.std.proofs.Common.{◌∙◌, eqb→eq}
use Rattle.std.proofs.Math.Bool.{true, false}
use Rattle.std.specs.Bool.{beq}
use mathlib.Core.List.{List, [], ◌∷◌}
use Rattle.algebra.specs.Gaps.{cond_either}
use Rattle.algebra.specs.Ring.{Ring, zero-plus, one-times, plus_left_comm, times_left_comm, plus_times, neg-plus_cancel, neg-neg, times_zero, zero-times, times-neg, neg-times}

-- ---- expressions

infixl 65 ◌:+◌ ◌:-◌
infixl 70 ◌:*◌
pub data Expression : Type 0 where
  -- the variable of that number
  v : ℕ → Expression
  :0 :1 : Expression
  ◌:+◌ ◌:-◌ ◌:*◌ : Expression → Expression → Expression
  :neg : Expression → Expression

-- ---- the normal form

-- A monomial is its variables in order. A term with `true` is added, one with `false` is taken away.
pub data Polynomial : Type 0 where
  none : Polynomial
  term : Bool → List ℕ → Polynomial → Polynomial

abbrev pub same : List ℕ → List ℕ → Bool
same [] [] = true
same [] (y ∷ n) = false
same (x ∷ m) [] = false
same (x ∷ m) (y ∷ n) = eqb x y && same m n

abbrev pub before : List ℕ → List ℕ → Bool
before [] n = true
before (x ∷ m) [] = false
before (x ∷ m) (y ∷ n) = cond (eqb x y) (before m n) (leb x y)

abbrev pub insert : ℕ → List ℕ → List ℕ
insert x [] = x ∷ []
insert x (y ∷ m) = cond (leb x y) (x ∷ (y ∷ m)) (y ∷ insert x m)

abbrev pub join : List ℕ → List ℕ → List ℕ
join [] n = n
join (x ∷ m) n = insert x (join m n)

-- A term put to its place; where its opposite stands there, both go.
abbrev pub put : Bool → List ℕ → Polynomial → Polynomial
put s m none = term s m none
put s m (term t n p) =
    cond (same m n)
    (cond (beq s t) (term s m (term t n p)) p)
    (cond (before m n) (term s m (term t n p)) (term t n (put s m p)))

abbrev pub add : Polynomial → Polynomial → Polynomial
add none q = q
add (term s m p) q = put s m (add p q)

abbrev pub scale : Bool → List ℕ → Polynomial → Polynomial
scale s m none = none
scale s m (term t n p) = put (beq s t) (join m n) (scale s m p)

abbrev pub multiply : Polynomial → Polynomial → Polynomial
multiply none q = none
multiply (term s m p) q = add (scale s m q) (multiply p q)

abbrev pub normal : Expression → Polynomial
normal (v n) = term true (n ∷ []) none
normal :0 = none
normal :1 = term true [] none
normal (a :+ b) = add (normal a) (normal b)
normal (a :- b) = add (normal a) (scale false [] (normal b))
normal (a :* b) = multiply (normal a) (normal b)
normal (:neg a) = scale false [] (normal a)

-- ---- values

module _ {K : Type 0} (R : Ring K) (ρ : List K) where
  infixl 65 ◌⊕◌
  infixl 70 ◌⊗◌
  open R use {◌⊕◌, ◌⊗◌, neg, of, plus_assoc, plus-zero, plus-neg, times_assoc, times-one, times-plus}

  abbrev pub look : List K → ℕ → K
  look [] n = of 0
  look (a ∷ l) zero = a
  look (a ∷ l) (suc n) = look l n

  abbrev pub value : Expression → K
  value (v n) = look ρ n
  value :0 = of 0
  value :1 = of 1
  value (a :+ b) = value a ⊕ value b
  value (a :- b) = value a ⊕ neg (value b)
  value (a :* b) = value a ⊗ value b
  value (:neg a) = neg (value a)

  product : List ℕ → K
  product [] = of 1
  product (x ∷ m) = look ρ x ⊗ product m

  signed : Bool → K → K
  signed true a = a
  signed false a = neg a

  worth : Polynomial → K
  worth none = of 0
  worth (term s m p) = signed s (product m) ⊕ worth p

  -- ---- the normal form has the expression's value

  product_insert : (x : ℕ) (m : List ℕ) → product (insert x m) ≡ look ρ x ⊗ product m
  unfolding product
  product_insert x [] = refl
  product_insert x (y ∷ m) = cond_either (λ l. product l ≡ look ρ x ⊗ product (y ∷ m)) (leb x y) (λ t. refl)
      (λ t. ap (λ z. look ρ y ⊗ z) (product_insert x m) ∙ times_left_comm R (look ρ y) (look ρ x) (product m))

  product_join : (m n : List ℕ) → product (join m n) ≡ product m ⊗ product n
  unfolding product
  product_join [] n = sym (one-times R (product n))
  product_join (x ∷ m) n = product_insert x (join m n) ∙ ap (λ z. look ρ x ⊗ z) (product_join m n) ∙ sym (times_assoc (look ρ x) (product m) (product n))

  same→eq : (m n : List ℕ) → T (same m n) → m ≡ n
  same→eq [] [] t = refl
  same→eq [] (y ∷ n) t = absurd t
  same→eq (x ∷ m) [] t = absurd t
  same→eq (x ∷ m) (y ∷ n) t = both (eqb x y) (same m n) (eqb→eq x y) (same→eq m n) t
    where
      both : (a b : Bool) → (T a → x ≡ y) → (T b → m ≡ n) → T (a && b) → x ∷ m ≡ y ∷ n
      both true b f g t = ap₂ ◌∷◌ (f tt) (g t)
      both false b f g t = absurd t

  signed_beq : (s t : Bool) (a b : K) → signed (beq s t) (a ⊗ b) ≡ signed s a ⊗ signed t b
  unfolding signed
  signed_beq true true a b = refl
  signed_beq true false a b = sym (times-neg R a b)
  signed_beq false true a b = sym (neg-times R a b)
  signed_beq false false a b = sym (neg-times R a (neg b) ∙ ap neg (times-neg R a b) ∙ neg-neg R (a ⊗ b))

  worth_meet : (s t : Bool) (m : List ℕ) (p : Polynomial) → worth (cond (beq s t) (term s m (term t m p)) p) ≡ signed s (product m) ⊕ worth (term t m p)
  unfolding worth signed
  worth_meet true true m p = refl
  worth_meet false false m p = refl
  worth_meet false true m p = sym (neg-plus_cancel R (product m) (worth p))
  worth_meet true false m p = sym (plus_left_comm R (product m) (neg (product m)) (worth p) ∙ neg-plus_cancel R (product m) (worth p))

  worth_put : (s : Bool) (m : List ℕ) (p : Polynomial) → worth (put s m p) ≡ signed s (product m) ⊕ worth p
  unfolding worth
  worth_put s m none = refl
  worth_put s m (term t n p) =
      cond_either Right (same m n) (λ e. rw (same→eq m n e) (worth_meet s t n p))
      (λ e. cond_either Right (before m n) (λ e. refl)
      (λ e. ap (λ y. signed t (product n) ⊕ y) (worth_put s m p) ∙ plus_left_comm R (signed t (product n)) (signed s (product m)) (worth p)))
    where
      Right : Polynomial → Type 0
      Right q = worth q ≡ signed s (product m) ⊕ worth (term t n p)

  worth_add : (p q : Polynomial) → worth (add p q) ≡ worth p ⊕ worth q
  unfolding worth
  worth_add none q = sym (zero-plus R (worth q))
  worth_add (term s m p) q = worth_put s m (add p q) ∙ ap (λ y. signed s (product m) ⊕ y) (worth_add p q) ∙ sym (plus_assoc (signed s (product m)) (worth p) (worth q))

  worth_scale : (s : Bool) (m : List ℕ) (p : Polynomial) → worth (scale s m p) ≡ signed s (product m) ⊗ worth p
  unfolding worth
  worth_scale s m none = sym (times_zero R (signed s (product m)))
  worth_scale s m (term t n p) =
      worth_put (beq s t) (join m n) (scale s m p)
      ∙ ap₂ ◌⊕◌ (ap (signed (beq s t)) (product_join m n) ∙ signed_beq s t (product m) (product n)) (worth_scale s m p)
      ∙ sym (times-plus (signed s (product m)) (signed t (product n)) (worth p))

  worth_multiply : (p q : Polynomial) → worth (multiply p q) ≡ worth p ⊗ worth q
  unfolding worth
  worth_multiply none q = sym (zero-times R (worth q))
  worth_multiply (term s m p) q =
      worth_add (scale s m q) (multiply p q) ∙ ap₂ ◌⊕◌ (worth_scale s m q) (worth_multiply p q) ∙ sym (plus_times R (signed s (product m)) (worth p) (worth q))

  worth_neg : (p : Polynomial) → worth (scale false [] p) ≡ neg (worth p)
  unfolding signed product
  worth_neg p = worth_scale false [] p ∙ neg-times R (of 1) (worth p) ∙ ap neg (one-times R (worth p))

  worth_normal : (a : Expression) → worth (normal a) ≡ value a
  unfolding worth signed product
  worth_normal (v n) = plus-zero (look ρ n ⊗ of 1) ∙ times-one (look ρ n)
  worth_normal :0 = refl
  worth_normal :1 = plus-zero (of 1)
  worth_normal (a :+ b) = worth_add (normal a) (normal b) ∙ ap₂ ◌⊕◌ (worth_normal a) (worth_normal b)
  worth_normal (a :- b) = worth_add (normal a) (scale false [] (normal b)) ∙ ap₂ ◌⊕◌ (worth_normal a) (worth_neg (normal b) ∙ ap neg (worth_normal b))
  worth_normal (a :* b) = worth_multiply (normal a) (normal b) ∙ ap₂ ◌⊗◌ (worth_normal a) (worth_normal b)
  worth_normal (:neg a) = worth_neg (normal a) ∙ ap neg (worth_normal a)

  -- Two expressions with one normal form are equal: `ring R (a ∷ b ∷ []) LEFT RIGHT refl`, where v 0 is a and v 1 is b.
  pub ring : (a b : Expression) → normal a ≡ normal b → value a ≡ value b
  ring a b e = sym (worth_normal a) ∙ ap worth e ∙ worth_normal b
