-- A loop that exchanges the places of a list in pairs, p and its partner r p, each pair once.
use Prim.Native.Nat.{ℕ, ◌+◌, ◌<◌, ◌≤◌}
use mathlib.Core.Path.{◌≡◌, sym, ap, ◌∙◌}
use mathlib.Core.Logic.{◌⊎◌, inl, inr, ⊎_elim}
use mathlib.Core.List.{List}
use native.Mathlib.Omega.{arith}
use lib.ListN.{length, get_or, set, length-set}
use lib.Seq.{get_or-set_same, get_or-set_other}
use Rattle.answer.specs.Cases.{lt_or_ge, eq_or_ne}
use Rattle.answer.specs.Lists.{Holds}

-- Each place below n has its partner there, and is its partner's.
pub record Partners (r : ℕ → ℕ) (n : ℕ) : Type 0 where
  pub within : (p : ℕ) → p < n → r p < n
  pub again : (p : ℕ) → p < n → r (r p) ≡ p

-- The pairs with a place in front of i are exchanged, and the others are as in f.
pub record Exchanged {A : Type 0} (d : A) (l : List A) (n i : ℕ) (r : ℕ → ℕ) (f : ℕ → A) : Type 0 where
  pub long : length l ≡ n
  pub past : (p : ℕ) → p < n → (p < i) ⊎ (r p < i) → get_or l p d ≡ f (r p)
  pub left : (p : ℕ) → p < n → i ≤ p → i ≤ r p → get_or l p d ≡ f p

module _ {A : Type 0} {d : A} {l : List A} {n : ℕ} {r : ℕ → ℕ} {f : ℕ → A} where
  -- Before the first place.
  pub exchanged_none : Holds d l n f → Exchanged d l n 0 r f
  exchanged_none h = record { long = h.long; past = λ p a b. absurd (⊎_elim (λ z. omega arith) (λ z. omega arith) b); left = λ p a b c. h.here p a }

  module _ {i : ℕ} (e : Exchanged d l n i r f) where
    -- Behind the last place.
    pub exchanged_all : n ≤ i → Holds d l n (λ p. f (r p))
    exchanged_all h = record { long = e.long; here = λ p a. e.past p a (inl (omega arith)) }

    module _ (partners : Partners r n) (h : i < n) where
      -- The partner of i is in front of it, or i itself: the pair needs nothing.
      pub exchanged_stay : r i ≤ i → Exchanged d l n (i + 1) r f
      exchanged_stay k = record {
        long = e.long;
        past = λ p a b. ⊎_elim (λ c. e.past p a (inl c)) (λ c. ⊎_elim (λ g. e.past p a (inr g)) (λ g. own p a c g (here p a c g b)) (lt_or_ge (r p) i)) (lt_or_ge p i);
        left = λ p a b c. e.left p a (omega arith) (omega arith);
      }
        where
          here : (p : ℕ) → p < n → i ≤ p → i ≤ r p → (p < i + 1) ⊎ (r p < i + 1) → p ≡ i
          here p a c g (inl b) = omega arith
          here p a c g (inr b) = let same : r p ≡ i = omega arith in let back : r i ≡ p = rw same at (partners.again p a) in omega arith

          own : (p : ℕ) → p < n → i ≤ p → i ≤ r p → p ≡ i → get_or l p d ≡ f (r p)
          own p a c g q = let low : r p ≤ i = rw q k in let same : r p ≡ p = omega arith in e.left p a c g ∙ ap f (sym same)

      -- It is behind it: the two are exchanged.
      pub exchanged_swap : (j : ℕ) → j ≡ r i → i < j → Exchanged d (set (set l i (get_or l j d)) j (get_or l i d)) n (i + 1) r f
      exchanged_swap j ej k = record {
        long = length-set (set l i (get_or l j d)) j (get_or l i d) ∙ length-set l i (get_or l j d) ∙ e.long;
        past = λ p a b. ⊎_elim (λ q. rw q low) (λ q. ⊎_elim (λ g. rw g high) (λ g. other p q g ∙ e.past p a (before p a q g b)) (eq_or_ne p j)) (eq_or_ne p i);
        left = λ p a b c. other p (λ q. omega arith) (λ q. absurd (let z : r p ≡ i = rw q back in omega arith)) ∙ e.left p a (omega arith) (omega arith);
      }
        where
          inside : j < n
          inside = rw ej (partners.within i h)

          back : r j ≡ i
          back = rw ej (partners.again i h)

          long₁ : length (set l i (get_or l j d)) ≡ n
          long₁ = length-set l i (get_or l j d) ∙ e.long

          low : get_or (set (set l i (get_or l j d)) j (get_or l i d)) i d ≡ f (r i)
          low = get_or-set_other (set l i (get_or l j d)) j i (get_or l i d) d (λ q. omega arith) ∙ get_or-set_same l i (get_or l j d) d (omega (arith, e.long)) ∙ e.left j inside (omega arith) (omega (arith, back)) ∙ ap f ej

          high : get_or (set (set l i (get_or l j d)) j (get_or l i d)) j d ≡ f (r j)
          high = get_or-set_same (set l i (get_or l j d)) j (get_or l i d) d (omega (arith, long₁, inside)) ∙ e.left i h (omega arith) (omega (arith, ej)) ∙ ap f (sym back)

          other : (p : ℕ) → (p ≡ i → ⊥) → (p ≡ j → ⊥) → get_or (set (set l i (get_or l j d)) j (get_or l i d)) p d ≡ get_or l p d
          other p a b = get_or-set_other (set l i (get_or l j d)) j p (get_or l i d) d b ∙ get_or-set_other l i p (get_or l j d) d a

          before : (p : ℕ) → p < n → (p ≡ i → ⊥) → (p ≡ j → ⊥) → (p < i + 1) ⊎ (r p < i + 1) → (p < i) ⊎ (r p < i)
          before p a q g (inl b) = inl (omega arith)
          before p a q g (inr b) = ⊎_elim (λ z. absurd (g (sym (partners.again p a) ∙ ap r z ∙ sym ej))) (λ z. inr (omega arith)) (eq_or_ne (r p) i)
