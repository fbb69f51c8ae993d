-- A loop that writes place after place.
use Prim.Native.Nat.{ℕ, ◌+◌, ◌<◌, ◌≤◌}
use mathlib.Core.Path.{◌≡◌, refl, ◌∙◌}
use mathlib.Core.Logic.{⊎_elim}
use mathlib.Core.List.{List}
use native.Mathlib.Omega.{arith}
use lib.ListN.{length, get_or, set, length-set}
use lib.Seq.{get_or-set_same, get_or-set_other}
use Rattle.answer.specs.Cases.{lt_or_ge}
use Rattle.answer.specs.Lists.{Holds, holds_every}

-- l has n entries: new in front of place i, and old from there on.
pub record Written {A : Type 0} (d : A) (l : List A) (n i : ℕ) (new old : ℕ → A) : Type 0 where
  pub long : length l ≡ n
  pub past : (p : ℕ) → p < n → p < i → get_or l p d ≡ new p
  pub left : (p : ℕ) → p < n → i ≤ p → get_or l p d ≡ old p

module _ {A : Type 0} {d : A} {l : List A} {n : ℕ} {new old : ℕ → A} where
  -- Before the first place.
  pub written_none : Holds d l n old → Written d l n 0 new old
  written_none r = record { long = r.long; past = λ p h k. absurd (omega arith); left = λ p h k. r.here p h }

  module _ {i : ℕ} (r : Written d l n i new old) where
    -- The places i, .., j - 1 are written.
    pub written_more : {l' : List A} {j : ℕ} → length l' ≡ n → i ≤ j → ((p : ℕ) → p < n → i ≤ p → p < j → get_or l' p d ≡ new p)
        → ((p : ℕ) → p < i → get_or l' p d ≡ get_or l p d) → ((p : ℕ) → p < n → j ≤ p → get_or l' p d ≡ get_or l p d) → Written d l' n j new old
    written_more e h here front behind = record {
      long = e;
      past = λ p a b. ⊎_elim (λ k. front p k ∙ r.past p a k) (λ k. here p a k b) (lt_or_ge p i);
      left = λ p a b. behind p a b ∙ r.left p a (omega arith);
    }

    -- Place i is written.
    pub written_next : {x : A} → i < n → x ≡ new i → Written d (set l i x) n (i + 1) new old
    written_next {x} h e =
        let w = r.long in
        written_more (length-set l i x ∙ w) (omega arith)
        (λ p a b c. let q : p ≡ i = omega arith in rw q (get_or-set_same l i x d (omega arith) ∙ e))
        (λ p a. get_or-set_other l i p x d (λ q. omega arith))
        (λ p a b. get_or-set_other l i p x d (λ q. omega arith))

    -- Behind the last place.
    pub written_all : n ≤ i → Holds d l n new
    written_all h = record { long = r.long; here = λ p k. r.past p k (omega arith) }

    -- What is true of d, of old and of new is true of every entry.
    pub written_every : (P : A → Type 0) → P d → ((p : ℕ) → p < n → P (new p)) → ((p : ℕ) → p < n → P (old p)) → (p : ℕ) → P (get_or l p d)
    written_every P z a b =
        holds_every P {l = l} {f = λ p. get_or l p d} (record { long = r.long; here = λ p h. refl }) z
        (λ p h. ⊎_elim (λ k. rw (r.past p h k) (a p h)) (λ k. rw (r.left p h k) (b p h)) (lt_or_ge p i))
