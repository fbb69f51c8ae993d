-- A loop over the pairs of places k and k + h of a list of 2h entries, which writes both places of each.
use Prim.Native.Nat.{ℕ, ◌+◌, ◌-◌, ◌<◌, ◌≤◌}
use mathlib.Core.Path.{◌≡◌, ◌∙◌}
use mathlib.Core.Logic.{⊎_elim}
use mathlib.Core.List.{List}
use native.Mathlib.Omega.{arith}
use lib.ListN.{length, get_or, set, length-set}
use lib.Seq.{get_or-set_same, get_or-set_other}
use Rattle.answer.specs.Cases.{lt_or_ge, eq_or_ne}
use Rattle.answer.specs.Lists.{Holds}

-- Both places of pair k hold what f says.
pub record Both {A : Type 0} (d : A) (l : List A) (h k : ℕ) (f : ℕ → A) : Type 0 where
  pub low : get_or l k d ≡ f k
  pub high : get_or l (k + h) d ≡ f (k + h)

-- The pairs in front of i are new, and those from i on old.
pub record Paired {A : Type 0} (d : A) (l : List A) (h i : ℕ) (new old : ℕ → A) : Type 0 where
  pub long : length l ≡ h + h
  pub past : (k : ℕ) → k < h → k < i → Both d l h k new
  pub left : (k : ℕ) → k < h → i ≤ k → Both d l h k old

module _ {A : Type 0} {d : A} {l : List A} {h : ℕ} {new old : ℕ → A} where
  -- Before the first pair.
  pub paired_none : Holds d l (h + h) old → Paired d l h 0 new old
  paired_none r = record {
    long = r.long;
    past = λ k a b. absurd (omega arith);
    left = λ k a b. record { low = r.here k (omega arith); high = r.here (k + h) (omega arith) };
  }

  module _ {i : ℕ} (r : Paired d l h i new old) where
    -- Pair i is written.
    pub paired_next : {x y : A} → i < h → x ≡ new i → y ≡ new (i + h) → Paired d (set (set l i x) (i + h) y) h (i + 1) new old
    paired_next {x} {y} g ex ey =
        let e : length l ≡ h + h = r.long in
        let e₁ : length (set l i x) ≡ h + h = length-set l i x ∙ e in
        let other : (p : ℕ) → (p ≡ i → ⊥) → (p ≡ i + h → ⊥) → get_or (set (set l i x) (i + h) y) p d ≡ get_or l p d =
        (λ p a b. get_or-set_other (set l i x) (i + h) p y d b ∙ get_or-set_other l i p x d a) in
        let same : (k : ℕ) (f : ℕ → A) → k < h → (k ≡ i → ⊥) → Both d l h k f → Both d (set (set l i x) (i + h) y) h k f =
        (λ k f a n b. record { low = other k n (λ q. omega arith) ∙ b.low; high = other (k + h) (λ q. omega arith) (λ q. n (omega arith)) ∙ b.high }) in
        record {
          long = length-set (set l i x) (i + h) y ∙ e₁;
          past = λ k a b. ⊎_elim
              (λ q. record {
                low = rw q (get_or-set_other (set l i x) (i + h) i y d (λ z. omega arith) ∙ get_or-set_same l i x d (omega arith) ∙ ex);
                high = rw q (get_or-set_same (set l i x) (i + h) y d (omega arith) ∙ ey);
              })
              (λ q. same k new a q (r.past k a (omega arith))) (eq_or_ne k i);
          left = λ k a b. same k old a (λ q. omega arith) (r.left k a (omega arith));
        }

    each : (P : A → ℕ → Type 0) → ((k : ℕ) → k < h → P (get_or l k d) k × P (get_or l (k + h) d) (k + h)) → (p : ℕ) → p < h + h → P (get_or l p d) p
    each P f p g = ⊎_elim (λ a. (f p a).0) (λ a. let e : p - h + h ≡ p = omega arith in rw e at (f (p - h) (omega arith)).1) (lt_or_ge p h)

    -- Behind the last pair.
    pub paired_all : h ≤ i → Holds d l (h + h) new
    paired_all g = record {
      long = r.long;
      here = each (λ x p. x ≡ new p) (λ k a. let b = r.past k a (omega arith) in (b.low, b.high));
    }
