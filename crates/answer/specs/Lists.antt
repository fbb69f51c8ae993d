-- Lists by their places: the list of a function's values, and a list that holds them.
use Rattle.std.specs.Prelude.{ℕ, zero, suc, ◌<◌, ◌≡◌, refl, List, [], ◌∷◌, length, get_or}
use Rattle.std.proofs.Common.{ap, ⊎_elim, arith}
use Rattle.std.proofs.Math.ListN.{get_or-eq_default}
use Rattle.answer.specs.Cases.{lt_or_ge}

-- f 0, .., f (n - 1).
unfoldable pub tabulate : {A : Type 0} → ℕ → (ℕ → A) → List A
tabulate zero f = []
tabulate (suc n) f = f 0 ∷ tabulate n (λ p. f (suc p))

-- What stands at a place of a list of numbers, and 0 behind its end.
abbrev pub at : List ℕ → ℕ → ℕ
at l p = get_or l p 0

-- l has n entries, and at each place p the entry f p; d is what is read behind its end.
pub record Holds {A : Type 0} (d : A) (l : List A) (n : ℕ) (f : ℕ → A) : Type 0 where
  pub long : length l ≡ n
  pub here : (p : ℕ) → p < n → get_or l p d ≡ f p

pub length-tabulate : {A : Type 0} (n : ℕ) (f : ℕ → A) → length (tabulate n f) ≡ n
unfolding tabulate
length-tabulate zero f = refl
length-tabulate (suc n) f = ap suc (length-tabulate n (λ p. f (suc p)))

module _ {A : Type 0} {d : A} where
  -- A list holds its own entries.
  pub holds_self : (l : List A) → Holds d l (length l) (λ p. get_or l p d)
  holds_self l = record { long = refl; here = λ p h. refl }

  -- What is true of the function's values and of d is true of every entry.
  pub holds_every : (P : A → Type 0) {l : List A} {n : ℕ} {f : ℕ → A} → Holds d l n f → P d → ((p : ℕ) → p < n → P (f p)) → (p : ℕ) → P (get_or l p d)
  holds_every P {l} {n} r z each p =
      ⊎_elim (λ h. rw (r.here p h) (each p h)) (λ h. let e = r.long in rw (get_or-eq_default l d {n = p} (omega arith)) z) (lt_or_ge p n)
