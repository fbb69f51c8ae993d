-- Lists by their places: the list of a function's values, and a list that holds them.
use Rattle.std.specs.Prelude.{ℕ, zero, suc, ◌<◌, ◌≡◌, refl, List, length, get_or}
use Rattle.std.proofs.Common.{sym, ◌∙◌, not-suc-le-zero, le_of_suc-le-suc, arith, ext_get_or}
use Rattle.answer.specs.Lists.{Holds, holds_self, length-tabulate, tabulate}

pub get_or-tabulate : {A : Type 0} (d : A) (n : ℕ) (f : ℕ → A) (p : ℕ) → p < n → get_or (tabulate n f) p d ≡ f p
unfolding tabulate
get_or-tabulate d zero f p h = absurd (not-suc-le-zero h)
get_or-tabulate d (suc n) f zero h = refl
get_or-tabulate d (suc n) f (suc p) h = get_or-tabulate d n (λ q. f (suc q)) p (le_of_suc-le-suc h)

module _ {A : Type 0} {d : A} where
  -- The two ways to say what a list holds.
  pub listed : {l : List A} {n : ℕ} {f : ℕ → A} → Holds d l n f → l ≡ tabulate n f
  listed {l} {n} {f} r =
      let e : length l ≡ n = r.long in
      ext_get_or d l (tabulate n f) (e ∙ sym (length-tabulate n f)) (λ p h. let k : p < n = omega arith in r.here p k ∙ sym (get_or-tabulate d n f p k))

  pub holds_tabulate : (n : ℕ) (f : ℕ → A) → Holds d (tabulate n f) n f
  holds_tabulate n f = record { long = length-tabulate n f; here = get_or-tabulate d n f }

  pub holds : {l : List A} {n : ℕ} {f : ℕ → A} → l ≡ tabulate n f → Holds d l n f
  holds {n = n} {f = f} e = rw e (holds_tabulate n f)

-- Functions with the same values make the same list.
pub tabulate_as : {A : Type 0} (n : ℕ) (f g : ℕ → A) → ((p : ℕ) → p < n → f p ≡ g p) → tabulate n f ≡ tabulate n g
unfolding tabulate
tabulate_as zero f g e = refl
tabulate_as (suc n) f g e = rw (e 0 (omega arith), tabulate_as n (λ p. f (suc p)) (λ p. g (suc p)) (λ p h. e (suc p) (omega arith)))

-- A list is the list of its own entries.
pub tabulate_self : {A : Type 0} (d : A) (l : List A) → tabulate (length l) (λ p. get_or l p d) ≡ l
tabulate_self d l = sym (listed (holds_self {d = d} l))
