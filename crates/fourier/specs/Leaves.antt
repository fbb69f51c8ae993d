-- What a schedule leaves, said once: the last row of Dijkstra's array; that the five schedules leave it stands in proofs/. So they
-- agree, over every carrier, and what two steps keep between two carriers holds between the two results.
use Prim.Native.Nat.{ℕ, zero, suc, ◌+◌, ◌-◌, ◌/◌, ◌%◌, ◌^◌, ◌<◌, ◌≤◌}
use Rattle.std.specs.Prelude.{◌≡◌}
use Rattle.std.proofs.Common.{sym, ◌∙◌, ap₂, le_refl, mul-lt-mul_of_pos_right, arith, pow_pos}
use Rattle.std.proofs.Math.Nat.{sub-zero}
use Rattle.fourier.specs.Sizes.{rows, half_buffer}
use Rattle.fourier.specs.Reverse.{rev}
use Rattle.fourier.specs.Schedules.{Wing, Buffer, Schedule, Arithmetic, in_frequency, in_time}
use Rattle.fourier.specs.Array.{Exponents, frequency, array}

-- Every exponent that a step asks for lies in the table of N/2 entries.
abbrev pub Tabled : Exponents → ℕ → Type 0
Tabled e n = (s i j : ℕ) → s < n → i < 2 ^ (n - suc s) → e s i j < 2 ^ (n - 1)

pub frequency_tabled : (n : ℕ) → Tabled frequency n
frequency_tabled n s i j l h = omega (arith, mul-lt-mul_of_pos_right h (pow_pos s), half_buffer l)

-- The schedule f takes sample i at the place `order i` and leaves column p of the array's last row at the place `order p`; that column,
-- with p reversed, is `index` of its place: the sum which will stand there. `order` takes back itself.
pub record Leaves (e : Exponents) (n : ℕ) (order index : ℕ → ℕ) (f : Schedule) : Type 1 where
  pub tabled : Tabled e n
  pub last : (C : Type 0) (w : Wing C) (d : Buffer C) (p : ℕ) → p < 2 ^ n → f C w d (order p) ≡ array w e n (λ i. d (order i)) n 0 p
  pub within : (p : ℕ) → p < 2 ^ n → order p < 2 ^ n
  pub again : (p : ℕ) → p < 2 ^ n → order (order p) ≡ p
  pub stands : (p : ℕ) → p < 2 ^ n → rev n (order p) ≡ index p

-- ---- the relational induction

-- The steps v and w take values related at s to values related at s + 1, at every exponent of the table.
abbrev pub Keeps : {A B : Type 0} → ℕ → (ℕ → A → B → Type 0) → Wing A → Wing B → Type 0
Keeps {A} {B} n R v w = (s x e : ℕ) (a c : A) (b d : B) → e < 2 ^ (n - 1) → R s a b → R s c d → R (suc s) (v x e a c) (w x e b d)

module _ {A B : Type 0} (n : ℕ) (R : ℕ → A → B → Type 0) {v : Wing A} {w : Wing B} (keeps : Keeps n R v w) where
  pub array_related : (e : Exponents) → Tabled e n → (a : Buffer A) (b : Buffer B) → ((i : ℕ) → i < 2 ^ n → R 0 (a i) (b i)) →
      (s i j : ℕ) → s ≤ n → i < 2 ^ (n - s) → R s (array v e n a s i j) (array w e n b s i j)
  unfolding array
  array_related e tabled a b start zero i j l h = start i (rw sub-zero at h)
  array_related e tabled a b start (suc s) i j l h =
      keeps s (j % 2) (e s i (j / 2)) _ _ _ _ (tabled s i (j / 2) l h)
      (array_related e tabled a b start s i (j / 2) (omega arith) (omega (arith, rows l)))
      (array_related e tabled a b start s (i + 2 ^ (n - suc s)) (j / 2) (omega arith) (omega (arith, rows l)))

  -- What holds between the samples holds between the results.
  pub related : {e : Exponents} {order index : ℕ → ℕ} {f : Schedule} → Leaves e n order index f →
      (a : Buffer A) (b : Buffer B) → ((p : ℕ) → p < 2 ^ n → R 0 (a p) (b p)) → (p : ℕ) → p < 2 ^ n → R n (f A v a p) (f B w b p)
  related {e} {order} {f = f} leaves a b start p h =
      let q : order p < 2 ^ n = leaves.within p h in
      let ends : R n (f A v a (order (order p))) (f B w b (order (order p))) =
      rw (leaves.last A v a (order p) q, leaves.last B w b (order p) q)
      (array_related e leaves.tabled (λ i. a (order i)) (λ i. b (order i)) (λ i l. start (order i) (leaves.within i l)) n 0 (order p) (le_refl n) (pow_pos (n - n))) in
      rw (leaves.again p h) at ends

-- Sums, differences and products of related values are related.
pub record Carries {A B : Type 0} (S : A → B → Type 0) (α : Arithmetic A) (β : Arithmetic B) : Type 0 where
  pub plus : {a c : A} {b d : B} → S a b → S c d → S (α.plus a c) (β.plus b d)
  pub minus : {a c : A} {b d : B} → S a b → S c d → S (α.minus a c) (β.minus b d)
  pub times : {a c : A} {b d : B} → S a b → S c d → S (α.times a c) (β.times b d)

module _ {A B : Type 0} {S : A → B → Type 0} {α : Arithmetic A} {β : Arithmetic B} (carries : Carries S α β)
    (n : ℕ) (t : ℕ → A) (u : ℕ → B) (table : (e : ℕ) → e < 2 ^ (n - 1) → S (t e) (u e)) where
  pub frequency_keeps : Keeps n (λ s. S) (in_frequency α t) (in_frequency β u)
  frequency_keeps s zero e a c b d l h g = carries.plus h g
  frequency_keeps s (suc x) e a c b d l h g = carries.times (table e l) (carries.minus h g)

  pub time_keeps : Keeps n (λ s. S) (in_time α t) (in_time β u)
  time_keeps s zero e a c b d l h g = carries.plus h (carries.times (table e l) g)
  time_keeps s (suc x) e a c b d l h g = carries.minus h (carries.times (table e l) g)

-- ---- agreement

-- Schedules with the same exponents agree at every place, over every carrier and step, of the same samples: 1, 2 and 3 do, in one
-- order, and 4 and 5, each in its own.
pub agree : {e : Exponents} {n : ℕ} {order order' index index' : ℕ → ℕ} {f g : Schedule} → Leaves e n order index f → Leaves e n order' index' g →
    (C : Type 0) (w : Wing C) (d d' : Buffer C) → ((i : ℕ) → i < 2 ^ n → d (order i) ≡ d' (order' i)) → (p : ℕ) → p < 2 ^ n → f C w d (order p) ≡ g C w d' (order' p)
agree {e} {n} {order} {order'} left right C w d d' same p h =
    left.last C w d p h
    ∙ array_related n (λ s a b. a ≡ b) (λ s x k a c b d l g i. ap₂ (w x k) g i) e left.tabled (λ i. d (order i)) (λ i. d' (order' i)) same n 0 p (le_refl n) (pow_pos (n - n))
    ∙ sym (right.last C w d' p h)

-- No place outside the N is read.
pub local : {e : Exponents} {n : ℕ} {order index : ℕ → ℕ} {f : Schedule} → Leaves e n order index f →
    (C : Type 0) (w : Wing C) (d d' : Buffer C) → ((p : ℕ) → p < 2 ^ n → d p ≡ d' p) → (p : ℕ) → p < 2 ^ n → f C w d p ≡ f C w d' p
local {n = n} leaves C w = related n (λ s a b. a ≡ b) (λ s x e a c b d l g h. ap₂ (w x e) g h) leaves
