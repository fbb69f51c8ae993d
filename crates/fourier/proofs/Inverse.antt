-- The inverse, by undoing stages: T1's stages visit the pairs of schedule 1's stages in the opposite order, and a step by x^(-e) takes
-- back a step by x^e, but for a factor 2. It gives the samples back, and a transform of the inverse gives back what was given.
use Prim.Native.Nat.{ℕ, zero, suc, ◌+◌, ◌-◌, ◌*◌, ◌/◌, ◌%◌, ◌^◌, ◌<◌, ◌≤◌}
use Rattle.std.specs.Prelude.{◌≡◌, [], ◌∷◌, ◌⊎◌}
use Rattle.std.proofs.Math.Path.{refl}
use Rattle.std.proofs.Common.{sym, ap, ◌∙◌, inl, inr, le_refl, mod-lt, pow_pos}
use Rattle.std.proofs.Math.Nat.{sub-zero, sub_self}
use native.Mathlib.Omega.{arith}
use Rattle.algebra.specs.Ring.{Ring, one-times}
use Rattle.algebra.specs.Solver.{v, :1, ◌:+◌, ◌:-◌, ◌:*◌, ring}
use Rattle.algebra.specs.Sum.{pow, pow-zero, pow-suc, times-pow, one-pow}
use Rattle.fourier.specs.Reverse.{rev}
use Rattle.fourier.specs.Schedules.{Wing, Buffer, Stage, columns, thong, step, run, in_frequency, in_time}
use Rattle.fourier.specs.Sentences.{Receive, butterfly_receive, in_butterfly}
use Rattle.fourier.specs.Leaves.{frequency_tabled, local}
use Rattle.fourier.proofs.Leaves.{leaves1, leaves4}
use Rattle.fourier.specs.Fourier.{arithmetic, fourier, decimates_frequency, sums}
use Rattle.fourier.specs.Inverse.{inverse}

-- T1's stages are schedule 1's, the last one first, and the other way round.
thong-columns : (n s : ℕ) → s < n → thong n (n - suc s) ≡ columns n s
thong-columns n s l = let e : n - suc (n - suc s) ≡ s = omega arith in rw e

columns-thong : (n s : ℕ) → s < n → columns n (n - suc s) ≡ thong n s
columns-thong n s l = let e : n - suc (n - suc s) ≡ s = omega arith in rw e

module _ {K : Type 0} (R : Ring K) where
  infixl 65 ◌⊕◌
  infixl 70 ◌⊗◌
  open R use {◌⊕◌, ◌⊗◌, neg, of, of_plus, times_assoc}

  -- ---- a step undone

  -- The step y takes back the step w, but for a factor 2, at the exponents of the table; and a factor goes through y.
  record Undoes (n : ℕ) (y w : Wing K) : Type 0 where
    first : (e : ℕ) (a b : K) → e < 2 ^ (n - 1) → y 0 e (w 0 e a b) (w 1 e a b) ≡ of 2 ⊗ a
    second : (e : ℕ) (a b : K) → e < 2 ^ (n - 1) → y 1 e (w 0 e a b) (w 1 e a b) ≡ of 2 ⊗ b
    factor : (x e : ℕ) (c a b : K) → y x e (c ⊗ a) (c ⊗ b) ≡ c ⊗ y x e a b

  module _ {n : ℕ} {y w : Wing K} (undoes : Undoes n y w) where
    columns_undone : {s : ℕ} → s < n → (d : Buffer K) (p : ℕ) → step y (columns n s) (step w (columns n s) d) p ≡ of 2 ⊗ d p
    columns_undone {s} l d p = by p (in_butterfly h p)
      where
        h : ℕ
        h = 2 ^ (n - suc s)

        q : ℕ
        q = p / h / 2 * (h + h) + p % h

        row : p % h < h
        row = mod-lt p (pow_pos (n - suc s))

        e : ℕ
        e = 2 ^ s * (p % h)

        tabled : e < 2 ^ (n - 1)
        tabled = frequency_tabled n s (p % h) 0 l row

        pair : Receive (columns n s) q (q + h) e q (q + h)
        pair = butterfly_receive (2 ^ s) h (p / h / 2) (p % h) row

        by : (z : ℕ) → (z ≡ q) ⊎ (z ≡ q + h) → step y (columns n s) (step w (columns n s) d) z ≡ of 2 ⊗ d z
        by z (inl c) = rw (c, pair.sum, pair.sum, pair.difference) (undoes.first e (d q) (d (q + h)) tabled)
        by z (inr c) = rw (c, pair.difference, pair.sum, pair.difference) (undoes.second e (d q) (d (q + h)) tabled)

    -- The stages of τ take back those of σ, the last one first: after t of them 2^t is left as a factor.
    stages_undone : (σ τ : ℕ → Stage) → ((s : ℕ) → s < n → (d : Buffer K) (p : ℕ) → step y (τ s) (step w (σ (n - suc s)) d) p ≡ of 2 ⊗ d p) →
        (d : Buffer K) (t : ℕ) → t ≤ n → (p : ℕ) → run y τ t (run w σ n d) p ≡ pow R (of 2) t ⊗ run w σ (n - t) d p
    unfolding run
    stages_undone σ τ stage d zero l p = rw (sub-zero, pow-zero) (sym (one-times R (run w σ n d p)))
    stages_undone σ τ stage d (suc t) l p =
        let more : n - t ≡ suc (n - suc t) = omega arith in
        let c = pow R (of 2) t in
        rw (
          stages_undone σ τ stage d t (omega arith) (τ t p).first,
          stages_undone σ τ stage d t (omega arith) (τ t p).second,
          more,
          undoes.factor (τ t p).part (τ t p).exponent c (step w (σ (n - suc t)) (run w σ (n - suc t) d) (τ t p).first) (step w (σ (n - suc t)) (run w σ (n - suc t) d) (τ t p).second),
          stage t l (run w σ (n - suc t) d) p,
          pow-suc,
        )
        (sym (times_assoc c (of 2) (run w σ (n - suc t) d p)))

    -- A factor goes through every stage.
    run_factor : (σ : ℕ → Stage) (c : K) (d : Buffer K) (s p : ℕ) → run y σ s (λ q. c ⊗ d q) p ≡ c ⊗ run y σ s d p
    unfolding run
    run_factor σ c d zero p = refl
    run_factor σ c d (suc s) p =
        rw (run_factor σ c d s (σ s p).first, run_factor σ c d s (σ s p).second) (undoes.factor (σ s p).part (σ s p).exponent c (run y σ s d (σ s p).first) (run y σ s d (σ s p).second))

  module _ (t u : ℕ → K) (n : ℕ) (inverses : (e : ℕ) → e < 2 ^ (n - 1) → u e ⊗ t e ≡ of 1) where
    cancel : (e : ℕ) (c : K) → e < 2 ^ (n - 1) → u e ⊗ (t e ⊗ c) ≡ c
    cancel e c l = sym (times_assoc (u e) (t e) c) ∙ rw (inverses e l) (one-times R c)

    twice : (a : K) → of 2 ⊗ a ≡ a ⊕ a
    twice a = rw (of_plus 1 1) (ring R (a ∷ []) ((:1 :+ :1) :* v 0) (v 0 :+ v 0) refl)

    time_undoes : Undoes n (in_time (arithmetic R) u) (in_frequency (arithmetic R) t)
    time_undoes = record {
      first = λ e a b l. ap (λ z. a ⊕ b ⊕ z) (cancel e (a ⊕ neg b) l) ∙ ring R (a ∷ b ∷ []) (v 0 :+ v 1 :+ (v 0 :- v 1)) (v 0 :+ v 0) refl ∙ sym (twice a);
      second = λ e a b l. ap (λ z. a ⊕ b ⊕ neg z) (cancel e (a ⊕ neg b) l) ∙ ring R (a ∷ b ∷ []) (v 0 :+ v 1 :- (v 0 :- v 1)) (v 1 :+ v 1) refl ∙ sym (twice b);
      factor = factor;
    }
      where
        factor : (x e : ℕ) (c a b : K) → in_time (arithmetic R) u x e (c ⊗ a) (c ⊗ b) ≡ c ⊗ in_time (arithmetic R) u x e a b
        factor zero e c a b = ring R (c ∷ a ∷ b ∷ u e ∷ []) (v 0 :* v 1 :+ v 3 :* (v 0 :* v 2)) (v 0 :* (v 1 :+ v 3 :* v 2)) refl
        factor (suc x) e c a b = ring R (c ∷ a ∷ b ∷ u e ∷ []) (v 0 :* v 1 :- v 3 :* (v 0 :* v 2)) (v 0 :* (v 1 :- v 3 :* v 2)) refl

    frequency_undoes : Undoes n (in_frequency (arithmetic R) t) (in_time (arithmetic R) u)
    frequency_undoes = record {
      first = λ e a b l. ring R (a ∷ b ∷ u e ∷ []) (v 0 :+ v 2 :* v 1 :+ (v 0 :- v 2 :* v 1)) (v 0 :+ v 0) refl ∙ sym (twice a);
      second = λ e a b l.
          ring R (a ∷ b ∷ u e ∷ t e ∷ []) (v 3 :* (v 0 :+ v 2 :* v 1 :- (v 0 :- v 2 :* v 1))) (v 2 :* (v 3 :* v 1) :+ v 2 :* (v 3 :* v 1)) refl
          ∙ ap (λ z. z ⊕ z) (cancel e b l) ∙ sym (twice b);
      factor = factor;
    }
      where
        factor : (x e : ℕ) (c a b : K) → in_frequency (arithmetic R) t x e (c ⊗ a) (c ⊗ b) ≡ c ⊗ in_frequency (arithmetic R) t x e a b
        factor zero e c a b = ring R (c ∷ a ∷ b ∷ []) (v 0 :* v 1 :+ v 0 :* v 2) (v 0 :* (v 1 :+ v 2)) refl
        factor (suc x) e c a b = ring R (c ∷ a ∷ b ∷ t e ∷ []) (v 3 :* (v 0 :* v 1 :- v 0 :* v 2)) (v 0 :* (v 3 :* (v 1 :- v 2))) refl

    -- ---- the whole schedule undone, both ways

    back_forth : (d : Buffer K) (p : ℕ) → run (in_time (arithmetic R) u) (thong n) n (run (in_frequency (arithmetic R) t) (columns n) n d) p ≡ pow R (of 2) n ⊗ d p
    unfolding run
    back_forth d p =
        rw sub_self at (stages_undone time_undoes (columns n) (thong n) (λ s l d p. rw (columns-thong n s l) (rw (columns-thong n s l) at (columns_undone time_undoes (before l) d p))) d n (le_refl n) p)
      where
        before : {s : ℕ} → s < n → n - suc s < n
        before l = omega arith

    forth_back : (d : Buffer K) (p : ℕ) → run (in_frequency (arithmetic R) t) (columns n) n (run (in_time (arithmetic R) u) (thong n) n d) p ≡ pow R (of 2) n ⊗ d p
    unfolding run
    forth_back d p =
        rw sub_self at (stages_undone frequency_undoes (thong n) (columns n) (λ s l d p. rw (thong-columns n s l) (columns_undone frequency_undoes l d p)) d n (le_refl n) p)

    -- ---- the inverse

    module _ (half : K) (halved : half ⊗ of 2 ≡ of 1) where
      whole : (a : K) → pow R half n ⊗ (pow R (of 2) n ⊗ a) ≡ a
      whole a = sym (times_assoc (pow R half n) (pow R (of 2) n) a) ∙ rw (← times-pow R half (of 2) n, halved, one-pow) (one-times R a)

      pub inverse-columns : (d : Buffer K) (p : ℕ) → inverse R u half n (run (in_frequency (arithmetic R) t) (columns n) n d) p ≡ d p
      inverse-columns d p = ap (λ z. pow R half n ⊗ z) (back_forth d p) ∙ whole (d p)

      pub columns-inverse : (d : Buffer K) (p : ℕ) → run (in_frequency (arithmetic R) t) (columns n) n (inverse R u half n d) p ≡ d p
      columns-inverse d p = run_factor frequency_undoes (columns n) (pow R half n) (run (in_time (arithmetic R) u) (thong n) n d) n p ∙ rw (forth_back d p) (whole (d p))

  module _ (x : K) (n : ℕ) (turn : pow R x (2 ^ (n - 1)) ≡ neg (of 1)) (u : ℕ → K) (inverses : (e : ℕ) → e < 2 ^ (n - 1) → u e ⊗ pow R x e ≡ of 1) (half : K) (halved : half ⊗ of 2 ≡ of 1) where
    -- Of the sums, in the order in which schedules 1, 2, 3 and 5 leave them, the inverse gives the samples back.
    pub inverse_sums : (A F : Buffer K) → ((p : ℕ) → p < 2 ^ n → F p ≡ fourier R x (2 ^ n) A (rev n p)) → (p : ℕ) → p < 2 ^ n → inverse R u half n F p ≡ A p
    inverse_sums A F given p h =
        ap (λ z. pow R half n ⊗ z)
        (local (leaves4 n) K (in_time (arithmetic R) u) F (run (in_frequency (arithmetic R) (pow R x)) (columns n) n A) (λ q l. given q l ∙ sym (sums R x n turn (decimates_frequency R x n turn) (leaves1 n) A q l)) p h)
        ∙ inverse-columns (pow R x) u n inverses half halved A p

    -- And the sums of what the inverse makes of any values are those values.
    pub sums_inverse : (F : Buffer K) (p : ℕ) → p < 2 ^ n → fourier R x (2 ^ n) (inverse R u half n F) (rev n p) ≡ F p
    sums_inverse F p h =
        sym (sums R x n turn (decimates_frequency R x n turn) (leaves1 n) (inverse R u half n F) p h) ∙ columns-inverse (pow R x) u n inverses half halved F p
