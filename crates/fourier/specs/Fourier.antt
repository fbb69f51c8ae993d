-- The Fourier sum over a commutative ring with x^(N/2) = -1: Dijkstra's invariant, and that every schedule leaves the sums.
use Prim.Native.Nat.{ℕ, zero, suc, ◌+◌, ◌-◌, ◌*◌, ◌/◌, ◌%◌, ◌^◌, ◌<◌, ◌≤◌}
use Rattle.std.specs.Prelude.{◌≡◌, refl, [], ◌∷◌}
use Rattle.std.proofs.Math.Path.{sym, ap}
use Rattle.std.proofs.Common.{◌∙◌, le_refl, zero-add, mul-zero, zero-mul, mul_comm, pow-suc}
use Rattle.std.proofs.Math.Nat.{sub-zero, sub_self}
use native.Mathlib.Omega.{arith}
use Rattle.algebra.specs.Ring.{Ring, one-times}
use Rattle.algebra.specs.Solver.{v, :1, ◌:+◌, ◌:-◌, ◌:*◌, :neg, ring}
use Rattle.algebra.specs.Sum.{pow, sum, pow-zero, pow-one, pow-plus, pow-times, one-pow, sum_one, sum_cong, sum-plus, sum_split}
use Rattle.fourier.specs.Reverse.{rev}
use Rattle.fourier.specs.Schedules.{Wing, Buffer, Schedule, Arithmetic, in_frequency, in_time}
use Rattle.fourier.specs.Sizes.{rows, half_buffer}
use Rattle.fourier.specs.Array.{Exponents, frequency, time, array}
use Rattle.fourier.specs.Leaves.{Leaves}

module _ {K : Type 0} (R : Ring K) where
  infixl 65 ◌⊕◌
  infixl 70 ◌⊗◌
  open R use {◌⊕◌, ◌⊗◌, neg, of, times-one}

  -- f(j) = the sum over k of A(k) x^(jk), for k below N (004, equation 0).
  unfoldable pub fourier : K → ℕ → Buffer K → ℕ → K
  fourier x N A j = sum R N (λ k. A k ⊗ pow R x (j * k))

  abbrev pub arithmetic : Arithmetic K
  arithmetic = record { plus = ◌⊕◌; minus = λ a b. a ⊕ neg b; times = ◌⊗◌ }

  -- ---- minus one, an even and an odd number of times

  minus_even : (k : ℕ) → pow R (neg (of 1)) (2 * k) ≡ of 1
  minus_even k = pow-times R (neg (of 1)) 2 k ∙ rw square (one-pow R k)
    where
      square : pow R (neg (of 1)) 2 ≡ of 1
      square = pow-plus R (neg (of 1)) 1 1 ∙ rw pow-one (ring R [] (:neg :1 :* :neg :1) :1 refl)

  minus_odd : (k : ℕ) → pow R (neg (of 1)) (2 * k + 1) ≡ neg (of 1)
  minus_odd k = rw (pow-plus, minus_even, pow-one) (one-times R (neg (of 1)))

  module _ (x : K) where
    -- ---- a step of the invariant: c columns, rows i and h + i, where x^(c h) = -1

    term : (c h k i b : ℕ) (p q : K) → pow R x (c * h) ≡ neg (of 1) → b < 2 →
        in_frequency arithmetic (pow R x) b (c * i) p q ⊗ pow R x (c * 2 * i * k) ≡ p ⊗ pow R x (c * i * (2 * k + b)) ⊕ q ⊗ pow R x (c * (h + i) * (2 * k + b))
    term c h k i zero p q turn l =
        let low : c * i * (2 * k + 0) ≡ c * 2 * i * k = omega arith in
        let high : c * (h + i) * (2 * k + 0) ≡ c * h * (2 * k) + c * 2 * i * k = omega arith in
        rw (low, high, pow-plus R x (c * h * (2 * k)) (c * 2 * i * k), pow-times R x (c * h) (2 * k), turn, minus_even)
        (ring R (p ∷ q ∷ pow R x (c * 2 * i * k) ∷ []) ((v 0 :+ v 1) :* v 2) (v 0 :* v 2 :+ v 1 :* (:1 :* v 2)) refl)
    term c h k i (suc zero) p q turn l =
        let low : c * i * (2 * k + 1) ≡ c * i + c * 2 * i * k = omega arith in
        let high : c * (h + i) * (2 * k + 1) ≡ c * h * (2 * k + 1) + (c * i + c * 2 * i * k) = omega arith in
        rw (low, high, pow-plus R x (c * h * (2 * k + 1)) (c * i + c * 2 * i * k), pow-plus R x (c * i) (c * 2 * i * k), pow-times R x (c * h) (2 * k + 1), turn, minus_odd)
        (ring R (p ∷ q ∷ pow R x (c * i) ∷ pow R x (c * 2 * i * k) ∷ []) (v 2 :* (v 0 :- v 1) :* v 3) (v 0 :* (v 2 :* v 3) :+ v 1 :* (:neg :1 :* (v 2 :* v 3))) refl)
    term c h k i (suc (suc b)) p q turn l = absurd (omega arith)

    -- ---- the two decimations: x^(i rev(j)) leads from one array to the other

    conjugate : (c h i r b : ℕ) (p q : K) → b < 2 →
        in_frequency arithmetic (pow R x) b (c * i) (pow R x (i * r) ⊗ p) (pow R x ((i + h) * r) ⊗ q) ≡ pow R x (i * (b * c + r)) ⊗ in_time arithmetic (pow R x) b (h * r) p q
    conjugate c h i r zero p q l =
        let high : (i + h) * r ≡ i * r + h * r = omega arith in
        let low : i * (0 * c + r) ≡ i * r = omega arith in
        rw (high, low, pow-plus R x (i * r) (h * r))
        (ring R (pow R x (i * r) ∷ pow R x (h * r) ∷ p ∷ q ∷ []) (v 0 :* v 2 :+ v 0 :* v 1 :* v 3) (v 0 :* (v 2 :+ v 1 :* v 3)) refl)
    conjugate c h i r (suc zero) p q l =
        let high : (i + h) * r ≡ i * r + h * r = omega arith in
        let low : i * (1 * c + r) ≡ c * i + i * r = omega arith in
        rw (high, low, pow-plus R x (i * r) (h * r), pow-plus R x (c * i) (i * r))
        (ring R (pow R x (i * r) ∷ pow R x (h * r) ∷ p ∷ q ∷ pow R x (c * i) ∷ []) (v 4 :* (v 0 :* v 2 :- v 0 :* v 1 :* v 3)) (v 4 :* v 0 :* (v 2 :- v 1 :* v 3)) refl)
    conjugate c h i r (suc (suc b)) p q l = absurd (omega arith)

    pub frequency-time : (n : ℕ) (A : Buffer K) (s i j : ℕ) →
        array (in_frequency arithmetic (pow R x)) frequency n A s i j ≡ pow R x (i * rev s j) ⊗ array (in_time arithmetic (pow R x)) (time n) n A s i j
    unfolding array rev
    frequency-time n A zero i j = rw (mul-zero, pow-zero) (sym (one-times R (A i)))
    frequency-time n A (suc s) i j =
        rw (frequency-time n A s i (j / 2), frequency-time n A s (i + 2 ^ (n - suc s)) (j / 2))
        (conjugate (2 ^ s) (2 ^ (n - suc s)) i (rev s (j / 2)) (j % 2) _ _ (omega arith))

    module _ (n : ℕ) (turn : pow R x (2 ^ (n - 1)) ≡ neg (of 1)) where
      -- Dijkstra's invariant (004, equation 1), with 2^(n-s) rows and 2^s columns.
      pub invariant : (A : Buffer K) (s : ℕ) → s ≤ n → (k j : ℕ) →
          sum R (2 ^ (n - s)) (λ i. array (in_frequency arithmetic (pow R x)) frequency n A s i j ⊗ pow R x (2 ^ s * i * k)) ≡ fourier x (2 ^ n) A (2 ^ s * k + rev s j)
      unfolding array rev fourier
      invariant A zero l k j = rw sub-zero (sum_cong R (2 ^ n) (λ i _. let z : 1 * i * k ≡ (1 * k + 0) * i = omega arith in rw z))
      invariant A (suc s) l k j =
          sum_cong R h (λ i _. rw (pow-suc, mate i) (term c h k i (j % 2) (B i) (B (h + i)) half_turn (omega arith)))
          ∙ sum-plus R h g (λ i. g (h + i)) ∙ sym (sum_split R h h g)
          ∙ (rw (rows l) at (invariant A s (omega arith) (2 * k + j % 2) (j / 2)))
          ∙ ap (fourier x (2 ^ n) A) place
        where
          c : ℕ
          c = 2 ^ s

          h : ℕ
          h = 2 ^ (n - suc s)

          B : ℕ → K
          B i = array (in_frequency arithmetic (pow R x)) frequency n A s i (j / 2)

          g : ℕ → K
          g i = B i ⊗ pow R x (c * i * (2 * k + j % 2))

          mate : (i : ℕ) → i + h ≡ h + i
          mate i = omega arith

          half_turn : pow R x (c * h) ≡ neg (of 1)
          half_turn = rw (mul_comm, half_buffer l) turn

          place : c * (2 * k + j % 2) + rev s (j / 2) ≡ 2 ^ suc s * k + (j % 2 * c + rev s (j / 2))
          place = rw pow-suc (omega arith)

      -- The last row of the array is the sums in reversed order.
      pub record Decimates (e : Exponents) (w : Wing K) : Type 0 where
        pub last : (A : Buffer K) (p : ℕ) → array w e n A n 0 p ≡ fourier x (2 ^ n) A (rev n p)

      pub decimates_frequency : Decimates frequency (in_frequency arithmetic (pow R x))
      decimates_frequency = record {
        last = λ A p.
            let row = sum_one R (λ i. array (in_frequency arithmetic (pow R x)) frequency n A n i p ⊗ pow R x (2 ^ n * i * 0)) in
            let one : array (in_frequency arithmetic (pow R x)) frequency n A n 0 p ⊗ pow R x (2 ^ n * 0 * 0) ≡ array (in_frequency arithmetic (pow R x)) frequency n A n 0 p = rw (mul-zero, pow-zero) (times-one _) in
            sym one ∙ sym row ∙ (rw (sub_self, mul-zero, zero-add) at (invariant A n (le_refl n) 0 p));
      }

      pub decimates_time : Decimates (time n) (in_time arithmetic (pow R x))
      decimates_time = record {
        last = λ A p.
            let same = frequency-time n A n 0 p in
            sym (rw (zero-mul, pow-zero, one-times) at same) ∙ decimates_frequency.last A p;
      }

      -- Every schedule leaves the sum `index p` at place p.
      pub sums : {e : Exponents} {w : Wing K} {order index : ℕ → ℕ} {f : Schedule} → Decimates e w → Leaves e n order index f →
          (d : Buffer K) (p : ℕ) → p < 2 ^ n → f K w d p ≡ fourier x (2 ^ n) (λ i. d (order i)) (index p)
      sums {w = w} {order = order} decimates leaves d p h =
          rw (leaves.again p h, leaves.stands p h) at (leaves.last K w d (order p) (leaves.within p h) ∙ decimates.last (λ i. d (order i)) (order p))
