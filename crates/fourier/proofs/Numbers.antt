-- The schedules on numbers below m with a table, and the sums and the inverse in plain numbers.
use Rattle.std.specs.Prelude.{ℕ, ◌+◌, ◌-◌, ◌*◌, ◌/◌, ◌%◌, ◌^◌, ◌<◌, ◌≡◌, refl}
use Rattle.std.proofs.Math.Path.{sym, ap}
use Rattle.std.proofs.Common.{◌∙◌, le_of_lt, mod-lt, sub-add_cancel, arith}
use mathlib.Core.List.{[]}
use Rattle.algebra.specs.Solver.{:1, ◌:*◌, :neg, ring}
use Rattle.algebra.specs.Sum.{pow, total, pow-plus, pow_mod, of_pow, of_total, sum_cong}
use Rattle.algebra.specs.Modulo.{Mod, modulo, of_mod, of_minus, of_modulus, of_injective}
use Rattle.fourier.specs.Reverse.{rev}
use Rattle.fourier.specs.Schedules.{Wing, Buffer, Schedule, schedule1, schedule2, schedule3, schedule4, schedule5}
use Rattle.fourier.specs.Array.{Exponents, frequency, time}
use Rattle.fourier.specs.Leaves.{Leaves, Keeps, Carries, frequency_keeps, time_keeps, related}
use Rattle.fourier.proofs.Leaves.{leaves1, leaves2, leaves3, leaves4, leaves5}
use Rattle.fourier.specs.Fourier.{arithmetic, fourier, Decimates, decimates_frequency, decimates_time, sums}
use Rattle.fourier.specs.Inverse.{inverse}
use Rattle.fourier.proofs.Inverse.{inverse_sums, sums_inverse}
use Rattle.fourier.specs.Table.{root, Accepted, lookup, back, lookup-below}
use Rattle.fourier.proofs.Table.{entry-below, root-pow, lookup-pow}
use Rattle.fourier.specs.Numbers.{arithmetic_mod, fourier_mod, frequency_mod, inverse_mod, time_mod}

module _ (m : ℕ) (pos : 0 < m) where
  infixl 65 ◌⊕◌
  infixl 70 ◌⊗◌
  open modulo m pos use {◌⊕◌, ◌⊗◌, neg, of, of_plus, of_times, plus-zero}

  -- The number v is below m, and u is its residue.
  pub record Stands (v : ℕ) (u : Mod m) : Type 0 where
    pub same : of v ≡ u
    pub below : v < m

  stands_self : {a : ℕ} → a < m → Stands a (of a)
  stands_self l = record { same = refl; below = l }

  stands_mod : (v : ℕ) {u : Mod m} → of v ≡ u → Stands (v % m) u
  stands_mod v h = record { same = of_mod m pos v ∙ h; below = mod-lt v pos }

  -- One residue, one number below m.
  stands_same : {a b : ℕ} {u : Mod m} → Stands a u → Stands b u → a ≡ b
  stands_same h l = of_injective m pos h.below l.below (h.same ∙ sym l.same)

  carries : Carries Stands (arithmetic_mod m) (arithmetic (modulo m pos))
  carries = record {
    plus = λ {a} {c} h l. stands_mod (a + c) (rw (of_plus, h.same, l.same));
    minus = λ {a} {c} h l. stands_mod (a + (m - c)) (rw (of_plus, of_minus m pos c (le_of_lt l.below), h.same, l.same));
    times = λ {a} {c} h l. stands_mod (a * c) (rw (of_times, h.same, l.same));
  }

  fourier_stands : (x N : ℕ) (A : ℕ → ℕ) (j : ℕ) → Stands (fourier_mod m x N A j) (fourier (modulo m pos) (of x) N (λ k. of (A k)) j)
  unfolding fourier_mod fourier
  fourier_stands x N A j =
      stands_mod (total N (λ k. A k * x ^ (j * k)))
      (of_total (modulo m pos) N (λ k. A k * x ^ (j * k)) ∙ sum_cong (modulo m pos) N (λ k l. of_times (A k) (x ^ (j * k)) ∙ ap (λ z. of (A k) ⊗ z) (of_pow (modulo m pos) x (j * k))))

  -- ---- with an accepted table, for N = 2^n

  module _ (n : ℕ) (t : ℕ → ℕ) (accepted : Accepted m (2 ^ (n - 1)) t) where
    abbrev pub the_root : ℕ
    the_root = root m (2 ^ (n - 1)) t

    abbrev pub turn : pow (modulo m pos) (of the_root) (2 ^ (n - 1)) ≡ neg (of 1)
    turn = root-pow m (2 ^ (n - 1)) pos t accepted

    powers : ℕ → Mod m
    powers = pow (modulo m pos) (of the_root)

    looked_up : (e : ℕ) → Stands (lookup m (2 ^ (n - 1)) t e) (of (lookup m (2 ^ (n - 1)) t e))
    looked_up e = stands_self (lookup-below m (2 ^ (n - 1)) t pos (entry-below m (2 ^ (n - 1)) pos t accepted) e)

    table : (e : ℕ) → e < 2 ^ (n - 1) → Stands (lookup m (2 ^ (n - 1)) t e) (powers e)
    unfolding powers
    table e l = record { same = lookup-pow m (2 ^ (n - 1)) pos t accepted e (omega arith); below = (looked_up e).below }

    -- A step on numbers that does what a step of a decimation does on residues.
    pub record Computes (e : Exponents) (w : Wing ℕ) : Type 0 where
      pub wing : Wing (Mod m)
      pub keeps : Keeps n (λ s. Stands) w wing
      pub decimates : Decimates (modulo m pos) (of the_root) n turn e wing

    pub frequency_computes : Computes frequency (frequency_mod m (2 ^ (n - 1)) t)
    unfolding powers
    frequency_computes = record { wing = _; keeps = frequency_keeps carries n _ powers table; decimates = decimates_frequency (modulo m pos) (of the_root) n turn }

    pub time_computes : Computes (time n) (time_mod m (2 ^ (n - 1)) t)
    unfolding powers
    time_computes = record { wing = _; keeps = time_keeps carries n _ powers table; decimates = decimates_time (modulo m pos) (of the_root) n turn }

    module _ (A : Buffer ℕ) (small : (p : ℕ) → p < 2 ^ n → A p < m) (p : ℕ) (h : p < 2 ^ n) where
      pub sums_mod : {e : Exponents} {w : Wing ℕ} {order index : ℕ → ℕ} {f : Schedule} → Computes e w → Leaves e n order index f →
          f ℕ w A p ≡ fourier_mod m the_root (2 ^ n) (λ i. A (order i)) (index p)
      sums_mod {order = order} {index = index} computes leaves =
          stands_same
          (related n (λ s. Stands) computes.keeps leaves A (λ q. of (A q)) (λ q l. stands_self (small q l)) p h)
          (rw (sums (modulo m pos) (of the_root) n turn computes.decimates leaves (λ q. of (A q)) p h)
          (fourier_stands the_root (2 ^ n) (λ i. A (order i)) (index p)))

      -- What each schedule leaves at place p.
      pub schedule1_sums : schedule1 n ℕ (frequency_mod m (2 ^ (n - 1)) t) A p ≡ fourier_mod m the_root (2 ^ n) A (rev n p)
      schedule1_sums = sums_mod frequency_computes (leaves1 n)

      pub schedule2_sums : schedule2 n ℕ (frequency_mod m (2 ^ (n - 1)) t) A p ≡ fourier_mod m the_root (2 ^ n) A (rev n p)
      schedule2_sums = sums_mod frequency_computes (leaves2 n)

      pub schedule3_sums : schedule3 n ℕ (frequency_mod m (2 ^ (n - 1)) t) A p ≡ fourier_mod m the_root (2 ^ n) A (rev n p)
      schedule3_sums = sums_mod frequency_computes (leaves3 n)

      pub schedule4_sums : schedule4 n ℕ (time_mod m (2 ^ (n - 1)) t) A p ≡ fourier_mod m the_root (2 ^ n) (λ i. A (rev n i)) p
      schedule4_sums = sums_mod time_computes (leaves4 n)

      pub schedule5_sums : schedule5 n ℕ (time_mod m (2 ^ (n - 1)) t) A p ≡ fourier_mod m the_root (2 ^ n) A (rev n p)
      schedule5_sums = sums_mod time_computes (leaves5 n)

    -- ---- the inverse

    -- What is looked up for x^(-e) is x^(-e).
    back-pow : (e : ℕ) → e < 2 ^ (n - 1) → of (back m (2 ^ (n - 1)) t e) ⊗ powers e ≡ of 1
    unfolding back powers
    back-pow e l =
        let h = 2 ^ (n - 1) in
        let round : powers (h + h) ≡ of 1 = rw (pow-plus, turn) (ring (modulo m pos) [] (:neg :1 :* :neg :1) :1 refl) in
        ap (λ z. z ⊗ powers e)
        (lookup-pow m h pos t accepted _ (mod-lt (h + h - e) (omega arith)) ∙ pow_mod (modulo m pos) (of the_root) (h + h) round (h + h - e))
        ∙ sym (pow-plus (modulo m pos) (of the_root) (h + h - e) e) ∙ rw (sub-add_cancel {n = h + h} {m = e} (omega arith)) round

    module _ (odd : m % 2 ≡ 1) where
      halved : of ((m + 1) / 2) ⊗ of 2 ≡ of 1
      halved =
          let e : (m + 1) / 2 * 2 ≡ 1 + m = omega arith in
          sym (of_times ((m + 1) / 2) 2) ∙ rw (e, of_plus, of_modulus) (plus-zero (of 1))

      inverse_stands : (d : Buffer ℕ) → ((p : ℕ) → p < 2 ^ n → d p < m) → (p : ℕ) → p < 2 ^ n →
          Stands (inverse_mod m n t d p) (inverse (modulo m pos) (λ e. of (back m (2 ^ (n - 1)) t e)) (of ((m + 1) / 2)) n (λ q. of (d q)) p)
      unfolding inverse_mod back
      inverse_stands d small p h =
          carries.times (stands_mod (((m + 1) / 2) ^ n) (of_pow (modulo m pos) ((m + 1) / 2) n))
          (related n (λ s. Stands) (time_keeps carries n _ _ (λ e l. looked_up _)) (leaves4 n) d (λ q. of (d q)) (λ q l. stands_self (small q l)) p h)

      -- Of the sums that schedules 1, 2, 3 and 5 leave, the inverse gives the samples back.
      pub inverse_sums_mod : (A F : Buffer ℕ) → ((p : ℕ) → p < 2 ^ n → A p < m) → ((p : ℕ) → p < 2 ^ n → F p ≡ fourier_mod m the_root (2 ^ n) A (rev n p)) →
          (p : ℕ) → p < 2 ^ n → inverse_mod m n t F p ≡ A p
      unfolding powers
      inverse_sums_mod A F small given p h =
          let sum : (q : ℕ) → Stands (fourier_mod m the_root (2 ^ n) A (rev n q)) (fourier (modulo m pos) (of the_root) (2 ^ n) (λ k. of (A k)) (rev n q)) =
          (λ q. fourier_stands the_root (2 ^ n) A (rev n q)) in
          stands_same
          (rw (inverse_sums (modulo m pos) (of the_root) n turn (λ e. of (back m (2 ^ (n - 1)) t e)) back-pow (of ((m + 1) / 2)) halved (λ q. of (A q)) (λ q. of (F q)) (λ q l. rw (given q l) (sum q).same) p h)
          at (inverse_stands F (λ q l. rw (given q l) (sum q).below) p h))
          (stands_self (small p h))

      -- And the sums of what the inverse makes of any residues are those residues.
      pub sums_inverse_mod : (F : Buffer ℕ) → ((p : ℕ) → p < 2 ^ n → F p < m) → (p : ℕ) → p < 2 ^ n → fourier_mod m the_root (2 ^ n) (inverse_mod m n t F) (rev n p) ≡ F p
      unfolding powers fourier
      sums_inverse_mod F small p h =
          stands_same
          (rw (
            sum_cong (modulo m pos) (2 ^ n) (λ k l. ap (λ z. z ⊗ powers (rev n p * k)) (inverse_stands F small k l).same),
            sums_inverse (modulo m pos) (of the_root) n turn (λ e. of (back m (2 ^ (n - 1)) t e)) back-pow (of ((m + 1) / 2)) halved (λ q. of (F q)) p h,
          )
          at (fourier_stands the_root (2 ^ n) (inverse_mod m n t F) (rev n p)))
          (stands_self (small p h))
