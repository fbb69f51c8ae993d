-- A table's beginning taken for the shorter table, one of document 01's slips: when it can be accepted.
use Prim.Native.Nat.{ℕ, zero, suc, ◌+◌, ◌-◌, ◌*◌, ◌%◌, ◌^◌, ◌<◌, ◌≤◌}
use Rattle.std.specs.Prelude.{◌≡◌, refl, List, [], take}
use Rattle.std.proofs.Common.{sym, ap, ◌∙◌, mod-eq_of_lt, one-mul, arith, pow-add, pow_mono, get_or-take}
use Rattle.std.proofs.Math.Bool.{true}
use Rattle.std.proofs.Math.Nat.{two-pow-succ}
use borrow.Author.Tests.{lt-ltb, eq-eqb, ne_eqb}
use Rattle.algebra.specs.Solver.{:1, ◌:*◌, :neg, ring}
use Rattle.algebra.specs.Sum.{pow, pow-zero, pow-plus, pow-times, one-pow}
use Rattle.algebra.specs.Modulo.{modulo, of_minus, of_injective}
use Rattle.answer.specs.Lists.{at}
use Rattle.fourier.specs.Table.{root, wanted, rule, Accepted}
use Rattle.fourier.proofs.Table.{entry-below, entry-pow, root-pow}

-- With two or more entries the root is the second entry.
root_second : (m h : ℕ) (t : ℕ → ℕ) → (h ≡ 1 → ⊥) → root m h t ≡ t 1
unfolding root
root_second m h t ne = rw (ne_eqb h 1 ne)

module _ (m : ℕ) (least : 3 ≤ m) where
  pos : 0 < m
  pos = omega arith

  open modulo m pos use {neg, of}

  -- Two tables with one second entry, of k entries and of an even multiple of k, are not both accepted: x^k = -1 makes x^2k = 1.
  pub not_both : (s t : ℕ → ℕ) → s 1 ≡ t 1 → (k q : ℕ) → 2 ≤ k → Accepted m k s → Accepted m ((k + k) * q) t → ⊥
  not_both s t same k q two short long =
      let turn : pow (modulo m pos) (of (t 1)) k ≡ neg (of 1) = rw (root_second m k s (λ e. omega arith), same) at (root-pow m k pos s short) in
      let closing : pow (modulo m pos) (of (t 1)) ((k + k) * q) ≡ neg (of 1) = rw (root_second m ((k + k) * q) t (λ e. omega arith)) at (root-pow m ((k + k) * q) pos t long) in
      let round : pow (modulo m pos) (of (t 1)) ((k + k) * q) ≡ of 1 =
      rw (pow-times, pow-plus, turn, ring (modulo m pos) [] (:neg :1 :* :neg :1) :1 refl) (one-pow (modulo m pos) q) in
      let e : 1 ≡ m - 1 = of_injective m pos (omega arith) (omega arith) (sym round ∙ closing ∙ sym (of_minus m pos 1 pos)) in
      omega arith

  -- "With two or more entries in the shorter one this can't be accepted under the same m": a table of 2^a entries, and its first 2^b.
  pub beginning_refused : (l : List ℕ) (a b : ℕ) → 1 ≤ b → b < a → Accepted m (2 ^ a) (at l) → Accepted m (2 ^ b) (at (take (2 ^ b) l)) → ⊥
  beginning_refused l a b some less long short =
      let two : 2 ^ 1 ≤ 2 ^ b = pow_mono some in
      let e : a ≡ suc b + (a - suc b) = omega arith in
      let whole : 2 ^ a ≡ (2 ^ b + 2 ^ b) * 2 ^ (a - suc b) = ap (λ (z : ℕ). 2 ^ z) e ∙ rw (pow-add, two-pow-succ) in
      not_both (at (take (2 ^ b) l)) (at l) (get_or-take (2 ^ b) l 1 0 (omega arith)) (2 ^ b) (2 ^ (a - suc b)) (omega arith) short (rw whole at long)

  -- "A lone 1 can, since N = 2 has its own root."
  pub lone_accepted : (t : ℕ → ℕ) → t 0 ≡ 1 → Accepted m 1 t
  unfolding rule wanted root
  lone_accepted t e = record { each = by }
    where
      by : (i : ℕ) → i < 2 → rule m 1 t i ≡ true
      by zero l = rw (e, lt-ltb 1 m (omega arith))
      by (suc zero) l = rw (e, one-mul) (eq-eqb ((m - 1) % m) (m - 1) (mod-eq_of_lt (omega arith)))
      by (suc (suc i)) l = absurd (omega arith)

  -- So the first entry of any accepted table, alone, is accepted for N = 2.
  pub first_entry : (h : ℕ) (t : ℕ → ℕ) → 1 ≤ h → Accepted m h t → t 0 ≡ 1
  first_entry h t some r = of_injective m pos (entry-below m h pos t r 0 some) (omega arith) (entry-pow m h pos t r 0 some ∙ pow-zero (modulo m pos) (of (root m h t)))

  pub first_accepted : (h : ℕ) (l : List ℕ) → 1 ≤ h → Accepted m h (at l) → Accepted m 1 (at (take 1 l))
  first_accepted h l some r = lone_accepted (at (take 1 l)) (get_or-take 1 l 0 0 (omega arith) ∙ first_entry h (at l) some r)
