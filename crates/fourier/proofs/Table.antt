-- The rules of a table modulo m, place by place, and that an accepted table is the powers of a root with x^(N/2) = -1.
use Prim.Native.Nat.{ℕ, zero, suc, ◌+◌, ◌-◌, ◌*◌, ◌%◌, ◌^◌, ◌<◌, ◌≤◌}
use Rattle.std.specs.Prelude.{◌≡◌, true, ltb, eqb}
use Rattle.std.proofs.Math.Path.{sym}
use Rattle.std.proofs.Common.{ap, ◌∙◌, le_refl, le_of_lt, mod-lt, ltb-true, eqb-true, lt-ltb, le-ltb}
use Rattle.std.proofs.Math.Bool.{and-eq-true_iff}
use Rattle.std.proofs.Math.Nat.{le_step}
use native.Mathlib.Omega.{arith}
use Rattle.std.proofs.Math.Decide.{dec_lt}
use Rattle.algebra.specs.Ring.{neg-times, one-times}
use Rattle.algebra.specs.Sum.{pow, pow-zero, pow-suc, pow-plus, of_pow}
use Rattle.algebra.specs.Modulo.{modulo, of_mod, of_minus, of_injective}
use Rattle.fourier.specs.Table.{Accepted, lookup, root, rule, wanted}

rule-entry : (m h : ℕ) (t : ℕ → ℕ) (i : ℕ) → i < h → rule m h t i ≡ true → (t i < m) × (t i ≡ wanted m h t i)
unfolding rule
rule-entry m h t i l r =
    let both = (and-eq-true_iff (ltb (t i) m) (eqb (t i) (wanted m h t i))).0 (rw (lt-ltb i h l) at r) in
    (ltb-true (t i) m both.0, eqb-true (t i) (wanted m h t i) both.1)

rule_closing : (m h : ℕ) (t : ℕ → ℕ) → rule m h t h ≡ true → wanted m h t h ≡ m - 1
unfolding rule
rule_closing m h t r = eqb-true (wanted m h t h) (m - 1) (rw (le-ltb h h (le_refl h)) at r)

module _ (m h : ℕ) (pos : 0 < m) (t : ℕ → ℕ) (accepted : Accepted m h t) where
  open modulo m pos use {neg, of, of_times}

  entry : (i : ℕ) → i < h → (t i < m) × (t i ≡ wanted m h t i)
  entry i l = rule-entry m h t i l (accepted.each i (le_step l))

  -- What is wanted at place i is x^i.
  wanted-pow : (i : ℕ) → i ≤ h → of (wanted m h t i) ≡ pow (modulo m pos) (of (root m h t)) i
  unfolding wanted
  wanted-pow zero l = sym (pow-zero (modulo m pos) (of (root m h t)))
  wanted-pow (suc i) l = of_mod m pos (t i * root m h t) ∙ rw (of_times, pow-suc, (entry i l).1, wanted-pow i (le_of_lt l))

  pub entry-below : (i : ℕ) → i < h → t i < m
  entry-below i l = (entry i l).0

  -- Entry i is x^i.
  pub entry-pow : (i : ℕ) → i < h → of (t i) ≡ pow (modulo m pos) (of (root m h t)) i
  entry-pow i l = rw (entry i l).1 (wanted-pow i (le_of_lt l))

  -- "So x^(N/2) is -1."
  pub root-pow : pow (modulo m pos) (of (root m h t)) h ≡ neg (of 1)
  root-pow = sym (wanted-pow h (le_refl h)) ∙ rw (rule_closing m h t (accepted.each h (le_refl (suc h)))) (of_minus m pos 1 pos)

  -- The lookup at any exponent below N.
  pub lookup-pow : (e : ℕ) → e < h + h → of (lookup m h t e) ≡ pow (modulo m pos) (of (root m h t)) e
  unfolding lookup
  lookup-pow e l = by (dec_lt e h)
    where
      by : Dec (e < h) → of (lookup m h t e) ≡ pow (modulo m pos) (of (root m h t)) e
      by (yes low) = rw (lt-ltb e h low) (entry-pow e low)
      by (no high) =
          let k : e - h < h = omega arith in
          let whole : e ≡ h + (e - h) = omega arith in
          rw (le-ltb e h (omega arith))
          (of_mod m pos _ ∙ of_minus m pos (t (e - h)) (le_of_lt (entry-below (e - h) k)) ∙ sym (ap neg (one-times (modulo m pos) (of (t (e - h)))))
          ∙ sym (neg-times (modulo m pos) (of 1) (of (t (e - h)))) ∙ rw (entry-pow (e - h) k, ← root-pow, ← pow-plus (modulo m pos) (of (root m h t)) h (e - h), ← whole))

-- In numbers.
pub root_power : (m h : ℕ) → 0 < m → (t : ℕ → ℕ) → Accepted m h t → root m h t ^ h % m ≡ m - 1
root_power m h pos t accepted =
    of_injective m pos (mod-lt (root m h t ^ h) pos) (omega arith)
    (of_mod m pos (root m h t ^ h) ∙ of_pow (modulo m pos) (root m h t) h ∙ root-pow m h pos t accepted ∙ sym (of_minus m pos 1 pos))
