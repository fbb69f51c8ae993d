-- The 36 constants of the house rows follow their one rule, and what it says of the roots.
use Rattle.std.specs.Prelude.{None}
use Rattle.std.specs.Prelude.{ℕ, zero, suc, ◌+◌, ◌-◌, ◌*◌, ◌/◌, ◌%◌, ◌^◌, ◌<◌, ◌≤◌, ◌≡◌, refl, true}
use Rattle.std.proofs.Common.{sym, ap, ◌∙◌, arith, pow-add, pow_pos}
use Rattle.std.proofs.Math.Bool.{and-eq-true_iff}
use Rattle.std.proofs.Math.Nat as N
use borrow.Author.Tests.{eqb-true}
use Rattle.answer.specs.Search.{first}
use Rattle.answer.proofs.Search.{nowhere_passed}
use Rattle.algebra.specs.Gaps.{mod_mul_left, mod_mul_right}
use Rattle.fourier.specs.Sizes.{rows}
use Rattle.residues.specs.Moduli.{permits, Permitted, permits_permitted}
use Rattle.house_rows.specs.Powers.{power_one, power_squared}
use Rattle.house_rows.specs.Rows.{constant, constants, modulus_of, root_of, rule, start}

-- All 36 follow the rule.
rules : first (λ p. rule (p / 12) (p % 12)) 0 36 ≡ None
unfolding rule constant constants modulus_of first
rules = refl

-- All three rows start so.
starts : first (λ row. start (modulus_of row) (constant row 11)) 0 3 ≡ None
unfolding start constant constants modulus_of root_of permits first
starts = refl

record Start (m last : ℕ) : Type 0 where
  permitted : Permitted m
  divides : m - 1 ≡ 4096 * ((m - 1) / 4096)
  power : last ≡ root_of m 12

start_facts : (m last : ℕ) → start m last ≡ true → Start m last
unfolding start
start_facts m last e =
    let low = (and-eq-true_iff _ _).0 e in
    let high = (and-eq-true_iff _ _).0 low.1 in
    record { permitted = permits_permitted m low.0; divides = eqb-true _ _ high.0; power = eqb-true _ _ high.1 }

-- ---- what the rule says

-- The exponents (m-1)/2^n, where 4096 divides m - 1, and the squares of their powers.
exponent : (q n : ℕ) → n ≤ 12 → 4096 * q / 2 ^ n ≡ 2 ^ (12 - n) * q
exponent q n l =
    let twelve : 12 ≡ 12 - n + n = omega arith in
    let whole : 2 ^ 12 ≡ 2 ^ (12 - n) * 2 ^ n = ap (λ (z : ℕ). 2 ^ z) twelve ∙ pow-add 2 (12 - n) n in
    let e : 4096 * q ≡ 2 ^ (12 - n) * q * 2 ^ n = rw whole (omega arith) in
    rw e (N.mul-div_cancel (2 ^ (12 - n) * q) (pow_pos n))

squares : (m q n : ℕ) → m - 1 ≡ 4096 * q → n < 12 → root_of m (suc n) * root_of m (suc n) % m ≡ root_of m n
unfolding root_of
squares m q n e l =
    rw (e, exponent q (suc n) l, exponent q n (N.le_of_lt l), mod_mul_left, mod_mul_right, rows l, N.add-mul, pow-add)

module _ (row : ℕ) (h : row < 3) where
  abbrev m : ℕ
  m = modulus_of row

  follows : (k : ℕ) → k < 12 → rule row k ≡ true
  follows k l =
      let p = row * 12 + k in
      let a : p / 12 ≡ row = omega arith in
      let b : p % 12 ≡ k = omega arith in
      rw (a, b) at ((nowhere_passed (λ p. rule (p / 12) (p % 12)) 36 rules).each p (omega arith))

  here : Start m (constant row 11)
  here = start_facts m (constant row 11) ((nowhere_passed (λ r. start (modulus_of r) (constant r 11)) 3 starts).each row h)

  pub row_permitted : Permitted m
  row_permitted = here.permitted

  pub root_below : (n : ℕ) → root_of m n < m
  unfolding root_of
  root_below n = N.mod-lt _ (omega (arith, row_permitted.least))

  -- "The root for 2 is m - 1."
  pub first-constant : constant row 0 ≡ m - 1
  unfolding rule
  first-constant = eqb-true _ _ (follows 0 (omega arith))

  -- "Each root squared is the one for half its length": of the constants, and of 3^((m-1)/2^n).
  pub constant_squared : (k : ℕ) → k < 11 → constant row (suc k) * constant row (suc k) % m ≡ constant row k
  unfolding rule
  constant_squared k l = eqb-true _ _ (follows (suc k) (omega arith))

  pub root_squared : (n : ℕ) → n < 12 → root_of m (suc n) * root_of m (suc n) % m ≡ root_of m n
  root_squared n l = squares m ((m - 1) / 4096) n here.divides l

  -- The constants are 3^((m-1)/2^n): from the last one down.
  down : (j k : ℕ) → j + k ≡ 11 → constant row k ≡ root_of m (suc k)
  down zero k e = let last : k ≡ 11 = omega arith in rw last here.power
  down (suc j) k e = sym (constant_squared k (omega arith)) ∙ rw (down j (suc k) (omega arith)) (root_squared (suc k) (omega arith))

  pub constant-root : (k : ℕ) → k < 12 → constant row k ≡ root_of m (suc k)
  constant-root k l = down (11 - k) k (omega arith)

  -- The root for 2^(n+j), squared j times, is the one for 2^n.
  falls : (j n k : ℕ) → k ≡ j + n → k ≤ 12 → root_of m k ^ 2 ^ j % m ≡ root_of m n
  falls zero n k e l = let same : k ≡ n = omega arith in rw same (power_one (root_below n))
  falls (suc j) n k e l = sym (power_squared m (root_of m k) j) ∙ rw (falls j (suc n) k (omega arith) l) (root_squared n (omega arith))

  -- So the root for N to the N/2 is m - 1.
  pub root-turns : (n : ℕ) → 1 ≤ n → n ≤ 12 → root_of m n ^ 2 ^ (n - 1) % m ≡ m - 1
  root-turns n a b = falls (n - 1) 1 n (omega arith) b ∙ sym (constant-root 0 (omega arith)) ∙ first-constant
