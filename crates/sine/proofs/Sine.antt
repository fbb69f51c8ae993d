-- That all twelve tables that the constant makes are accepted.
use Prim.Native.Nat.{ℕ, zero, suc, ◌+◌, ◌-◌, ◌*◌, ◌/◌, ◌^◌, ◌<◌, ◌≤◌}
use Rattle.std.specs.Prelude.{◌≡◌, refl, Bool, true, ◌&&◌, List, [], ◌∷◌, ◌++◌, ℤ, pos, length, drop, None}
use Rattle.std.proofs.Math.Path.{sym, ap}
use Rattle.std.proofs.Common.{◌∙◌, eq-or-lt_of_le, mul-zero, mul-one, add-suc, arith, get_or-drop}
use Rattle.std.proofs.Math.Bool.{and-eq-true_iff}
use Rattle.std.proofs.Math.Logic.{⊎_elim}
use Rattle.std.proofs.Math.Nat.{mul-le-mul_left}
use Rattle.std.proofs.Math.ListN.{get_or-append}
use Rattle.std.proofs.Math.Pow.{pow_pos}
use Rattle.answer.specs.Search.{first}
use Rattle.answer.proofs.Search.{nowhere_passed}
use Rattle.fourier.specs.Sizes.{rows}
use Rattle.points.specs.Interleaved.{number, point}
use Rattle.points.specs.declared.Point.{Point}
use Rattle.sine.specs.Constant.{sine}
use Rattle.rules.specs.Pairs.{starts, sized, follows}
use Rattle.tables.specs.Rules.{half_turn, entry, linked, rule, Accepted, entry-pair, entry_closing, accepted_as}
use Rattle.sine.specs.Sine.{sine_pair, sine_table, sine_table-pair, stride, whole}

-- ---- one computed test for all strides

-- The pair that begins at place q.
abbrev pair : List ℤ → ℕ → Point
pair l q = record { re = number l q; im = number l (suc q) }

-- The constant, and T[N/2] behind it.
unfoldable closed : List ℤ
closed = sine ++ (half_turn.re ∷ half_turn.im ∷ [])

-- What the rules ask along k steps of s numbers each, with x for T[1].
unfoldable walk : ℕ → ℕ → Point → List ℤ → Bool
walk zero s x l = true
walk (suc k) s x l = (sized (pair l s) && follows x (pair l 0) (pair l s)) && walk k s x (drop s l)

-- The rules hold along each stride, for N = 2^(j+1).
strides : first (λ j. walk (2 ^ j) (2 ^ (12 - j)) (pair closed (2 ^ (12 - j))) closed) 0 12 ≡ None
unfolding walk closed sine sized follows first
strides = refl

beginning : (sized (pair closed 0) && starts (pair closed 0)) ≡ true
unfolding closed sine sized starts
beginning = refl

-- ---- carried to each length

hop : (s : ℕ) (l : List ℤ) (i : ℕ) → pair (drop s l) (s * i) ≡ pair l (s * suc i)
hop s l i =
    let e : s + s * i ≡ s * suc i = omega arith in
    rw (get_or-drop, get_or-drop, add-suc, e)

walk_each : (k s : ℕ) (x : Point) (l : List ℤ) → walk k s x l ≡ true → (i : ℕ) → i < k → (sized (pair l (s * suc i)) && follows x (pair l (s * i)) (pair l (s * suc i))) ≡ true
unfolding walk
walk_each zero s x l e i h = absurd (omega arith)
walk_each (suc k) s x l e zero h = rw (mul-zero, mul-one) ((and-eq-true_iff (sized (pair l s) && follows x (pair l 0) (pair l s)) (walk k s x (drop s l))).0 e).0
walk_each (suc k) s x l e (suc i) h =
    rw (← hop s l (suc i), ← hop s l i) (walk_each k s x (drop s l) ((and-eq-true_iff (sized (pair l s) && follows x (pair l 0) (pair l s)) (walk k s x (drop s l))).0 e).1 i (omega arith))

sine-length : length sine ≡ 4096
unfolding sine
sine-length = refl

-- In front of T[N/2] stands the constant.
closed-pair : (q : ℕ) → suc q < 4096 → pair closed q ≡ pair sine q
unfolding closed
closed-pair q h =
    let long = sine-length in
    rw (get_or-append sine _ (pos 0) q (omega arith), get_or-append sine _ (pos 0) (suc q) (omega arith))

closed_end : pair closed 4096 ≡ half_turn
unfolding closed sine
closed_end = refl

module _ (j : ℕ) (few : j ≤ 11) where
  -- T[i] of the table for 2^(j+1) is met after i steps.
  step-entry : (i : ℕ) → i ≤ 2 ^ j → pair closed (2 ^ (12 - j) * i) ≡ entry (2 ^ j) (sine_pair (suc j)) i
  unfolding sine_pair
  step-entry i h =
      let two : 2 ^ (12 - j) ≡ 2 ^ (12 - suc j) + 2 ^ (12 - suc j) = rows (omega arith) in
      let all = whole j (omega arith) in
      ⊎_elim
      (λ e.
      let q : 2 ^ (12 - j) * i ≡ 4096 = ap (λ (z : ℕ). 2 ^ (12 - j) * z) e ∙ sym all in
      rw q (closed_end ∙ sym (entry_closing (2 ^ j) (sine_pair (suc j)) (omega arith))))
      (λ l.
      let some : 0 < 2 ^ (12 - suc j) = pow_pos (12 - suc j) in
      let room = mul-le-mul_left (2 ^ (12 - j)) l in
      let e : 2 ^ (12 - j) * i ≡ 4096 / 2 ^ suc j * i + 4096 / 2 ^ suc j * i = rw (stride (suc j) (omega arith)) (omega (arith, ap (λ (z : ℕ). z * i) two)) in
      rw (closed-pair (2 ^ (12 - j) * i) (omega arith), e, entry-pair (2 ^ j) (sine_pair (suc j)) l)) (eq-or-lt_of_le h)

  accepted_pairs : Accepted (2 ^ j) (sine_pair (suc j))
  unfolding rule linked
  accepted_pairs = record { each = by }
    where
      some : 0 < 2 ^ j
      some = pow_pos j

      walked : (i : ℕ) → i < 2 ^ j → (sized (pair closed (2 ^ (12 - j) * suc i)) && follows (pair closed (2 ^ (12 - j))) (pair closed (2 ^ (12 - j) * i)) (pair closed (2 ^ (12 - j) * suc i))) ≡ true
      walked = walk_each (2 ^ j) (2 ^ (12 - j)) (pair closed (2 ^ (12 - j))) closed ((nowhere_passed _ 12 strides).each j (omega arith))

      by : (i : ℕ) → i < suc (2 ^ j) → rule (2 ^ j) (sine_pair (suc j)) i ≡ true
      by zero h = rw (← step-entry 0 (omega arith), mul-zero) beginning
      by (suc i) h = rw (← step-entry (suc i) (omega arith), ← step-entry i (omega arith), ← step-entry 1 some, mul-one) (walked i (omega arith))

-- "It is accepted at all twelve lengths."
pub sine_accepted : (n : ℕ) → 1 ≤ n → n ≤ 12 → Accepted (2 ^ (n - 1)) (sine_pair n)
sine_accepted n some few = let e : suc (n - 1) ≡ n = omega arith in rw e at (accepted_pairs (n - 1) (omega arith))

-- ---- as a list

pub sine_table_accepted : (n : ℕ) → 1 ≤ n → n ≤ 12 → Accepted (2 ^ (n - 1)) (point (sine_table n))
sine_table_accepted n some few = accepted_as _ (point (sine_table n)) (sine_pair n) (sine_table-pair n some) (sine_accepted n some few)
