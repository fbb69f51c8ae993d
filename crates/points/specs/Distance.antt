-- The distance of the rounded results from those of the same steps without rounding, for any rounding that errs by at most one half.
use Prim.Native.Nat.{ℕ, zero, suc, ◌+◌, ◌-◌, ◌*◌, ◌^◌, ◌<◌, ◌≤◌}
use Rattle.std.specs.Prelude.{◌≡◌, refl, [], ◌∷◌, ℤ, pos, ◌+ℤ◌, ◌-ℤ◌, ◌*ℤ◌}
use Rattle.std.proofs.Math.Path.{ap}
use Rattle.std.proofs.Common.{◌∙◌, mul-le-mul_left, lit<}
use native.Mathlib.Omega.{arith}
use Rattle.std.proofs.Math.Pow.{pow-add}
use Rattle.std.proofs.Math.IntN.{nat_abs}
use Rattle.algebra.specs.Integers.{integers, nat_abs-add, nat_abs_mul}
use Rattle.algebra.specs.Solver.{v, :0, :1, ◌:+◌, ◌:-◌, ◌:*◌, ring}
use Rattle.fourier.specs.Array.{Exponents}
use Rattle.fourier.specs.Schedules.{Schedule, Buffer}
use Rattle.fourier.specs.Leaves.{Leaves, Keeps, related}
use Rattle.points.specs.declared.Point.{Point}
use Rattle.points.specs.Rounding.{Rounding, Half}
use Rattle.points.specs.Steps.{plus, minus, same_parts, turned, each_part, scaled, rounded, unrounded, Sized, Turns, each_sized, sized_up, plus-sized, turned-sized}

-- ---- definitions

-- "e(0) = 0 and e(s+1) = 46,342 e(s) + 2^(15s+14)."
unfoldable pub distance : ℕ → ℕ
distance zero = 0
distance (suc s) = 46342 * distance s + 2 ^ (15 * s + 14)

-- q R - U, part by part.
abbrev pub gap : ℕ → Point → Point → Point
gap q r u = minus (scaled q r) u

-- "After n stages call a part U, and the rounded part R. The distance |2^(15n) R - U| is at most e(n)."
abbrev pub Near : ℕ → Point → Point → Type 0
Near s r u = Sized (distance s) (gap (2 ^ (15 * s)) r u)

-- ---- what a step does to a gap, where nothing is rounded

plus-gap : (q : ℕ) (a b c d : Point) → gap (q * 16384) (plus a b) (scaled 16384 (plus c d)) ≡ scaled 16384 (plus (gap q a c) (gap q b d))
plus-gap q a b c d = same_parts (part a.re b.re c.re d.re) (part a.im b.im c.im d.im)
  where
    part : (a b c d : ℤ) → pos (q * 16384) *ℤ (a +ℤ b) -ℤ pos 16384 *ℤ (c +ℤ d) ≡ pos 16384 *ℤ ((pos q *ℤ a -ℤ c) +ℤ (pos q *ℤ b -ℤ d))
    part a b c d =
        ring integers (pos q ∷ pos 16384 ∷ a ∷ b ∷ c ∷ d ∷ []) (v 0 :* v 1 :* (v 2 :+ v 3) :- v 1 :* (v 4 :+ v 5)) (v 1 :* ((v 0 :* v 2 :- v 4) :+ (v 0 :* v 3 :- v 5))) refl

turned-gap : (q : ℕ) (t a b c d : Point) → gap q (turned t a b) (turned t c d) ≡ turned t (gap q a c) (gap q b d)
turned-gap q t a b c d =
    let all = pos q ∷ t.re ∷ t.im ∷ a.re ∷ a.im ∷ b.re ∷ b.im ∷ c.re ∷ c.im ∷ d.re ∷ d.im ∷ [] in
    same_parts
    (ring integers all
    (v 0 :* (v 1 :* (v 3 :- v 5) :- v 2 :* (v 4 :- v 6)) :- (v 1 :* (v 7 :- v 9) :- v 2 :* (v 8 :- v 10)))
    (v 1 :* ((v 0 :* v 3 :- v 7) :- (v 0 :* v 5 :- v 9)) :- v 2 :* ((v 0 :* v 4 :- v 8) :- (v 0 :* v 6 :- v 10))) refl)
    (ring integers all
    (v 0 :* (v 1 :* (v 4 :- v 6) :+ v 2 :* (v 3 :- v 5)) :- (v 1 :* (v 8 :- v 10) :+ v 2 :* (v 7 :- v 9)))
    (v 1 :* ((v 0 :* v 4 :- v 8) :- (v 0 :* v 6 :- v 10)) :+ v 2 :* ((v 0 :* v 3 :- v 7) :- (v 0 :* v 5 :- v 9))) refl)

-- ---- what rounding adds

scaled-sized : (c : ℕ) {m : ℕ} {z : Point} → Sized m z → Sized (c * m) (scaled c z)
scaled-sized c = each_sized (λ x. pos c *ℤ x) (λ x l. omega (arith, nat_abs_mul (pos c) x, mul-le-mul_left c l))

module _ {rounding : Rounding} (half : Half rounding) where
  -- Where q times what is rounded is at most E from u, q D times what it becomes is at most q D/2 further.
  round_gap : (q D E : ℕ) (w u : ℤ) → 0 < D → nat_abs (pos q *ℤ w -ℤ u) ≤ E → 2 * nat_abs (pos (q * D) *ℤ rounding D w -ℤ u) ≤ 2 * E + q * D
  round_gap q D E w u pos-D h =
      rw (ring integers (pos q ∷ pos D ∷ rounding D w ∷ w ∷ u ∷ []) (v 0 :* v 1 :* v 2 :- v 4) (v 0 :* (v 1 :* v 2 :- v 3) :+ (v 0 :* v 3 :- v 4)) refl)
      (omega (
        arith,
        nat_abs-add (pos q *ℤ (pos D *ℤ rounding D w -ℤ w)) (pos q *ℤ w -ℤ u),
        nat_abs_mul (pos q) (pos D *ℤ rounding D w -ℤ w),
        mul-le-mul_left q (half.errs D w pos-D),
      ))

  -- So rounding takes a part from one stage's bound to the next.
  round_near : (s q D : ℕ) (w u : Point) → 0 < D → 2 ^ (15 * s) * 32768 ≡ q * D → Sized (46342 * distance s) (gap q w u) → Near (suc s) (each_part (rounding D) w) u
  unfolding distance
  round_near s q D w u pos-D e h = record { real = part w.re u.re h.real; imaginary = part w.im u.im h.imaginary }
    where
      next : 2 ^ (15 * suc s) ≡ q * D
      next = let f : 15 * suc s ≡ 15 * s + 15 = omega arith in ap (λ (n : ℕ). 2 ^ n) f ∙ pow-add 2 (15 * s) 15 ∙ e

      part : (w u : ℤ) → nat_abs (pos q *ℤ w -ℤ u) ≤ 46342 * distance s → nat_abs (pos (2 ^ (15 * suc s)) *ℤ rounding D w -ℤ u) ≤ 46342 * distance s + 2 ^ (15 * s + 14)
      part w u l = rw (next, pow-add 2 (15 * s) 14) (omega (arith, round_gap q D (46342 * distance s) w u pos-D l))

  -- ---- the steps, and the results

  near_self : (z : Point) → Near 0 z z
  unfolding distance
  near_self z = record { real = part z.re; imaginary = part z.im }
    where
      part : (z : ℤ) → nat_abs (pos 1 *ℤ z -ℤ z) ≤ 0
      part z = rw (ring integers (z ∷ []) (:1 :* v 0 :- v 0) :0 refl) (omega arith)

  -- The two steps keep the distance.
  pub near_kept : (n : ℕ) {t : ℕ → Point} → Turns t (2 ^ (n - 1)) → Keeps n Near (rounded rounding t) (unrounded t)
  near_kept n turns s zero e a b c d l h g =
      let q = 2 ^ (15 * s) in
      let sum = scaled-sized 16384 (plus-sized h g) in
      round_near s (q * 16384) 2 (plus a b) (scaled 16384 (plus c d)) (lit< tt) (omega arith) (rw plus-gap (sized_up sum (omega arith)))
  near_kept n {t} turns s (suc x) e a b c d l h g =
      round_near s (2 ^ (15 * s)) 32768 (turned (t e) a b) (turned (t e) c d) (lit< tt) refl (rw turned-gap (turned-sized (turns.each e l) h g))

  -- "The distance |2^(15n) R - U| is at most e(n)", for every schedule, at every place.
  pub results_near : {e : Exponents} {n : ℕ} {order index : ℕ → ℕ} {f : Schedule} {t : ℕ → Point} → Leaves e n order index f → Turns t (2 ^ (n - 1)) →
      (d : Buffer Point) (p : ℕ) → p < 2 ^ n → Near n (f Point (rounded rounding t) d p) (f Point (unrounded t) d p)
  results_near {n = n} leaves turns d = related n Near (near_kept n turns) leaves d d (λ p h. near_self (d p))

-- ---- "So e(1) = 16,384 and e(2) = 1,296,138,240. In units, e(n)/2^(15n) is 1/2 at n = 1, below 38 at n = 10, below 77 at n = 12."

pub distance_1 : distance 1 ≡ 16384
unfolding distance
distance_1 = refl

pub distance_2 : distance 2 ≡ 1296138240
unfolding distance
distance_2 = refl

pub distance_10 : distance 10 < 38 * 2 ^ 150
unfolding distance
distance_10 = lit< tt

pub distance_12 : distance 12 < 77 * 2 ^ 180
unfolding distance
distance_12 = lit< tt
