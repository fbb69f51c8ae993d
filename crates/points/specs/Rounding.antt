-- Rounding a quotient v/D to a whole number.
use Rattle.std.specs.Prelude.{ℕ, suc, ◌+◌, ◌-◌, ◌*◌, ◌/◌, ◌%◌, ◌<◌, ◌≤◌, ◌≡◌, refl, [], ◌∷◌, ℤ, pos, negsuc, nat_abs, ◌+ℤ◌, ◌-ℤ◌, ◌*ℤ◌, neg_ℤ}
use Rattle.std.proofs.Common.{sym, ap, ◌∙◌, mod-lt, div-add-mod', mul_comm, arith}
use Rattle.std.specs.Int.Signed.{shr_z}
use Rattle.algebra.specs.Integers.{integers, nat_abs_diff}
use Rattle.algebra.specs.Solver.{v, ◌:+◌, ◌:-◌, :neg, ring}

-- ---- definitions

-- What v/D becomes, by D and v.
abbrev pub Rounding : Type 0
Rounding = ℕ → ℤ → ℤ

-- A rounding that errs by at most one half: D times what v/D becomes is at most D/2 from v.
pub record Half (rounding : Rounding) : Type 0 where
  pub errs : (D : ℕ) (z : ℤ) → 0 < D → 2 * nat_abs (pos D *ℤ rounding D z -ℤ z) ≤ D

-- The floor of v/D, and what is left: `floor_split` and `left_below` say that it is the floor.
abbrev pub floor : ℕ → ℤ → ℤ
floor D z = shr_z z D

abbrev pub left : ℕ → ℤ → ℕ
left D (pos a) = a % D
left D (negsuc a) = D - suc (a % D)

-- "v/D becomes the floor of (v + D/2)/D, so a half goes up, for negative v too."
abbrev pub half_up : Rounding
half_up D z = floor D (z +ℤ pos (D / 2))

-- ---- the floor

pub left_below : (D : ℕ) (z : ℤ) → 0 < D → left D z < D
left_below D (pos a) h = mod-lt a h
left_below D (negsuc a) h = let l : a % D < D = mod-lt a h in omega arith

pub floor_split : (D : ℕ) (z : ℤ) → 0 < D → z ≡ pos D *ℤ floor D z +ℤ pos (left D z)
floor_split D (pos a) h = ap pos (sym (div-add-mod' a D) ∙ ap (λ (n : ℕ). n + a % D) (mul_comm (a / D) D))
floor_split D (negsuc a) h =
    let l : a % D < D = mod-lt a h in
    let e : D - suc (a % D) + suc a ≡ D * suc (a / D) = omega (arith, div-add-mod' a D) in
    let rest = D - suc (a % D) in
    ring integers (pos (suc a) ∷ pos rest ∷ []) (:neg (v 0)) (:neg (v 1 :+ v 0) :+ v 1) refl ∙ ap (λ (n : ℕ). neg_ℤ (pos n) +ℤ pos rest) e

-- ---- a half goes up

pub half_up_half : Half half_up
half_up_half = record {
  errs = λ D z h.
      let w = z +ℤ pos (D / 2) in
      let r = left D w in
      let l : r < D = left_below D w h in
      let e : pos D *ℤ floor D w -ℤ z ≡ pos (D / 2) -ℤ pos r =
      ring integers ((pos D *ℤ floor D w) ∷ z ∷ pos r ∷ []) (v 0 :- v 1) (v 0 :+ v 2 :- v 1 :- v 2) refl
      ∙ rw (← floor_split D w h) (ring integers (z ∷ pos (D / 2) ∷ pos r ∷ []) (v 0 :+ v 1 :- v 0 :- v 2) (v 1 :- v 2) refl) in
      let m : nat_abs (pos (D / 2) -ℤ pos r) ≤ D / 2 = nat_abs_diff (D / 2) r (D / 2) (omega arith) (omega arith) in
      rw e (omega arith);
}
