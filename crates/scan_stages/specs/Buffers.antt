-- A buffer by the list of its points: so the laws of loops over lists serve buffers of points.
use Prim.Native.Nat.{ℕ, suc, ◌+◌, ◌-◌, ◌*◌, ◌/◌, ◌<◌, ◌≤◌}
use mathlib.Core.Path.{◌≡◌, sym, ap, ◌∙◌}
use mathlib.Core.Logic.{⊎_elim}
use mathlib.Core.List.{List}
use native.Mathlib.Omega.{arith}
use lib.IntN.{ℤ, pos}
use lib.ListN.{length, get_or, get_or-eq_default}
use borrow.Rule.Slice.PartMut.{mid_of, put_mid}
use Rattle.answer.specs.Cases.{lt_or_ge}
use Rattle.answer.specs.Lists.{tabulate, Holds, length-tabulate}
use Rattle.answer.proofs.Lists.{listed, holds}
use Rattle.answer.proofs.Parts.{mid_holds, put-length, put-before, put_inside, put-behind}
use Rattle.points.specs.declared.Point.{Point}
use Rattle.points.specs.Interleaved.{number, point, points, interleaved, point-interleaved, points-interleaved}
use Rattle.points.specs.Steps.{same_parts}
use Rattle.stages.specs.Laws.{held, PlacesLaws}

-- The point behind a buffer's end.
abbrev pub origin : Point
origin = record { re = pos 0; im = pos 0 }

-- A buffer of n points.
pub record Whole (l : List ℤ) (n : ℕ) : Type 0 where
  pub long : length l ≡ n + n

module _ {l : List ℤ} {n : ℕ} (whole : Whole l n) where
  pub points_hold : Holds origin (points l) n (point l)
  points_hold = let half : length l / 2 ≡ n = omega arith in holds (ap (λ k. tabulate k (point l)) half)

  -- They are read alike, behind the end too.
  pub points-at : (p : ℕ) → get_or (points l) p origin ≡ point l p
  points-at p =
      ⊎_elim (points_hold.here p)
      (λ g.
      get_or-eq_default (points l) origin {n = p} (omega (arith, points_hold.long))
      ∙ same_parts (sym (get_or-eq_default l (pos 0) {n = p + p} (omega arith))) (sym (get_or-eq_default l (pos 0) {n = suc (p + p)} (omega arith)))) (lt_or_ge p n)

  pub points_read : (λ p. get_or (points l) p origin) ≡ point l
  points_read = λ i p. points-at p i

  -- Its points one by one.
  points_by : {ys : List Point} → length ys ≡ n → ((p : ℕ) → p < n → get_or ys p origin ≡ point l p) → points l ≡ ys
  points_by short here = listed points_hold ∙ sym (listed {d = origin} (record { long = short; here = here }))

  -- The buffer that they make.
  pub interleaved-points : {f : ℕ → Point} → Holds origin (points l) n f → l ≡ interleaved n f
  interleaved-points held = points-interleaved l n _ whole.long (listed held)

-- A buffer that n points make.
pub record Made (l : List ℤ) (n : ℕ) (f : ℕ → Point) : Type 0 where
  pub whole : Whole l n
  pub held : points l ≡ tabulate n f

pub made : {l : List ℤ} (n : ℕ) (f : ℕ → Point) → l ≡ interleaved n f → Made l n f
made {l} n f e =
    let whole : Whole l n = record { long = rw e (length-tabulate (n + n) _) } in
    record { whole = whole; held = listed {d = origin} (record { long = (points_hold whole).long; here = λ p h. (points_hold whole).here p h ∙ rw e (point-interleaved n f p h) }) }

-- ---- a part that is lent on: k points from point a on

module _ {l : List ℤ} {n : ℕ} (whole : Whole l n) (a k : ℕ) (room : a + k ≤ n) where
  -- The places of point a + p.
  re_place : (p : ℕ) → a + a + (p + p) ≡ a + p + (a + p)
  re_place p = omega arith

  im_place : (p : ℕ) → a + a + suc (p + p) ≡ suc (a + p + (a + p))
  im_place p = omega arith

  lent_points : Holds origin (mid_of a k (points l)) k (λ p. get_or (points l) (a + p) origin)
  lent_points = mid_holds origin a k (points l) (omega (arith, (points_hold whole).long))

  lent_numbers : Holds (pos 0) (mid_of (a + a) (k + k) l) (k + k) (λ q. number l (a + a + q))
  lent_numbers = mid_holds (pos 0) (a + a) (k + k) l (omega (arith, whole.long))

  pub lent_whole : Whole (mid_of (a + a) (k + k) l) k
  lent_whole = record { long = lent_numbers.long }

  pub lent_point : (p : ℕ) → p < k → point (mid_of (a + a) (k + k) l) p ≡ point l (a + p)
  lent_point p h = same_parts (lent_numbers.here (p + p) (omega arith) ∙ ap (number l) (re_place p)) (lent_numbers.here (suc (p + p)) (omega arith) ∙ ap (number l) (im_place p))

  pub points_lent : points (mid_of (a + a) (k + k) l) ≡ mid_of a k (points l)
  points_lent = points_by lent_whole lent_points.long (λ p h. lent_points.here p h ∙ points-at whole (a + p) ∙ sym (lent_point p h))

  -- It has come back.
  module _ {part : List ℤ} (same : Whole part k) where
    inside : a + k ≤ length (points l)
    inside = omega (arith, (points_hold whole).long)

    within : a + a + (k + k) ≤ length l
    within = omega (arith, whole.long)

    pub back_whole : Whole (put_mid (a + a) (k + k) l part) n
    back_whole = record { long = put-length (pos 0) (a + a) (k + k) l within part same.long ∙ whole.long }

    before : (p : ℕ) → p < a → get_or (put_mid a k (points l) (points part)) p origin ≡ point (put_mid (a + a) (k + k) l part) p
    before p g =
        put-before origin a k (points l) inside (points part) (points_hold same).long p g ∙ points-at whole p
        ∙ sym (same_parts (numbers (p + p) (omega arith)) (numbers (suc (p + p)) (omega arith)))
      where
        numbers : (q : ℕ) → q < a + a → number (put_mid (a + a) (k + k) l part) q ≡ number l q
        numbers = put-before (pos 0) (a + a) (k + k) l within part same.long

    among : (p : ℕ) → p < k → get_or (put_mid a k (points l) (points part)) (a + p) origin ≡ point (put_mid (a + a) (k + k) l part) (a + p)
    among p g =
        let back = put_mid (a + a) (k + k) l part in
        put_inside origin a k (points l) inside (points part) (points_hold same).long p g ∙ points-at same p
        ∙ sym (same_parts (ap (number back) (sym (re_place p)) ∙ numbers (p + p) (omega arith)) (ap (number back) (sym (im_place p)) ∙ numbers (suc (p + p)) (omega arith)))
      where
        numbers : (q : ℕ) → q < k + k → number (put_mid (a + a) (k + k) l part) (a + a + q) ≡ number part q
        numbers = put_inside (pos 0) (a + a) (k + k) l within part same.long

    behind : (p : ℕ) → a + k ≤ p → get_or (put_mid a k (points l) (points part)) p origin ≡ point (put_mid (a + a) (k + k) l part) p
    behind p g =
        put-behind origin a k (points l) inside (points part) (points_hold same).long p g ∙ points-at whole p
        ∙ sym (same_parts (numbers (p + p) (omega arith)) (numbers (suc (p + p)) (omega arith)))
      where
        numbers : (q : ℕ) → a + a + (k + k) ≤ q → number (put_mid (a + a) (k + k) l part) q ≡ number l q
        numbers = put-behind (pos 0) (a + a) (k + k) l within part same.long

    pub points-back : points (put_mid (a + a) (k + k) l part) ≡ put_mid a k (points l) (points part)
    points-back =
        points_by back_whole (put-length origin a k (points l) inside (points part) (points_hold same).long ∙ (points_hold whole).long)
        (λ p h. ⊎_elim (before p) (λ g. ⊎_elim (λ b. let e : a + (p - a) ≡ p = omega arith in rw e at (among (p - a) (omega arith))) (behind p) (lt_or_ge p (a + k))) (lt_or_ge p a))

-- ---- what `stages` asks

twice : (n : ℕ) → 2 * n ≡ n + n
twice n = omega arith

pub point_places : PlacesLaws 2 points
point_places = record {
  long = λ l n e. (points_hold {l = l} (record { long = e ∙ twice n })).long;
  part = λ l a k n e h. rw (twice a, twice k) (points_lent (record { long = e ∙ twice n }) a k h);
  back = λ l part a k n e h g. rw (twice a, twice k) (points-back (record { long = e ∙ twice n }) a k h (record { long = g ∙ twice k }));
}

-- A buffer of n points by the values of its places, before and after f was done to it.
pub held_points : (l : List ℤ) (n : ℕ) → length l ≡ n + n → held origin (points l) ≡ point l
held_points l n long = let whole : Whole l n = record { long = long } in points_read whole

pub laid : (l l' : List ℤ) (n : ℕ) (f : (ℕ → Point) → ℕ → Point) → length l ≡ n + n → length l' ≡ length l → points l' ≡ tabulate n (f (held origin (points l))) → l' ≡ interleaved n (f (point l))
laid l l' n f long same e =
    let whole : Whole l' n = record { long = same ∙ long } in
    let made : points l' ≡ tabulate n (f (point l)) = e ∙ ap (λ d. tabulate n (f d)) (held_points l n long) in
    interleaved-points whole (holds made)

-- What is true of all its points is true of all values of its places.
pub held_each : (P : Point → Type 0) (l : List ℤ) (n : ℕ) → length l ≡ n + n → ((p : ℕ) → P (point l p)) → (p : ℕ) → P (held origin (points l) p)
held_each P l n long each p = let whole : Whole l n = record { long = long } in rw (points-at whole p) (each p)
