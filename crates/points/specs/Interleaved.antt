-- Buffers of points: "numbers are pairs (real, imaginary), interleaved; a buffer of N points has 2N numbers".
use Prim.Native.Nat.{ℕ, suc, ◌+◌, ◌/◌, ◌%◌, ◌<◌}
use Rattle.std.specs.Prelude.{◌≡◌, cond, List, eqb, ℤ, pos, length, get_or, set}
use Rattle.std.proofs.Common.{sym, ap, ◌∙◌, ⊎_elim, add-one, length-set, get_or-set_same, get_or-set_other, eq-eqb, ne_eqb}
use native.Mathlib.Omega.{arith}
use Rattle.answer.specs.Cases.{eq_or_ne}
use Rattle.answer.specs.Lists.{tabulate, Holds, length-tabulate}
use Rattle.answer.proofs.Lists.{get_or-tabulate, listed, holds, holds_tabulate}
use Rattle.points.specs.declared.Point.{Point}
use Rattle.points.specs.Steps.{same_parts}

-- ---- definitions

-- The number at a place of a buffer, and 0 behind its end.
abbrev pub number : List ℤ → ℕ → ℤ
number l q = get_or l q (pos 0)

-- Point p of a buffer.
abbrev pub point : List ℤ → ℕ → Point
point l p = record { re = number l (p + p); im = number l (suc (p + p)) }

-- The number at place q of the buffer that the points f make.
unfoldable pub part : (ℕ → Point) → ℕ → ℤ
part f q = cond (eqb (q % 2) 0) (f (q / 2)).re (f (q / 2)).im

-- The buffer of n points.
abbrev pub interleaved : ℕ → (ℕ → Point) → List ℤ
interleaved n f = tabulate (n + n) (part f)

-- The buffer with z as point p.
abbrev pub put : List ℤ → ℕ → Point → List ℤ
put l p z = set (set l (p + p) z.re) (p + p + 1) z.im

-- The points of a buffer.
abbrev pub points : List ℤ → List Point
points l = tabulate (length l / 2) (point l)

-- ---- a buffer by its points

module _ (f : ℕ → Point) (p : ℕ) where
  part_re : part f (p + p) ≡ (f p).re
  unfolding part
  part_re = let e : (p + p) / 2 ≡ p = omega arith in rw (eq-eqb ((p + p) % 2) 0 (omega arith), e)

  part_im : part f (suc (p + p)) ≡ (f p).im
  unfolding part
  part_im = let e : suc (p + p) / 2 ≡ p = omega arith in rw (ne_eqb (suc (p + p) % 2) 0 (λ g. omega arith), e)

-- What is true of the places of both parts of every point is true of every place.
by_parts : (P : ℕ → Type 0) → ((p : ℕ) → P (p + p)) → ((p : ℕ) → P (suc (p + p))) → (q : ℕ) → P q
by_parts P re im q =
    ⊎_elim (λ g. let e : q / 2 + q / 2 ≡ q = omega arith in rw e at (re (q / 2)))
    (λ g. let e : suc (q / 2 + q / 2) ≡ q = omega arith in rw e at (im (q / 2))) (eq_or_ne (q % 2) 0)

module _ (l : List ℤ) (n : ℕ) (f : ℕ → Point) where
  -- The two ways to say which points a buffer holds.
  pub point_held : Holds (pos 0) l (n + n) (part f) → (p : ℕ) → p < n → point l p ≡ f p
  point_held r p h = same_parts (r.here (p + p) (omega arith) ∙ part_re f p) (r.here (suc (p + p)) (omega arith) ∙ part_im f p)

  pub held_points : length l ≡ n + n → ((p : ℕ) → p < n → point l p ≡ f p) → Holds (pos 0) l (n + n) (part f)
  held_points long here = record {
    long = long;
    here = by_parts (λ q. q < n + n → number l q ≡ part f q)
        (λ p h. ap (λ (z : Point). z.re) (here p (omega arith)) ∙ sym (part_re f p))
        (λ p h. ap (λ (z : Point). z.im) (here p (omega arith)) ∙ sym (part_im f p));
  }

  -- A buffer whose points are f.
  pub interleaved_by : length l ≡ n + n → ((p : ℕ) → p < n → point l p ≡ f p) → l ≡ interleaved n f
  interleaved_by long here = listed (held_points long here)

  pub points-interleaved : length l ≡ n + n → points l ≡ tabulate n f → l ≡ interleaved n f
  points-interleaved long e = interleaved_by long (λ p h. sym (get_or-tabulate (f p) (length l / 2) (point l) p (omega arith)) ∙ (holds e).here p h)

pub point-interleaved : (n : ℕ) (f : ℕ → Point) (p : ℕ) → p < n → point (interleaved n f) p ≡ f p
point-interleaved n f = point_held (interleaved n f) n f (holds_tabulate (n + n) (part f))

-- ---- a point put into a buffer

module _ (l : List ℤ) (p : ℕ) (z : Point) where
  pub length-put : length (put l p z) ≡ length l
  length-put = simp length-set

  pub point-put-same : p + p + 1 < length l → point (put l p z) p ≡ z
  point-put-same h =
      let set-re = set l (p + p) z.re in
      same_parts
      (get_or-set_other set-re (p + p + 1) (p + p) z.im (pos 0) (λ e. omega arith) ∙ get_or-set_same l (p + p) z.re (pos 0) (omega arith))
      (rw (← add-one (p + p)) (get_or-set_same set-re (p + p + 1) z.im (pos 0) (rw length-set h)))

  pub point-put_other : (q : ℕ) → (q ≡ p → ⊥) → point (put l p z) q ≡ point l q
  point-put_other q n = same_parts (same (q + q) (λ e. n (omega arith)) (λ e. omega arith)) (same (suc (q + q)) (λ e. omega arith) (λ e. n (omega arith)))
    where
      same : (k : ℕ) → (k ≡ p + p → ⊥) → (k ≡ p + p + 1 → ⊥) → number (put l p z) k ≡ number l k
      same k a b = get_or-set_other (set l (p + p) z.re) (p + p + 1) k z.im (pos 0) b ∙ get_or-set_other l (p + p) k z.re (pos 0) a

  -- Laws of lists of points serve buffers: to put a point is to set it.
  pub points-put : p + p + 1 < length l → points (put l p z) ≡ set (points l) p z
  points-put h = rw length-put (sym (listed {d = z} (record { long = simp (length-set, length-tabulate); here = here })))
    where
      here : (q : ℕ) → q < length l / 2 → get_or (set (points l) p z) q z ≡ point (put l p z) q
      here q k =
          ⊎_elim (λ e. rw e (get_or-set_same (points l) p z z (simp length-tabulate (omega arith)) ∙ sym (point-put-same h)))
          (λ e. get_or-set_other (points l) p q z z e ∙ get_or-tabulate z (length l / 2) (point l) q k ∙ sym (point-put_other q e)) (eq_or_ne q p)
