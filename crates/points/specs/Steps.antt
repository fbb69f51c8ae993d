-- A stage's step on two points, rounded and without rounding, and the sizes of what it works out.
use Rattle.std.specs.Prelude.{ℕ, zero, suc, ◌+◌, ◌*◌, ◌<◌, ◌≤◌, ◌≡◌, ℤ, pos, nat_abs, ◌+ℤ◌, ◌-ℤ◌, ◌*ℤ◌}
use Rattle.std.proofs.Common.{mul-le-mul_left, mul-le-mul_right, arith}
use Rattle.algebra.specs.Integers.{nat_abs-add, nat_abs-sub, nat_abs_mul}
use Rattle.fourier.specs.Schedules.{Wing}
use Rattle.points.specs.declared.Point.{Point}
use Rattle.points.specs.Rounding.{Rounding}

-- ---- points

abbrev pub plus : Point → Point → Point
plus a b = record { re = a.re +ℤ b.re; im = a.im +ℤ b.im }

abbrev pub minus : Point → Point → Point
minus a b = record { re = a.re -ℤ b.re; im = a.im -ℤ b.im }

abbrev pub times : Point → Point → Point
times a b = record { re = a.re *ℤ b.re -ℤ a.im *ℤ b.im; im = a.re *ℤ b.im +ℤ a.im *ℤ b.re }

-- Each part by one function.
abbrev pub each_part : (ℤ → ℤ) → Point → Point
each_part f z = record { re = f z.re; im = f z.im }

-- c times a point.
abbrev pub scaled : ℕ → Point → Point
scaled c = each_part (λ z. pos c *ℤ z)

-- ---- steps

-- T(a - b).
abbrev pub turned : Point → Point → Point → Point
turned t a b = times t (minus a b)

-- "A stage replaces a, b by (a + b)/2 and T(a - b)/32,768, where T is the table's pair at the exponent. Each part is worked out whole
-- and rounded once."
abbrev pub rounded : Rounding → (ℕ → Point) → Wing Point
rounded rounding t zero e a b = each_part (rounding 2) (plus a b)
rounded rounding t (suc x) e a b = each_part (rounding 32768) (turned (t e) a b)

-- "A stage replaces a, b by 16,384(a + b) and T(a - b), whole numbers of any size."
abbrev pub unrounded : (ℕ → Point) → Wing Point
unrounded t zero e a b = scaled 16384 (plus a b)
unrounded t (suc x) e a b = turned (t e) a b

-- ---- sizes

-- Both parts are at most m in size.
pub record Sized (m : ℕ) (z : Point) : Type 0 where
  pub real : nat_abs z.re ≤ m
  pub imaginary : nat_abs z.im ≤ m

-- "The sizes of both parts sum to at most 23,171."
pub record Turn (t : Point) : Type 0 where
  pub sizes : nat_abs t.re + nat_abs t.im ≤ 23171

-- So it is of the pairs below h of a table.
pub record Turns (t : ℕ → Point) (h : ℕ) : Type 0 where
  pub each : (e : ℕ) → e < h → Turn (t e)

-- ---- points by their parts

pub same_parts : {a b : Point} → a.re ≡ b.re → a.im ≡ b.im → a ≡ b
same_parts re im = λ i. record { re = re i; im = im i }

-- What a function does to the size of a number, it does to both parts.
pub each_sized : (f : ℤ → ℤ) {m k : ℕ} {z : Point} → ((x : ℤ) → nat_abs x ≤ m → nat_abs (f x) ≤ k) → Sized m z → Sized k (each_part f z)
each_sized f {z = z} by h = record { real = by z.re h.real; imaginary = by z.im h.imaginary }

pub sized_up : {m n : ℕ} {z : Point} → Sized m z → m ≤ n → Sized n z
sized_up h l = each_sized (λ x. x) (λ x g. omega arith) h

-- ---- what a step works out

pub plus-sized : {m : ℕ} {a b : Point} → Sized m a → Sized m b → Sized (2 * m) (plus a b)
plus-sized {a = a} {b = b} h l = record { real = omega (arith, nat_abs-add a.re b.re); imaginary = omega (arith, nat_abs-add a.im b.im) }

pub minus-sized : {m : ℕ} {a b : Point} → Sized m a → Sized m b → Sized (2 * m) (minus a b)
minus-sized {a = a} {b = b} h l = record { real = omega (arith, nat_abs-sub a.re b.re); imaginary = omega (arith, nat_abs-sub a.im b.im) }

-- The two products of a part.
pub products_sized : {m : ℕ} (c d x y : ℤ) → nat_abs c + nat_abs d ≤ 23171 → nat_abs x ≤ m → nat_abs y ≤ m → nat_abs (c *ℤ x) + nat_abs (d *ℤ y) ≤ 23171 * m
products_sized {m} c d x y k h l =
    omega (arith, nat_abs_mul c x, nat_abs_mul d y, mul-le-mul_left (nat_abs c) h, mul-le-mul_left (nat_abs d) l, mul-le-mul_right m k)

pub turned-sized : {m : ℕ} {t a b : Point} → Turn t → Sized m a → Sized m b → Sized (46342 * m) (turned t a b)
turned-sized {m} {t} {a} {b} k h l =
    let d = minus-sized h l in
    record {
      real = omega (arith, products_sized t.re t.im (a.re -ℤ b.re) (a.im -ℤ b.im) k.sizes d.real d.imaginary, nat_abs-sub (t.re *ℤ (a.re -ℤ b.re)) (t.im *ℤ (a.im -ℤ b.im)));
      imaginary = omega (arith, products_sized t.re t.im (a.im -ℤ b.im) (a.re -ℤ b.re) k.sizes d.imaginary d.real, nat_abs-add (t.re *ℤ (a.im -ℤ b.im)) (t.im *ℤ (a.re -ℤ b.re)));
    }
