-- The sizes of points from stage to stage.
use Prim.Native.Nat.{ℕ, zero, suc, ◌/◌, ◌^◌, ◌<◌, ◌≤◌}
use native.Mathlib.Omega.{arith}
use lib.Dec.{lit<}
use Rattle.points.specs.declared.Point.{Point}
use Rattle.points.specs.Rounding.{half_up, half_up_half}
use Rattle.points.specs.Steps.{rounded, Sized, Turn, sized_up}
use Rattle.points.specs.Growth.{grow, grow-most, sized_kept}
use Rattle.scan_stages.specs.Buffers.{origin}

-- The pairs of a table fit where its numbers do.
pub half_fits : {n : ℕ} → n < 2 ^ 63 → n / 2 < 2 ^ 63
half_fits h = omega arith

-- In twelve stages the sizes stay as a step asks.
pub ready : (k : ℕ) {z : Point} → k ≤ 12 → Sized (grow k) z → Sized (2 ^ 22) z
ready k h sized = sized_up sized (grow-most k h)

pub behind : (k : ℕ) → Sized (grow k) origin
behind k = record { real = omega arith; imaginary = omega arith }

-- The step keeps the sizes: `sized_kept`, for a table that has the pair t e alone.
pub keeps : (t : ℕ → Point) (s x e : ℕ) {a b : Point} → Turn (t e) → Sized (grow s) a → Sized (grow s) b → Sized (grow (suc s)) (rounded half_up t x e a b)
keeps t s zero e {a} {b} turn h g = sized_kept half_up_half 1 {t = λ _. t e} (record { each = λ _ _. turn }) s 0 0 a b a b (lit< tt) h g
keeps t s (suc x) e {a} {b} turn h g = sized_kept half_up_half 1 {t = λ _. t e} (record { each = λ _ _. turn }) s 1 0 a b a b (lit< tt) h g
