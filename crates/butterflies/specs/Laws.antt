-- What the traits of `stages` ask, of residues: one number a place, and every step leaves numbers below m.
use Rattle.std.specs.Prelude.{ℕ, zero, suc, ◌≤◌, ◌^◌, ◌<◌, refl}
use Rattle.std.proofs.Common.{◌∙◌, one-mul, mod-lt, arith}
use Rattle.fourier.specs.Numbers.{frequency_mod, time_mod, back_mod}
use Rattle.residues.specs.Moduli.{Permitted}
use Rattle.stages.specs.Laws.{PlacesLaws}

-- A buffer of numbers is the list of its values.
pub residue_places : PlacesLaws {N = ℕ} {V = ℕ} 1 (λ l. l)
residue_places = record {
  long = λ l n e. e ∙ one-mul n;
  part = λ l a k n e h. rw (one-mul a, one-mul k) refl;
  back = λ l part a k n e h g. rw (one-mul a, one-mul k) refl;
}

pub positive : {m : ℕ} → Permitted m → 0 < m
positive r = omega (arith, r.least)

-- Its places fit a number of 64 bits.
pub roots_fit : {h : ℕ} → h ≤ 2048 → h < 2 ^ 63
roots_fit h = omega arith

-- What a step over residues gives is below m.
pub frequency_below : (m h : ℕ) (t : ℕ → ℕ) (x e a b : ℕ) → 0 < m → frequency_mod m h t x e a b < m
frequency_below m h t zero e a b pos = mod-lt _ pos
frequency_below m h t (suc x) e a b pos = mod-lt _ pos

pub time_below : (m h : ℕ) (t : ℕ → ℕ) (x e a b : ℕ) → 0 < m → time_mod m h t x e a b < m
time_below m h t zero e a b pos = mod-lt _ pos
time_below m h t (suc x) e a b pos = mod-lt _ pos

pub back_below : (m h : ℕ) (t : ℕ → ℕ) (x e a b : ℕ) → 0 < m → back_mod m h t x e a b < m
back_below m h t zero e a b pos = mod-lt _ pos
back_below m h t (suc x) e a b pos = mod-lt _ pos
