-- How the reader goes from byte to byte.
use Prim.Native.Nat.{ℕ, suc, min, ◌+◌, ◌-◌, ◌*◌, ◌^◌, ◌<◌, ◌≤◌}
use mathlib.Core.Path.{◌≡◌, refl, ap, ◌∙◌}
use mathlib.Core.List.{List}
use native.Mathlib.Nat.{mul-le-mul, mul-le-mul_left, pow-le-pow_right, pow-succ'}
use native.Mathlib.Omega.{arith}
use native.Mathlib.Numerals.{add-one}
use lib.ListN.{length, take, drop}
use Rattle.std.proofs.lemmas.List.{get_or-take, get_or-drop, length-take, length-drop}
use Rattle.std.specs.List.{slice_range}
use Rattle.answer.specs.Lists.{at}
use Rattle.groups.specs.Groups.{fault, whole, reading, number_at}
use Rattle.groups.specs.Theorems.{reading_ended, reading_last, reading_more}

-- The bytes from place p on, five at most.
pub record Front (s : List ℕ) (p : ℕ) (bytes : List ℕ) : Type 0 where
  pub few : length bytes ≤ 5
  pub inside : p + length bytes ≤ length s
  pub ends : length bytes < 5 → length s ≤ p + length bytes
  pub same : (j : ℕ) → j < length bytes → at bytes j ≡ at s (p + j)

pub front : (s rest : List ℕ) (p n : ℕ) → p ≤ length s → rest ≡ slice_range s p (length s) → n ≡ min (length rest) 5 → Front s p (take n rest)
front s rest p n h e m =
    let size = ap length e ∙ length-take (length s - p) (drop p s) in
    let long = length-drop p s in
    let all = length-take n rest in
    record {
      few = omega arith;
      inside = omega arith;
      ends = λ l. omega arith;
      same = λ j l.
          let low : j < n = omega arith in
          let in_rest : j < length s - p = omega arith in
          get_or-take n rest j 0 low ∙ rw e (get_or-take (length s - p) (drop p s) j 0 in_rest ∙ get_or-drop p s j 0);
    }

-- i bytes are read of the number at p; they make low, and the next counts unit.
pub record Read (s : List ℕ) (p low unit i : ℕ) : Type 0 where
  pub rest : number_at s p ≡ reading s p (5 - i) i low
  pub counts : unit ≡ 128 ^ i
  pub below : low < unit
  pub few : i ≤ 5

pub read_none : (s : List ℕ) (p : ℕ) → Read s p 0 1 0
read_none s p = record { rest = refl; counts = refl; below = omega arith; few = omega arith }

module _ {s : List ℕ} {p low unit i : ℕ} (r : Read s p low unit i) where
  -- All five bytes are read.
  pub read_all : 5 ≤ i → number_at s p ≡ fault p
  unfolding reading
  read_all h = let z : 5 - i ≡ 0 = omega arith in rw z at r.rest

  module _ (h : i < 5) where
    pub unit_small : unit ≤ 268435456
    unit_small = let k : 128 ^ i ≤ 128 ^ 4 = pow-le-pow_right {n = 128} (omega arith) {i = i} {j = 4} (omega arith) in rw r.counts (omega arith)

    -- A group in its place, and what is made of it.
    pub group_small : (g : ℕ) → g < 128 → (unit * g ≤ 34091302912) × (low + unit * g ≤ 34359738367)
    group_small g l =
        let most : g ≤ 127 = omega arith in
        let m : unit * g ≤ 268435456 * 127 = mul-le-mul unit_small most in
        (omega arith, omega (arith, r.below, unit_small))

    next : 5 - i ≡ suc (5 - (i + 1))
    next = omega arith

    pub read_ended : length s ≤ p + i → number_at s p ≡ fault (length s)
    read_ended l = (rw next at r.rest) ∙ reading_ended s p _ i low l

    module _ (inside : p + i < length s) {byte : ℕ} (is : byte ≡ at s (p + i)) where
      pub read_last : byte < 128 → number_at s p ≡ whole p i byte (low + unit * byte)
      read_last l = rw (r.counts, is) ((rw next at r.rest) ∙ reading_last s p _ i low inside (rw is at l))

      pub read_more : 128 ≤ byte → byte < 256 → Read s p (low + unit * (byte - 128)) (unit * 128) (i + 1)
      read_more l top =
          let group : suc (byte - 128) ≤ 128 = omega arith in
          record {
            rest = rw (r.counts, add-one, is) ((rw next at r.rest) ∙ rw add-one (reading_more s p _ i low inside (rw is at l)));
            counts = rw (r.counts, add-one) (omega (arith, pow-succ' 128 i));
            below = omega (arith, r.below, mul-le-mul_left unit group);
            few = omega arith;
          }
