-- What is read writes the same bytes, and a number is its five bytes at most.
use Prim.Native.Nat.{ℕ, zero, suc, ◌+◌, ◌-◌, ◌*◌, ◌/◌, ◌%◌, ◌^◌, ◌<◌, ◌≤◌}
use Rattle.std.specs.Prelude.{◌≡◌, refl, Bool, true, false, cond, List, ◌∷◌, ◌++◌, drop, ltb, eqb, Ok}
use Rattle.std.proofs.Common.{sym, ap, ◌∙◌, mul-le-mul_right, drop-cons}
use Rattle.std.proofs.Math.Nat.{pow-succ', one-le-pow}
use native.Mathlib.Omega.{arith}
use Rattle.std.proofs.Math.Decide.{dec_lt}
use Rattle.std.proofs.Math.ListN.{length}
use borrow.Author.Tests.{ltb-true, ltb-false, eqb-false}
use Rattle.answer.specs.Lists.{at}
use Rattle.groups.specs.Groups.{fault, whole, reading, number_at, bytes_of}
use Rattle.groups.specs.Theorems.{reading_ended, reading_last, reading_more, bytes_one, bytes_more, value_same, clash}

-- A number that is read is its value, below 2^32 and in shortest form.
whole_is : (p i byte v w q : ℕ) → whole p i byte v ≡ Ok (w, q) → (w ≡ v) × (q ≡ suc (p + i)) × (v < 4294967296) × (byte ≡ 0 → i ≡ 0)
unfolding whole
whole_is p i byte v w q = by (eqb byte 0) refl (ltb v 4294967296) refl (ltb 0 i) refl
  where
    by : (z : Bool) → eqb byte 0 ≡ z → (b : Bool) → ltb v 4294967296 ≡ b → (o : Bool) → ltb 0 i ≡ o →
        cond (cond z o false) (fault p) (cond b (Ok (v, suc (p + i))) (fault p)) ≡ Ok (w, q) →
        (w ≡ v) × (q ≡ suc (p + i)) × (v < 4294967296) × (byte ≡ 0 → i ≡ 0)
    by true ez true eb true eo e = clash (cc e)
    by true ez true eb false eo e = let same = value_same e in (sym same.0, sym same.1, ltb-true v 4294967296 eb, λ h. let l = ltb-false 0 i eo in omega arith)
    by true ez false eb true eo e = clash (cc e)
    by true ez false eb false eo e = clash (cc e)
    by false ez true eb o eo e = let same = value_same e in (sym same.0, sym same.1, ltb-true v 4294967296 eb, λ h. absurd (eqb-false byte 0 ez h))
    by false ez false eb o eo e = clash (cc e)

module _ (s : List ℕ) (p : ℕ) (bytes : (j : ℕ) → at s j < 256) where
  -- A number read from byte i on: its bytes from there on are those of rest.
  record Same (i low v q : ℕ) : Type 0 where
    rest : ℕ
    value : v ≡ low + 128 ^ i * rest
    first : rest ≡ 0 → i ≡ 0
    small : v < 4294967296
    next : q ≡ p + i + length (bytes_of rest)
    same : drop (p + i) s ≡ bytes_of rest ++ drop q s

  same_last : (i low v q : ℕ) → p + i < length s → at s (p + i) < 128 → whole p i (at s (p + i)) (low + 128 ^ i * at s (p + i)) ≡ Ok (v, q) → Same i low v q
  same_last i low v q h l e =
      let is = whole_is p i (at s (p + i)) (low + 128 ^ i * at s (p + i)) v q e in
      let one = bytes_one (at s (p + i)) l in
      record {
        rest = at s (p + i);
        value = is.0;
        first = is.3;
        small = rw is.0 is.2;
        next = rw one (is.1 ∙ omega arith);
        same = rw (one, is.1) (drop-cons s (p + i) 0 h);
      }

  positive : (r i : ℕ) → (r ≡ 0 → suc i ≡ 0) → 1 ≤ r
  positive zero i h = let z = h refl in absurd (omega arith)
  positive (suc r) i h = omega arith

  same_more : (i low v q : ℕ) → p + i < length s → 128 ≤ at s (p + i) → Same (suc i) (low + 128 ^ i * (at s (p + i) - 128)) v q → Same i low v q
  same_more i low v q h l r =
      let u = at s (p + i) - 128 + 128 * r.rest in
      let b = bytes (p + i) in
      let some = positive r.rest i r.first in
      let value : v ≡ low + 128 ^ i * u = r.value ∙ rw pow-succ' (omega arith) in
      let below : 1 * u ≤ 128 ^ i * u = mul-le-mul_right u (one-le-pow i 128 (omega arith)) in
      let byte : u % 128 + 128 ≡ at s (p + i) = omega arith in
      let rest : u / 128 ≡ r.rest = omega arith in
      let more : bytes_of u ≡ at s (p + i) ∷ bytes_of r.rest = bytes_more u (omega arith) (omega (arith, r.small)) ∙ rw (byte, rest) in
      let later : p + suc i ≡ suc (p + i) = omega arith in
      record {
        rest = u;
        value = value;
        first = λ z. absurd (omega arith);
        small = r.small;
        next = rw more (r.next ∙ omega arith);
        same = rw more (drop-cons s (p + i) 0 h ∙ ap (λ (l : List ℕ). at s (p + i) ∷ l) (rw later at r.same));
      }

  same_from : (k i low v q : ℕ) → reading s p k i low ≡ Ok (v, q) → Same i low v q
  unfolding reading
  same_from zero i low v q e = clash (cc e)
  same_from (suc k) i low v q e = by (dec_lt (p + i) (length s)) (dec_lt (at s (p + i)) 128) (same_from k (suc i) (low + 128 ^ i * (at s (p + i) - 128)) v q)
    where
      by : Dec (p + i < length s) → Dec (at s (p + i) < 128) →
          (reading s p k (suc i) (low + 128 ^ i * (at s (p + i) - 128)) ≡ Ok (v, q) → Same (suc i) (low + 128 ^ i * (at s (p + i) - 128)) v q) → Same i low v q
      by (yes h) (yes l) ih = same_last i low v q h l (sym (reading_last s p k i low h l) ∙ e)
      by (yes h) (no l) ih = let m : 128 ≤ at s (p + i) = omega arith in same_more i low v q h m (ih (sym (reading_more s p k i low h m) ∙ e))
      by (no h) l ih = clash (cc (reading_ended s p k i low (omega arith), e))

  -- A number that is read is below 2^32, and its bytes are those that it is written in.
  pub same_bytes : (v q : ℕ) → number_at s p ≡ Ok (v, q) → (v < 4294967296) × (q ≡ p + length (bytes_of v)) × (drop p s ≡ bytes_of v ++ drop q s)
  same_bytes v q e =
      let r = same_from 5 0 0 v q e in
      let here : p + 0 ≡ p = omega arith in
      let it : v ≡ r.rest = r.value ∙ omega arith in
      (r.small, rw it (rw here at r.next), rw it (rw here at r.same))

-- The place behind a number is at most five bytes on.
reading-near : (s : List ℕ) (p k i low v q : ℕ) → reading s p k i low ≡ Ok (v, q) → q ≤ p + i + k
unfolding reading
reading-near s p zero i low v q e = clash (cc e)
reading-near s p (suc k) i low v q e = by (dec_lt (p + i) (length s)) (dec_lt (at s (p + i)) 128) (reading-near s p k (suc i) (low + 128 ^ i * (at s (p + i) - 128)) v q)
  where
    by : Dec (p + i < length s) → Dec (at s (p + i) < 128) → (reading s p k (suc i) (low + 128 ^ i * (at s (p + i) - 128)) ≡ Ok (v, q) → q ≤ p + suc i + k) → q ≤ p + i + suc k
    by (yes h) (yes l) ih = let is = whole_is p i (at s (p + i)) _ v q (sym (reading_last s p k i low h l) ∙ e) in omega (arith, is.1)
    by (yes h) (no l) ih = let near = ih (sym (reading_more s p k i low h (omega arith)) ∙ e) in omega arith
    by (no h) l ih = clash (cc (reading_ended s p k i low (omega arith), e))

pub number-near : (s : List ℕ) (p v q : ℕ) → number_at s p ≡ Ok (v, q) → q ≤ p + 5
number-near s p v q e = let near = reading-near s p 5 0 0 v q e in omega arith
