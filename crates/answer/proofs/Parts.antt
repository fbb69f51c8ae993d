-- A part of a list that is lent on: what it holds, and the list when it has come back.
use Prim.Native.Nat.{ℕ, ◌+◌, ◌-◌, ◌<◌, ◌≤◌}
use mathlib.Core.Path.{◌≡◌, sym, ap, ◌∙◌}
use mathlib.Core.List.{List, ◌++◌}
use native.Mathlib.Omega.{arith}
use lib.ListN.{length, get_or, take, drop, length-drop, get_or-append}
use lib.Seq.{get_or-take, get_or-drop, get_or-append-add, length-take-le}
use borrow.Rule.Slice.PartMut.{mid_of, post_of, put_mid, same_len_mid}
use Rattle.answer.specs.Lists.{Holds}
use Rattle.answer.proofs.Writes.{Written, written_more}

module _ {A : Type 0} (d : A) (a k : ℕ) (l : List A) (room : a + k ≤ length l) where
  mid_length : length (mid_of a k l) ≡ k
  mid_length = length-take-le k (drop a l) (omega (arith, length-drop a l))

  front_length : length (take a l) ≡ a
  front_length = length-take-le a l (omega arith)

  -- The k entries from place a on.
  pub mid_holds : Holds d (mid_of a k l) k (λ p. get_or l (a + p) d)
  mid_holds = record { long = mid_length; here = λ p h. get_or-take k (drop a l) p d h ∙ get_or-drop a l p d }

  module _ (part : List A) (long : length part ≡ k) where
    pub put-length : length (put_mid a k l part) ≡ length l
    put-length = same_len_mid a k l part (long ∙ sym mid_length)

    pub put-before : (p : ℕ) → p < a → get_or (put_mid a k l part) p d ≡ get_or l p d
    put-before p h = get_or-append (take a l) (part ++ post_of a k l) d p (omega (arith, front_length)) ∙ get_or-take a l p d h

    from-part : (p : ℕ) → get_or (put_mid a k l part) (a + p) d ≡ get_or (part ++ post_of a k l) p d
    from-part p = ap (λ z. get_or (put_mid a k l part) (z + p) d) (sym front_length) ∙ get_or-append-add (take a l) (part ++ post_of a k l) p d

    pub put_inside : (p : ℕ) → p < k → get_or (put_mid a k l part) (a + p) d ≡ get_or part p d
    put_inside p h = from-part p ∙ get_or-append part (post_of a k l) d p (omega arith)

    pub put-behind : (p : ℕ) → a + k ≤ p → get_or (put_mid a k l part) p d ≡ get_or l p d
    put-behind p h =
        let whole : p ≡ a + (length part + (p - (a + k))) = omega arith in
        let same : a + (k + (p - (a + k))) ≡ p = omega arith in
        ap (λ z. get_or (put_mid a k l part) z d) whole ∙ from-part (length part + (p - (a + k))) ∙ get_or-append-add part (post_of a k l) (p - (a + k)) d
        ∙ get_or-drop k (drop a l) (p - (a + k)) d ∙ get_or-drop a l (k + (p - (a + k))) d ∙ ap (λ z. get_or l z d) same

-- A loop that lends on part after part, and has each written.
pub written_part : {A : Type 0} {d : A} {l : List A} {n a : ℕ} {new old : ℕ → A} → Written d l n a new old → (k : ℕ) → a + k ≤ n → {part : List A} → Holds d part k (λ p. new (a + p))
    → Written d (put_mid a k l part) n (a + k) new old
written_part {d = d} {l} {n} {a} {new} r k h {part} held =
    let e : length l ≡ n = r.long in
    let room : a + k ≤ length l = omega arith in
    written_more r (put-length d a k l room part held.long ∙ e) (omega arith)
    (λ p b c g. let whole : p ≡ a + (p - a) = omega arith in ap (λ z. get_or (put_mid a k l part) z d) whole ∙ put_inside d a k l room part held.long (p - a) (omega arith) ∙ held.here (p - a) (omega arith) ∙ ap new (sym whole))
    (λ p b. put-before d a k l room part held.long p b)
    (λ p b c. put-behind d a k l room part held.long p c)
