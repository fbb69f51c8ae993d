-- A text that is written piece by piece from its end.
use Prim.Native.Nat.{ℕ, suc, ◌+◌, ◌-◌, ◌*◌, ◌/◌, ◌%◌, ◌<◌, ◌≤◌}
use mathlib.Core.Path.{◌≡◌, sym, ap, ◌∙◌}
use mathlib.Core.List.{List, [], ◌∷◌, ◌++◌, append_assoc, append-nil}
use native.Mathlib.Nat.{le_refl}
use native.Mathlib.Omega.{arith}
use lib.ListN.{length, set, take, drop, length-append, length-drop, take-append-drop}
use lib.Seq.{set_split, length-take-le, take-take, take-append-le, drop_at, take_at}
use Rattle.std.proofs.lemmas.List.{nil_from_length}
use Rattle.std.proofs.Common.{Result, Ok, Err}
use Rattle.std.specs.Result.{result_unwrap_or}
use Rattle.answer.specs.declared.Refusal.{Refusal}
use Rattle.answer.specs.Choice.{answered}
use Rattle.reading.specs.Requests.{printed}
use Rattle.request.specs.Outcomes.{RequestOutcome}
use Rattle.reading.specs.Theorems.{results_few}
use Rattle.reading.proofs.Steps.{sets_front}
use Rattle.line.specs.Lines.{decimal, spaced, line, decimal-one, decimal_more, decimal_few}
use Rattle.line.specs.Outcomes.{Stands}

-- ---- pieces

pub put_none : (p : ℕ) (out : List ℕ) → Stands [] p out p out
put_none p out = record { starts = omega arith; leaves = rw append-nil (sym (take-append-drop p out)) }

pub put_byte : (byte q : ℕ) (out : List ℕ) → q < length out → Stands (byte ∷ []) (suc q) out q (set out q byte)
put_byte byte q out h = record { starts = omega arith; leaves = set_split out q byte h ∙ sym (append_assoc (take q out) (byte ∷ []) (drop (suc q) out)) }

module _ {text : List ℕ} {p q : ℕ} {out out' : List ℕ} (r : Stands text p out q out') (h : p ≤ length out) where
  front : length (take q out) ≡ q
  front = length-take-le q out (omega (arith, r.starts))

  pub put-length : length out' ≡ length out
  put-length =
      ap length r.leaves ∙ length-append (take q out ++ text) (drop p out)
      ∙ omega (arith, length-append (take q out) text, front, length-drop p out, r.starts)

  -- A piece in front of another.
  pub put-put : {more : List ℕ} {o : ℕ} {out'' : List ℕ} → Stands more q out' o out'' → Stands (more ++ text) p out o out''
  put-put {more} {o} s =
      let same : take o out' ≡ take o out = rw (r.leaves, append_assoc) (take-append-le o (take q out) (text ++ drop p out) (omega (arith, front, s.starts)) ∙ take-take o q out (omega (arith, s.starts))) in
      let rest : drop q out' ≡ text ++ drop p out = rw (r.leaves, append_assoc) (drop_at (take q out) (text ++ drop p out) q front) in
      record {
        starts = omega (arith, r.starts, s.starts, length-append more text);
        leaves = s.leaves ∙ rw (same, rest) (simp append_assoc);
      }

-- ---- a number in decimal

-- Of v, whose digits are to stand in front of p, those of rest are left to be written in front of q.
pub record Spelling (v p : ℕ) (out out' : List ℕ) (rest q : ℕ) : Type 0 where
  pub text : List ℕ
  pub put : Stands text p out q out'
  pub left : decimal rest ++ text ≡ decimal v
  pub small : rest < 18446744073709551616
  pub room : (20 ≤ p) × (p ≤ length out)

pub spelling_none : (v p : ℕ) (out : List ℕ) → v < 18446744073709551616 → 20 ≤ p → p ≤ length out → Spelling v p out out v p
spelling_none v p out small room h = record { text = []; put = put_none p out; left = append-nil (decimal v); small = small; room = (room, h) }

-- There is a place in front of q, and it lies in the buffer.
pub spelling_some : {v p : ℕ} {out out' : List ℕ} {rest q : ℕ} → Spelling v p out out' rest q → (q ≡ suc (q - 1)) × (q - 1 < length out')
spelling_some {v} {rest = rest} r =
    let few = decimal_few rest in
    let all = ap length r.left in
    let size = length-append (decimal rest) r.text in
    (omega (arith, r.put.starts, decimal_few v, r.room), omega (arith, r.put.starts, decimal_few v, r.room, put-length r.put r.room.1))

module _ {v p : ℕ} {out out' : List ℕ} {rest q : ℕ} (r : Spelling v p out out' rest q) where
  -- A digit in front of those that stand.
  digit : (d : ℕ) → Stands (d ∷ r.text) p out (q - 1) (set out' (q - 1) d)
  digit d = put-put r.put r.room.1 (rw (← (spelling_some r).0) at (put_byte d (q - 1) out' (spelling_some r).1))

  pub spelling_more : 10 ≤ rest → Spelling v p out (set out' (q - 1) (48 + rest % 10)) (rest / 10) (q - 1)
  spelling_more h =
      record {
        text = (48 + rest % 10) ∷ r.text;
        put = digit (48 + rest % 10);
        left = sym (append_assoc (decimal (rest / 10)) ((48 + rest % 10) ∷ []) r.text) ∙ rw (decimal_more rest h r.small) at r.left;
        small = omega (arith, r.small);
        room = r.room;
      }

  pub spelled : rest < 10 → Stands (decimal v) p out (q - 1) (set out' (q - 1) (48 + rest))
  spelled h = rw (rw (decimal-one rest h) at r.left) at (digit (48 + rest))

-- A space in front of it.
module _ (v : ℕ) {p q : ℕ} {out out' : List ℕ} (r : Stands (decimal v) p out q out') (low : 21 ≤ p) (high : p ≤ length out) where
  pub space_room : (q ≡ suc (q - 1)) × (q - 1 < length out')
  space_room = (omega (arith, r.starts, decimal_few v), omega (arith, r.starts, decimal_few v, put-length r high))

  pub put_space : Stands (32 ∷ decimal v) p out (q - 1) (set out' (q - 1) 32)
  put_space = put-put r high (rw (← space_room.0) at (put_byte 32 (q - 1) out' space_room.1))

-- ---- several numbers, with spaces

spaced_few : (l : List ℕ) → length (spaced l) ≤ 21 * length l
unfolding spaced
spaced_few [] = omega arith
spaced_few (v ∷ l) = omega (arith, decimal_few v, spaced_few l, length-append (decimal v) (spaced l))

-- The numbers behind those that are left are written in front of p.
pub record Listing (numbers : List ℕ) (p : ℕ) (out out' left : List ℕ) (q : ℕ) : Type 0 where
  pub written : List ℕ
  pub all : left ++ written ≡ numbers
  pub put : Stands (spaced written) p out q out'

pub listing_none : {numbers left : List ℕ} (p : ℕ) (out : List ℕ) → left ≡ numbers → Listing numbers p out out left p
unfolding spaced
listing_none {numbers} p out e = record { written = []; all = append-nil _ ∙ e; put = put_none p out }

module _ {numbers : List ℕ} {p : ℕ} {out out' left : List ℕ} {q : ℕ} (r : Listing numbers p out out' left q) (high : p ≤ length out) where
  -- There is room for those that are left.
  pub listing_room : 41 + 21 * length numbers ≤ p → (41 + 21 * length left ≤ q) × (q ≤ length out')
  listing_room h =
      let size = ap length r.all in
      let parts = length-append left r.written in
      (omega (arith, r.put.starts, spaced_few r.written), omega (arith, r.put.starts, put-length r.put high))

  pub listing_more : {front : List ℕ} (v : ℕ) {o : ℕ} {out'' : List ℕ} → left ≡ front ++ v ∷ [] → Stands (32 ∷ decimal v) q out' o out'' → Listing numbers p out out'' front o
  unfolding spaced
  listing_more {front} v e s =
      record { written = v ∷ r.written; all = sym (append_assoc front (v ∷ []) r.written) ∙ rw e at r.all; put = put-put r.put high s }

  pub listing_all : length left ≡ 0 → Stands (spaced numbers) p out q out'
  listing_all e = let none : left ≡ [] = nil_from_length left e in let all : r.written ≡ numbers = rw none at r.all in rw all at r.put

-- ---- the line

module _ (out l : List ℕ) (few : 42 + 21 * length l ≤ length out) where
  -- The newline at the end.
  newline : Stands (10 ∷ []) (length out) out (length out - 1) (set out (length out - 1) 10)
  newline = let e : suc (length out - 1) ≡ length out = omega arith in rw e at (put_byte 10 (length out - 1) out (omega arith))

  module _ {q : ℕ} {out₁ : List ℕ} (results : Stands (spaced l) (length out - 1) (set out (length out - 1) 10) q out₁) where
    behind : Stands (spaced l ++ 10 ∷ []) (length out) out q out₁
    behind = put-put newline (le_refl (length out)) results

    pub place_room : (21 ≤ q) × (q ≤ length out₁)
    place_room = (omega (arith, results.starts, spaced_few l), omega (arith, results.starts, put-length behind (le_refl (length out))))

    module _ (place : ℕ) {r : ℕ} {out₂ : List ℕ} (spelt : Stands (32 ∷ decimal place) q out₁ r out₂) where
      pub number-room : (20 ≤ r) × (r ≤ length out₂)
      number-room =
          (omega (arith, results.starts, spelt.starts, spaced_few l, decimal_few place), omega (arith, spelt.starts, place_room.1, put-length spelt place_room.1))

      pub put-line : (number : ℕ) {t : ℕ} {out₃ : List ℕ} → Stands (decimal number) r out₂ t out₃ →
          Stands (line (record { answer = record { number = number; place = place }; results = l })) (length out) out t out₃
      unfolding line spaced
      put-line number s =
          let all = put-put (put-put behind (le_refl (length out)) spelt) (le_refl (length out)) s in
          let text : decimal number ++ (32 ∷ decimal place ++ (spaced l ++ 10 ∷ [])) ≡ decimal number ++ (32 ∷ decimal place ++ spaced l) ++ 10 ∷ [] = simp append_assoc in
          rw text at all

-- ---- what a request leaves

module _ (input results results' : List ℕ) where
  -- The results are not many.
  pub results_fit : (reply : Result ℕ Refusal) → RequestOutcome input results reply results' → result_unwrap_or reply 0 ≤ 4096
  results_fit (Ok count) r = omega (arith, r.1, results_few input)
  results_fit (Err refusal) r = omega arith

  -- They are read back from the memory.
  pub results_read : (reply : Result ℕ Refusal) → 4096 ≡ length results → RequestOutcome input results reply results' →
      record { answer = answered reply; results = take (result_unwrap_or reply 0) results' } ≡ printed input
  results_read (Ok count) memory r =
      let fit : count ≤ length results = omega (arith, r.1, results_few input) in
      let front = r.2 ∙ sets_front results (printed input).results count (sym r.1) fit in
      let read = ap (take count) front ∙ take_at (printed input).results (drop count results) count (sym r.1) in
      λ i. record { answer = sym r.0 i; results = read i }
  results_read (Err refusal) memory r = sym r.0
