-- A block pair by pair, and a stage block by block, as loops over lists do them.
use Prim.Native.Nat.{ℕ, ◌+◌, ◌*◌, ◌<◌, ◌≤◌}
use mathlib.Core.Path.{◌≡◌, sym, ap, ◌∙◌}
use mathlib.Core.List.{List}
use native.Mathlib.Nat.{lt_of_lt_of_le, mul-lt-mul_of_pos_left}
use native.Mathlib.Omega.{arith}
use lib.ListN.{length, get_or, set}
use borrow.Rule.Slice.PartMut.{mid_of, put_mid}
use Rattle.answer.specs.Lists.{tabulate, Holds}
use Rattle.answer.proofs.Lists.{holds}
use Rattle.answer.proofs.Pairs.{Paired, paired_next}
use Rattle.answer.proofs.Writes.{Written}
use Rattle.answer.proofs.Parts.{mid_holds, written_part}
use Rattle.fourier.specs.Schedules.{Wing, Buffer, butterfly, step}
use Rattle.fourier.specs.Blocks.{block_low, block_high, block_shift}

-- An exponent of a block lies in the table.
pub exponent_below : {stride i h k : ℕ} → 1 ≤ stride → i < h → stride * h ≤ k → stride * i < k
exponent_below some l room = lt_of_lt_of_le (mul-lt-mul_of_pos_left l some) room

-- For any carrier and step; z is what is read behind a list's end.
module _ {C : Type 0} {z : C} (w : Wing C) (stride h : ℕ) where
  pub block_next : {l : List C} {i : ℕ} {x y : C} {f : Buffer C} → Paired z l h i (step w (butterfly stride h) f) f → i < h →
      x ≡ w 0 (stride * i) (get_or l i z) (get_or l (i + h) z) → y ≡ w 1 (stride * i) (get_or l i z) (get_or l (i + h) z) →
      Paired z (set (set l i x) (i + h) y) h (i + 1) (step w (butterfly stride h) f) f
  block_next {l} {i} {f = f} r g ex ey =
      let old = r.left i g (omega arith) in
      paired_next r g (ex ∙ rw (old.low, old.high) (sym (block_low w stride h f i g))) (ey ∙ rw (old.low, old.high) (sym (block_high w stride h f i g)))

  -- Block j is written.
  pub stage_next : {l part : List C} {n a b : ℕ} {f : Buffer C} → Written z l n a (step w (butterfly stride h) f) f → (j k : ℕ) → a ≡ j * (h + h) → k ≡ h + h → a + k ≤ n → b ≡ a + k →
      part ≡ tabulate (h + h) (step w (butterfly stride h) (λ p. get_or (mid_of a k l) p z)) → Written z (put_mid a k l part) n b (step w (butterfly stride h) f) f
  stage_next {l} {part} {n} {a} {f = f} r j k ea ek room eb e =
      let long : length l ≡ n = r.long in
      let mid = mid_holds z a k l (omega arith) in
      let same : (q : ℕ) → q < h + h → get_or (mid_of a k l) q z ≡ f (j * (h + h) + q) =
      (λ q g. mid.here q (omega arith) ∙ r.left (a + q) (omega arith) (omega arith) ∙ ap (λ o. f (o + q)) ea) in
      let held : Holds z part (h + h) (step w (butterfly stride h) (λ p. get_or (mid_of a k l) p z)) = holds e in
      let wrote : Holds z part k (λ p. step w (butterfly stride h) f (a + p)) = record {
        long = held.long ∙ sym ek;
        here = λ p g. held.here p (omega arith) ∙ block_shift w stride h j (λ q. get_or (mid_of a k l) q z) f same p (omega arith) ∙ ap (λ o. step w (butterfly stride h) f (o + p)) (sym ea);
      } in
      rw eb (written_part r k room wrote)
