-- A part of a buffer that is lent on, in numbers and in the values that lie there.
use Rattle.std.specs.Prelude.{ℕ, ◌+◌, ◌-◌, ◌*◌, ◌/◌, ◌<◌, ◌≤◌, ◌≡◌, List, length, drop}
use Rattle.std.proofs.Common.{◌∙◌, arith, suc-mul, mul-le-mul_right, mul_left_comm, mul-le-mul_left, add-one, mul-add}
use Rattle.std.proofs.Math.Nat.{mul-div_cancel_left}
use lib.Seq.{length-take-le}
use lib.ListN.{length-drop}
use borrow.Rule.Slice.PartMut.{mid_of, put_mid, same_len_mid}
use Rattle.answer.specs.Lists.{holds_every}
use Rattle.answer.proofs.Parts.{mid_holds}
use Rattle.stages.specs.Laws.{held, PlacesLaws}

-- Of n places, `width` numbers each, k from place a on: the q numbers from number b on of L.
pub record Cut (width n a k L b q : ℕ) : Type 0 where
  pub long : L ≡ width * n
  pub room : a + k ≤ n
  pub start : b ≡ width * a
  pub size : q ≡ width * k

-- Block j of `stride` blocks of X places.
pub block_cut : {width stride X L L₀ : ℕ} (j : ℕ) → L ≡ L₀ → L₀ ≡ width * (stride * X) → j < stride → Cut width (stride * X) (j * X) X L (j * (L₀ / stride)) ((j + 1) * (L₀ / stride) - j * (L₀ / stride))
block_cut {width} {stride} {X} {L₀ = L} j same long h =
    let size : L / stride ≡ width * X = rw (long, mul_left_comm width stride X) (mul-div_cancel_left (width * X) (omega arith)) in
    let next : (j + 1) * X ≤ stride * X = mul-le-mul_right X (omega arith) in
    record {
      long = same ∙ long;
      room = omega (arith, suc-mul j X, rw add-one at next);
      start = rw size (mul_left_comm j width X);
      size = rw (add-one, suc-mul) (omega (arith, size));
    }

module _ {N V : Type 0} {width : ℕ} {values : List N → List V} (laws : PlacesLaws width values) (l : List N) {n a k b q : ℕ} (cut : Cut width n a k (length l) b q) where
  inside : b + q ≤ length l
  inside =
      let whole : width * (a + k) ≤ width * n = mul-le-mul_left width cut.room in
      rw (cut.start, cut.size, cut.long) (omega (arith, mul-add width a k))

  pub cut_long : length (mid_of b q l) ≡ width * k
  cut_long = length-take-le q (drop b l) (omega (arith, length-drop b l, inside)) ∙ cut.size

  pub cut_values : values (mid_of b q l) ≡ mid_of a k (values l)
  cut_values = rw (cut.start, cut.size) (laws.part l a k n cut.long cut.room)

  -- It has come back.
  module _ (part : List N) (same : length part ≡ length (mid_of b q l)) where
    pub back_values : values (put_mid b q l part) ≡ put_mid a k (values l) (values part)
    back_values = rw (cut.start, cut.size) (laws.back l part a k n cut.long cut.room (same ∙ cut_long))

    pub back_long : length (put_mid b q l part) ≡ length l
    back_long = same_len_mid b q l part same

  -- What holds of all values holds of the part's.
  pub cut_every : (z : V) (P : V → Type 0) → ((i : ℕ) → i < k → P (held z (values l) (a + i))) → P z → (p : ℕ) → P (held z (values (mid_of b q l)) p)
  cut_every z P each behind p =
      let room : a + k ≤ length (values l) = rw (laws.long l n cut.long) cut.room in
      rw cut_values (holds_every P (mid_holds z a k (values l) room) behind each p)
