-- A stage by shuffle pair by pair, and stage after stage, as loops over lists do them.
use Prim.Native.Nat.{ℕ, ◌+◌, ◌*◌, ◌<◌}
use mathlib.Core.Path.{◌≡◌, sym, ◌∙◌}
use mathlib.Core.List.{List}
use native.Mathlib.Nat.{add-zero}
use native.Mathlib.Omega.{arith}
use lib.ListN.{set}
use Rattle.answer.proofs.Writes.{Written, written_next}
use Rattle.fourier.specs.Schedules.{Wing, Buffer, shuffled, step}
use Rattle.fourier.proofs.Sentences.{shuffled-pair}

module _ {C : Type 0} (w : Wing C) (half : ℕ) (e : ℕ → ℕ) (d : Buffer C) where
  -- What places 2k and 2k + 1 receive.
  place : (k x : ℕ) → x < 2 → step w (shuffled half e) d (2 * k + x) ≡ w x (e k) (d k) (d (k + half))
  place k x h = rw (shuffled-pair half e k x h)

  -- Pair k is done, at the exponent i.
  pub pair_next : {z : C} {l : List C} {N k h i : ℕ} {x y : C} {f : Buffer C} → Written z l N (2 * k) (step w (shuffled half e) d) f → 2 * k + 1 < N → h ≡ half → i ≡ e k →
      x ≡ w 0 i (d k) (d (k + h)) → y ≡ w 1 i (d k) (d (k + h)) → Written z (set (set l (2 * k) x) (2 * k + 1) y) N (2 * (k + 1)) (step w (shuffled half e) d) f
  pair_next {k = k} r room eh ei ex ey =
      let low = rw add-zero at (place k 0 (omega arith)) in
      let next : 2 * k + 1 + 1 ≡ 2 * (k + 1) = omega arith in
      rw (← next) (written_next (written_next r (omega arith) (ex ∙ rw (eh, ei) (sym low))) room (ey ∙ rw (eh, ei) (sym (place k 1 (omega arith)))))
