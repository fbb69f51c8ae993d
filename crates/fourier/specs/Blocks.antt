-- Stages as loops do them: in place, block after block, and in a block pair after pair; and stage after stage over a list. For any
-- carrier and step.
use Rattle.std.specs.Prelude.{ℕ, zero, suc, ◌+◌, ◌-◌, ◌*◌, ◌/◌, ◌%◌, ◌<◌, ◌≤◌, ◌≡◌, List, length, get_or}
use Rattle.std.proofs.Common.{◌∙◌, zero-mul, zero-add, mul-zero, suc-mul, mod-lt, not-suc-le-zero, mul-le-mul_right, div-add-mod', div-lt_iff_lt-mul, arith}
use Rattle.std.proofs.Math.Numerals.{add-one}
use Rattle.std.proofs.Math.Decide.{dec_lt}
use Rattle.answer.specs.Lists.{tabulate, Holds, holds_self}
use Rattle.answer.proofs.Lists.{listed, holds}
use Rattle.fourier.specs.Schedules.{Wing, Buffer, Stage, butterfly, shuffled, step, run}
use Rattle.fourier.specs.Sentences.{Receive, butterfly_receive, butterfly_shift}

-- The first block: places i and i + h.
pub first_block : (stride h i : ℕ) → i < h → Receive (butterfly stride h) i (i + h) (stride * i) i (i + h)
first_block stride h i l = rw (zero-mul, zero-add) at (butterfly_receive stride h 0 i l)

-- It reads no place outside it.
within_block : (stride h p : ℕ) → p < h + h → ((butterfly stride h p).first < h + h) × ((butterfly stride h p).second < h + h)
within_block stride h p l = by (dec_lt p h)
  where
    by : Dec (p < h) → ((butterfly stride h p).first < h + h) × ((butterfly stride h p).second < h + h)
    by (yes a) = rw (first_block stride h p a).sum (omega arith, omega arith)
    by (no a) =
        let i : p - h < h = omega arith in
        let place : p - h + h ≡ p = omega arith in
        rw (← place, (first_block stride h (p - h) i).difference) (omega arith, omega arith)

module _ {C : Type 0} (w : Wing C) (stride h : ℕ) where
  pub block_low : (d : Buffer C) (i : ℕ) → i < h → step w (butterfly stride h) d i ≡ w 0 (stride * i) (d i) (d (i + h))
  block_low d i l = rw (first_block stride h i l).sum

  pub block_high : (d : Buffer C) (i : ℕ) → i < h → step w (butterfly stride h) d (i + h) ≡ w 1 (stride * i) (d i) (d (i + h))
  block_high d i l = rw (first_block stride h i l).difference

  -- Block k by itself.
  pub block_shift : (k : ℕ) (part d : Buffer C) → ((q : ℕ) → q < h + h → part q ≡ d (k * (h + h) + q)) →
      (p : ℕ) → p < h + h → step w (butterfly stride h) part p ≡ step w (butterfly stride h) d (k * (h + h) + p)
  block_shift k part d same p l =
      let inside = within_block stride h p l in
      rw (butterfly_shift stride h k p (omega arith), same (butterfly stride h p).first inside.0, same (butterfly stride h p).second inside.1)

-- ---- stage after stage

-- The stage makes the first N places from the first N places.
pub record Within (σ : Stage) (N : ℕ) : Type 0 where
  pub first : (p : ℕ) → p < N → (σ p).first < N
  pub second : (p : ℕ) → p < N → (σ p).second < N

pub butterfly_within : (stride h k : ℕ) → Within (butterfly stride h) (k * (h + h))
butterfly_within stride h k = record { first = λ p l. (inside p l).0; second = λ p l. (inside p l).1 }
  where
    inside : (p : ℕ) → p < k * (h + h) → ((butterfly stride h p).first < k * (h + h)) × ((butterfly stride h p).second < k * (h + h))
    inside p l =
        let pos : 0 < h + h = positive (h + h) l in
        let j = p / (h + h) in
        let q = p % (h + h) in
        let block = within_block stride h q (mod-lt p pos) in
        let room : suc j * (h + h) ≤ k * (h + h) = mul-le-mul_right (h + h) ((div-lt_iff_lt-mul pos).1 l) in
        rw (← div-add-mod' p (h + h), butterfly_shift stride h j q (omega arith)) (omega (arith, suc-mul j (h + h)), omega (arith, suc-mul j (h + h)))
      where
        positive : (r : ℕ) → p < k * r → 0 < r
        positive zero g = absurd (not-suc-le-zero (rw (mul-zero k) at g))
        positive (suc r) g = omega arith

pub shuffled_within : (half : ℕ) (e : ℕ → ℕ) → Within (shuffled half e) (half + half)
unfolding shuffled
shuffled_within half e = record { first = λ p l. omega arith; second = λ p l. omega arith }

-- The list holds what the run of σ on f has after s stages.
pub record Ran {C : Type 0} (z : C) (w : Wing C) (σ : ℕ → Stage) (N : ℕ) (f : Buffer C) (s : ℕ) (l : List C) : Type 0 where
  pub held : Holds z l N (run w σ s f)

module _ {C : Type 0} {z : C} {w : Wing C} {σ : ℕ → Stage} where
  pub ran_none : (l : List C) → Ran z w σ (length l) (λ p. get_or l p z) 0 l
  unfolding run
  ran_none l = record { held = holds_self l }

  -- Stage s is done to it.
  pub ran_next : {N : ℕ} {f : Buffer C} {s : ℕ} {l l' : List C} → Ran z w σ N f s l → Within (σ s) N → l' ≡ tabulate (length l) (step w (σ s) (λ p. get_or l p z)) → Ran z w σ N f (s + 1) l'
  unfolding run
  ran_next {s = s} ran within e =
      let long = ran.held.long in
      let new = holds {d = z} e in
      rw add-one (record {
        held = record {
          long = new.long ∙ long;
          here = λ p h. new.here p (omega arith) ∙ rw (ran.held.here (σ s p).first (within.first p h), ran.held.here (σ s p).second (within.second p h));
        };
      })

  -- All n stages are done.
  pub ran_all : {N : ℕ} {f : Buffer C} {s : ℕ} {l : List C} (n : ℕ) → Ran z w σ N f s l → s ≡ n → l ≡ tabulate N (run w σ n f)
  ran_all n ran e = rw e at (listed ran.held)
