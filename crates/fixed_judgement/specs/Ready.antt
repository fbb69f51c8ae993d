-- What it means that a call in fixed point answers 0: everything that it was lent is as document 01 asks.
use Rattle.std.specs.Prelude.{ℕ, suc, ◌+◌, ◌-◌, ◌/◌, ◌%◌, ◌^◌, ◌≤◌, ◌<◌, ◌≡◌, refl, Bool, true, false, cond, List, ltb, leb, eqb, ℤ, pos, negsuc, nat_abs, length}
use Rattle.std.proofs.Math.Bool.{and-eq-true_iff}
use Rattle.std.proofs.lemmas.Bool.{false≢true}
use Rattle.std.proofs.Common.{arith, ltb-true, leb-true, eqb-true, eq-eqb}
use Rattle.std.specs.Int.Signed.{mag}
use Rattle.answer.specs.Choice.{refuse, done, unless-done, judged-done}
use Rattle.answer.specs.Lengths.{log_of, power_permitted}
use Rattle.answer.proofs.Lengths.{permitted_log}
use Rattle.answer.specs.Lists.{holds_self, holds_every}
use Rattle.answer.proofs.Search.{nowhere_passed}
use Rattle.fourier.specs.Sizes.{two_halves}
use Rattle.points.specs.Interleaved.{number, point}
use Rattle.points.specs.Steps.{Sized, Turns}
use Rattle.tables.specs.Rules.{rule, Accepted, bad_pair, accepted_turns}
use Rattle.fixed_judgement.specs.Verdicts.{points_log, permitted_length, least, most, in_range, ranged, bad_sample, scratch_fits, offers, transform_verdict}

-- ---- the lengths

-- 2N numbers, N = 2^n, n from 1 to 12.
pub record Points (n l : ℕ) : Type 0 where
  pub some : 1 ≤ n
  pub few : n ≤ 12
  pub whole : l ≡ 2 ^ n + 2 ^ n

pub permitted_points : (l : ℕ) → permitted_length l ≡ true → Points (points_log l) l
unfolding points_log
permitted_points l e = go (eqb (l % 2) 0) refl e
  where
    go : (even : Bool) → eqb (l % 2) 0 ≡ even → ltb 0 (cond even (log_of (l / 2)) 0) ≡ true → Points (cond even (log_of (l / 2)) 0) l
    go true two h =
        let some = ltb-true 0 (log_of (l / 2)) h in
        let power = permitted_log (l / 2) some in
        record { some = some; few = power.1; whole = omega (arith, eqb-true (l % 2) 0 two, power.0) }
    go false two h = absurd (false≢true h)

pub power_points : (n : ℕ) → 1 ≤ n → n ≤ 12 → points_log (2 ^ n + 2 ^ n) ≡ n
unfolding points_log
power_points n some few =
    let half : (2 ^ n + 2 ^ n) / 2 ≡ 2 ^ n = omega arith in
    rw (eq-eqb ((2 ^ n + 2 ^ n) % 2) 0 (omega arith), half, power_permitted n some few)

-- ---- the samples

-- A number in the range is at most 32,768 in size.
range_size : (z : ℤ) → in_range z ≡ true → nat_abs z ≤ 32768
unfolding in_range
range_size (pos a) e = let h = leb-true a (mag most) e in omega arith
range_size (negsuc a) e = let h = leb-true a (mag least) ((and-eq-true_iff (leb a (mag least)) true).0 e).0 in omega arith

-- So are the parts of every point; behind the end they are 0.
samples-sized : (buf : List ℤ) → ((q : ℕ) → q < length buf → ranged buf q ≡ true) → (p : ℕ) → Sized 32768 (point buf p)
samples-sized buf h p = record { real = each (p + p); imaginary = each (suc (p + p)) }
  where
    each : (q : ℕ) → nat_abs (number buf q) ≤ 32768
    each = holds_every (λ z. nat_abs z ≤ 32768) (holds_self buf) (omega arith) (λ q l. range_size (number buf q) (h q l))

-- ---- 0

-- N = 2^n points whose parts are at most 32,768 in size, and an accepted table of N numbers.
pub record Ready (buf table : List ℤ) : Type 0 where
  pub points : Points (points_log (length buf)) (length buf)
  pub long : length table ≡ 2 ^ points_log (length buf)
  pub accepted : Accepted (length table / 2) (point table)
  pub sized : (p : ℕ) → Sized 32768 (point buf p)

pub transform_ready : (schedule : ℕ) (buf table : List ℤ) (scratch : ℕ) → (transform_verdict schedule buf table scratch).number ≡ 0 →
    (offers schedule ≡ true) × (Ready buf table) × (scratch_fits schedule scratch (length buf) ≡ true)
unfolding transform_verdict
transform_ready schedule buf table scratch zero =
    let offer = unless-done (offers schedule) (refuse 7) _ (omega arith) zero in
    let long = unless-done (permitted_length (length buf)) (refuse 1) _ (omega arith) offer.1 in
    let fits = unless-done (scratch_fits schedule scratch (length buf)) (refuse 6) _ (omega arith) long.1 in
    let size = unless-done (eqb (length table) (length buf / 2)) (refuse 3) _ (omega arith) fits.1 in
    let pairs = judged-done 4 (bad_pair table) _ (omega arith) size.1 in
    let samples = judged-done 5 (bad_sample buf) done (omega arith) pairs.1 in
    let points = permitted_points (length buf) long.0 in
    let half : length table ≡ length buf / 2 = eqb-true (length table) (length buf / 2) size.0 in (
      offer.0,
      record {
        points = points;
        long = omega (arith, points.whole);
        accepted = nowhere_passed (rule (length table / 2) (point table)) (suc (length table / 2)) pairs.0;
        sized = samples-sized buf (nowhere_passed (ranged buf) (length buf) samples.0).each;
      },
      fits.0,
    )

module _ {buf table : List ℤ} (r : Ready buf table) where
  -- The sizes of the table's pairs.
  pub table-turns : Turns (point table) (length table / 2)
  table-turns = accepted_turns (length table / 2) (point table) r.accepted

  -- The table's pair at every exponent.
  pub ready_turns : Turns (point table) (2 ^ (points_log (length buf) - 1))
  ready_turns =
      let half : length table / 2 ≡ 2 ^ (points_log (length buf) - 1) = omega (arith, r.long, two_halves (points_log (length buf)) r.points.some) in
      rw half at table-turns

-- A schedule that is offered.
pub offers_range : (schedule : ℕ) → offers schedule ≡ true → (1 ≤ schedule) × (schedule ≤ 3)
unfolding offers
offers_range schedule e = let both = (and-eq-true_iff (leb 1 schedule) (leb schedule 3)).0 e in (leb-true 1 schedule both.0, leb-true schedule 3 both.1)
