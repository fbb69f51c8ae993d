-- What it means that a call over residues answers 0: everything that it was lent is as document 01 asks.
use Rattle.std.specs.Prelude.{ℕ, suc, ◌-◌, ◌/◌, ◌^◌, ◌≤◌, ◌<◌, ◌≡◌, true, List, length, ltb, leb, eqb}
use Rattle.std.proofs.Math.Bool.{and-eq-true_iff}
use Rattle.std.proofs.Common.{arith, ltb-true, leb-true, eqb-true}
use Rattle.answer.specs.Choice.{refuse, done, unless-done, judged-done}
use Rattle.answer.proofs.Search.{nowhere_passed}
use Rattle.answer.specs.Lengths.{log_of}
use Rattle.answer.proofs.Lengths.{permitted_log, permitted_range}
use Rattle.answer.specs.Lists.{at}
use Rattle.fourier.specs.Sizes.{two_halves}
use Rattle.fourier.specs.Table.{rule, Accepted}
use Rattle.residues.specs.Moduli.{permits, permits_permitted}
use Rattle.residues.specs.Judgement.{Judged, bad_entry, bad_sample, accepted_below, nowhere_below}
use Rattle.modular_judgement.specs.Verdicts.{permitted_length, scratch_fits, lent_verdict, rest_verdict, offers, transform_verdict, offers_stage, stage_verdict, inverse_verdict}

-- N = 2^n data below m, and an accepted table of N/2 entries.
pub record Ready (buf : List ℕ) (m : ℕ) (table : List ℕ) : Type 0 where
  pub judged : Judged m table buf
  pub accepted : Accepted m (length table) (at table)
  pub some : 1 ≤ log_of (length buf)
  pub whole : length buf ≡ 2 ^ log_of (length buf)
  pub half : length table ≡ 2 ^ (log_of (length buf) - 1)

pub rest_ready : (schedule : ℕ) (buf : List ℕ) (m : ℕ) (table : List ℕ) (scratch : ℕ) → permitted_length (length buf) ≡ true → (rest_verdict schedule buf m table scratch).number ≡ 0 →
    Ready buf m table × (scratch_fits schedule scratch (length buf) ≡ true)
unfolding rest_verdict lent_verdict
rest_ready schedule buf m table scratch long zero =
    let modulus = unless-done (permits m) (refuse 2) _ (omega arith) zero in
    let fits = unless-done (scratch_fits schedule scratch (length buf)) (refuse 6) _ (omega arith) modulus.1 in
    let size = unless-done (eqb (length table) (length buf / 2)) (refuse 3) _ (omega arith) fits.1 in
    let entries = judged-done 4 (bad_entry m table) _ (omega arith) size.1 in
    let samples = judged-done 5 (bad_sample m buf) done (omega arith) entries.1 in
    let permitted = permits_permitted m modulus.0 in
    let some : 1 ≤ log_of (length buf) = ltb-true 0 (log_of (length buf)) long in
    let power = permitted_log (length buf) some in
    let range = permitted_range (length buf) some in
    let halves = two_halves (log_of (length buf)) some in
    let half : length table ≡ length buf / 2 = eqb-true (length table) (length buf / 2) size.0 in
    let accepted : Accepted m (length table) (at table) = nowhere_passed (rule m (length table) (at table)) (suc (length table)) entries.0 in
    let pos : 0 < m = omega arith in (
      record {
        judged = record { modulus = permitted; entries = accepted_below m table pos accepted; values = nowhere_below m buf pos samples.0; small = omega arith };
        accepted = accepted;
        some = some;
        whole = power.0;
        half = omega arith;
      },
      fits.0,
    )

pub transform_ready : (schedule : ℕ) (buf : List ℕ) (m : ℕ) (table : List ℕ) (scratch : ℕ) → (transform_verdict schedule buf m table scratch).number ≡ 0 →
    (offers schedule ≡ true) × (Ready buf m table) × (scratch_fits schedule scratch (length buf) ≡ true)
unfolding transform_verdict
transform_ready schedule buf m table scratch zero =
    let offer = unless-done (offers schedule) (refuse 7) _ (omega arith) zero in
    let long = unless-done (permitted_length (length buf)) (refuse 1) _ (omega arith) offer.1 in
    let rest = rest_ready schedule buf m table scratch long.0 long.1 in
    (offer.0, rest.0, rest.1)

pub stage_ready : (schedule s : ℕ) (buf : List ℕ) (m : ℕ) (table : List ℕ) (scratch : ℕ) → (stage_verdict schedule s buf m table scratch).number ≡ 0 →
    (offers_stage schedule ≡ true) × (s < log_of (length buf)) × (Ready buf m table) × (scratch_fits schedule scratch (length buf) ≡ true)
unfolding stage_verdict
stage_ready schedule s buf m table scratch zero =
    let offer = unless-done (offers_stage schedule) (refuse 7) _ (omega arith) zero in
    let long = unless-done (permitted_length (length buf)) (refuse 1) _ (omega arith) offer.1 in
    let below = unless-done (ltb s (log_of (length buf))) (refuse 8) _ (omega arith) long.1 in
    let rest = rest_ready schedule buf m table scratch long.0 below.1 in
    (offer.0, ltb-true s (log_of (length buf)) below.0, rest.0, rest.1)

pub inverse_ready : (buf : List ℕ) (m : ℕ) (table : List ℕ) → (inverse_verdict buf m table).number ≡ 0 → Ready buf m table
unfolding inverse_verdict rest_verdict scratch_fits
inverse_ready buf m table zero =
    let long = unless-done (permitted_length (length buf)) (refuse 1) _ (omega arith) zero in
    (rest_ready 1 buf m table 0 long.0 long.1).0

-- A schedule that is offered.
pub offers_range : (schedule : ℕ) → offers schedule ≡ true → (1 ≤ schedule) × (schedule ≤ 5)
unfolding offers
offers_range schedule e = let both = (and-eq-true_iff (leb 1 schedule) (leb schedule 5)).0 e in (leb-true 1 schedule both.0, leb-true schedule 5 both.1)

pub offers_stage_range : (schedule : ℕ) → offers_stage schedule ≡ true → (1 ≤ schedule) × (schedule ≤ 2)
unfolding offers_stage
offers_stage_range schedule e = let both = (and-eq-true_iff (leb 1 schedule) (leb schedule 2)).0 e in (leb-true 1 schedule both.0, leb-true schedule 2 both.1)
