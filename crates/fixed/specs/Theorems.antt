-- What a caller can cite of the outcomes of the calls in fixed point. Those of accept and fill stand in `tables` and `sine`: a filled table is
-- accepted, `filled_accepted`, and a longer table's beginning is not, `beginning_refused`.
use Rattle.std.specs.Prelude.{ℕ, zero, suc, ◌+◌, ◌-◌, ◌/◌, ◌^◌, ◌<◌, ◌≤◌, ◌≡◌, refl, true, List, eqb, ℤ, length, take}
use Rattle.std.proofs.Common.{sym, ap, ◌∙◌, subst, ⊎_elim, arith, lt-ltb, eq-eqb}
use Rattle.std.proofs.lemmas.Bool.{false≢true}
use Rattle.answer.specs.declared.Answer.{Answer}
use Rattle.answer.specs.Choice.{refuse, refuse_at, done, judged_at, unless-done, done_left, unless_past, judged_past, judged_here, judged-number}
use Rattle.answer.specs.Lists.{length-tabulate}
use Rattle.answer.specs.Search.{Passed, FailsFirst}
use Rattle.answer.proofs.Search.{first_passed, at_failed}
use Rattle.fourier.specs.Array.{frequency}
use Rattle.fourier.specs.Embeddings.{straight}
use Rattle.fourier.specs.Leaves.{Leaves, agree}
use Rattle.fourier.proofs.Leaves.{leaves1, leaves2, leaves3}
use Rattle.fourier.specs.Reverse.{rev, rev_lt, rev-rev}
use Rattle.points.specs.declared.Point.{Point}
use Rattle.points.specs.Interleaved.{point, interleaved_by, point-interleaved}
use Rattle.points.specs.Rounding.{half_up, half_up_half}
use Rattle.points.specs.Steps.{rounded, unrounded, Sized}
use Rattle.points.specs.Distance.{Near, results_near}
use Rattle.points.specs.Growth.{results_sized}
use Rattle.tables.specs.Rules.{rule, Accepted, bad_pair}
use Rattle.sine.specs.Sine.{sine_table, sine_table-length}
use Rattle.sine.specs.Filling.{FillOutcome}
use Rattle.sine.proofs.Filled.{sine_table-done, filled}
use Rattle.sine.proofs.Beginnings.{beginning_bad, beginning_length}
use Rattle.fixed_judgement.specs.Verdicts.{points_log, permitted_length, ranged, bad_sample, scratch_fits, offers, transform_verdict, reverse_verdict}
use Rattle.fixed_work.specs.Works.{by_schedule}
use Rattle.fixed.specs.Outcomes.{transformed, TransformOutcome, reversed, ReverseOutcome}
use Rattle.fixed_judgement.specs.Ready.{Points, permitted_points, power_points, Ready, transform_ready, ready_turns, offers_range}

-- ---- the transform leaves what the schedule says, rounded

by_schedule_leaves : (schedule n : ℕ) → 1 ≤ schedule → schedule ≤ 3 → Leaves frequency n straight (rev n) (by_schedule schedule n)
unfolding by_schedule
by_schedule_leaves zero n low high = absurd (omega arith)
by_schedule_leaves (suc zero) n low high = leaves1 n
by_schedule_leaves (suc (suc zero)) n low high = leaves2 n
by_schedule_leaves (suc (suc (suc zero))) n low high = leaves3 n
by_schedule_leaves (suc (suc (suc (suc schedule)))) n low high = absurd (omega arith)

module _ {schedule : ℕ} {buf table scratch buf' scratch' : List ℤ} {answer : Answer} (outcome : TransformOutcome schedule buf table scratch answer buf' scratch') (passed : answer.number ≡ 0) where
  abbrev n : ℕ
  n = points_log (length buf)

  transform_judged : (offers schedule ≡ true) × (Ready buf table) × (scratch_fits schedule (length scratch) (length buf) ≡ true)
  transform_judged = transform_ready schedule buf table (length scratch) (rw outcome.answers at passed)

  transform_leaves : Leaves frequency n straight (rev n) (by_schedule schedule n)
  transform_leaves = let range = offers_range schedule transform_judged.0 in by_schedule_leaves schedule n range.0 range.1

  transform_left : buf' ≡ transformed schedule buf table
  transform_left = outcome.leaves ∙ done_left (transform_verdict schedule buf table (length scratch)) _ buf (rw outcome.answers at passed)

  transform_length : length buf' ≡ 2 ^ n + 2 ^ n
  transform_length = ap length transform_left ∙ length-tabulate (2 ^ n + 2 ^ n) _

  pub transform_point : (p : ℕ) → p < 2 ^ n → point buf' p ≡ by_schedule schedule n Point (rounded half_up (point table)) (point buf) p
  transform_point p h = ap (λ l. point l p) transform_left ∙ point-interleaved (2 ^ n) _ p h

  -- "The distance |2^(15n) R - U| is at most e(n)", R a part of what is left and U of what the same schedule gives without rounding.
  pub transform_near : (p : ℕ) → p < 2 ^ n → Near n (point buf' p) (by_schedule schedule n Point (unrounded (point table)) (point buf) p)
  transform_near p h =
      subst (λ r. Near n r (by_schedule schedule n Point (unrounded (point table)) (point buf) p)) (sym (transform_point p h))
      (results_near half_up_half transform_leaves (ready_turns transform_judged.1) (point buf) p h)

  -- Every part of every result is at most 2^22 in size.
  pub transform_sized : (p : ℕ) → p < 2 ^ n → Sized (2 ^ 22) (point buf' p)
  transform_sized p h =
      let r = transform_judged.1 in
      rw (transform_point p h) (results_sized half_up_half r.points.few transform_leaves (ready_turns r) (point buf) (λ q l. r.sized q) p h)

-- Two transforms of the same buffer, with the same table, leave the same numbers: schedules 1, 2 and 3 agree.
pub transform_agree : {s s' : ℕ} {buf table scratch scratch₂ x x' y y' : List ℤ} {a b : Answer} →
    TransformOutcome s buf table scratch a x x' → a.number ≡ 0 → TransformOutcome s' buf table scratch₂ b y y' → b.number ≡ 0 → x ≡ y
transform_agree {buf = buf} {table} {x = x} one passed two passed₂ =
    interleaved_by x _ _ (transform_length one passed)
    (λ p h. transform_point one passed p h ∙ agree (transform_leaves one passed) (transform_leaves two passed₂) Point (rounded half_up (point table)) (point buf) (point buf) (λ i l. refl) p h)
    ∙ sym (transform_left two passed₂)

-- ---- the reversal undoes itself

module _ {buf buf' : List ℤ} {answer : Answer} (outcome : ReverseOutcome buf answer buf') (passed : answer.number ≡ 0) where
  reverse-points : Points (points_log (length buf)) (length buf)
  unfolding reverse_verdict
  reverse-points = permitted_points (length buf) (unless-done (permitted_length (length buf)) (refuse 1) done (omega arith) (rw outcome.answers at passed)).0

  reverse_left : buf' ≡ reversed buf
  reverse_left = outcome.leaves ∙ done_left (reverse_verdict buf) _ buf (rw outcome.answers at passed)

  reverse-length : length buf' ≡ length buf
  reverse-length = ap length reverse_left ∙ length-tabulate _ _ ∙ sym reverse-points.whole

  pub reverse-point : (p : ℕ) → p < 2 ^ points_log (length buf) → point buf' p ≡ point buf (rev (points_log (length buf)) p)
  reverse-point p h = ap (λ l. point l p) reverse_left ∙ point-interleaved (2 ^ points_log (length buf)) _ p h

pub reverse-reverse : {buf buf' buf'' : List ℤ} {a b : Answer} → ReverseOutcome buf a buf' → a.number ≡ 0 → ReverseOutcome buf' b buf'' → b.number ≡ 0 → buf'' ≡ buf
reverse-reverse {buf} {buf'} {buf''} there passed back passed₂ =
    let n = points_log (length buf) in
    let same = ap points_log (reverse-length there passed) in
    reverse_left back passed₂
    ∙ sym (interleaved_by buf (2 ^ points_log (length buf')) _ (rw same (reverse-points there passed).whole)
    (λ p h. let k : p < 2 ^ n = rw same at h in rw same (sym (reverse-point there passed (rev n p) (rev_lt n p) ∙ ap (point buf) (rev-rev n p k)))))

-- ---- the place of a refusal 4 or 5 is the first at which a rule fails

module _ {schedule : ℕ} {buf table scratch buf' scratch' : List ℤ} where
  transform_past : {answer : Answer} → TransformOutcome schedule buf table scratch answer buf' scratch' → 4 ≤ answer.number → answer.number ≤ 5 →
      judged_at 4 (bad_pair table) (judged_at 5 (bad_sample buf) done) ≡ answer
  unfolding transform_verdict
  transform_past outcome low high =
      unless_past (eqb (length table) (length buf / 2)) (refuse 3) _ (λ z. omega arith)
      (unless_past (scratch_fits schedule (length scratch) (length buf)) (refuse 6) _ (λ z. omega arith)
      (unless_past (permitted_length (length buf)) (refuse 1) _ (λ z. omega arith)
      (unless_past (offers schedule) (refuse 7) _ (λ z. omega arith) (sym outcome.answers))))

  pub transform_pair : {p : ℕ} → TransformOutcome schedule buf table scratch (refuse_at 4 p) buf' scratch' → FailsFirst (rule (length table / 2) (point table)) (suc (length table / 2)) p
  transform_pair {p} outcome =
      at_failed (rule (length table / 2) (point table)) (suc (length table / 2)) p
      (judged_here 4 (bad_pair table) _ p (λ z. ⊎_elim (λ a. omega arith) (λ a. let k = ap (λ (b : Answer). b.number) a in omega arith) (judged-number 5 (bad_sample buf) done))
      (transform_past outcome (omega arith) (omega arith)))

  pub transform_sample : {p : ℕ} → TransformOutcome schedule buf table scratch (refuse_at 5 p) buf' scratch' → FailsFirst (ranged buf) (length buf) p
  transform_sample {p} outcome =
      at_failed (ranged buf) (length buf) p
      (judged_here 5 (bad_sample buf) done p (λ z. omega arith) (judged_past 4 (bad_pair table) _ (λ z. omega arith) (transform_past outcome (omega arith) (omega arith))))

-- ---- nothing else is refused

length_permitted : (n : ℕ) → 1 ≤ n → n ≤ 12 → {l : ℕ} → l ≡ 2 ^ n + 2 ^ n → permitted_length l ≡ true
length_permitted n some few e = rw (e, power_points n some few) (lt-ltb 0 n some)

-- With an accepted table whatever lies in the range is transformed.
pub transform_done : (n : ℕ) → 1 ≤ n → n ≤ 12 → {schedule : ℕ} {buf table scratch buf' scratch' : List ℤ} {answer : Answer} →
    offers schedule ≡ true → length buf ≡ 2 ^ n + 2 ^ n → scratch_fits schedule (length scratch) (length buf) ≡ true →
    length table ≡ 2 ^ n → Accepted (length table / 2) (point table) → Passed (ranged buf) (length buf) →
    TransformOutcome schedule buf table scratch answer buf' scratch' → answer ≡ done
unfolding transform_verdict
transform_done n some few {schedule} {buf} {table} {scratch} offer long fits size accepted samples outcome =
    let half : length table ≡ length buf / 2 = omega arith in
    outcome.answers ∙ rw (offer, length_permitted n some few long, fits, eq-eqb (length table) (length buf / 2) half, first_passed accepted, first_passed samples)

-- ---- our own tables

-- With a table that was filled the transform is never refused 4.
pub transform_filled : {schedule p : ℕ} {before buf table scratch buf' scratch' : List ℤ} {a : Answer} → FillOutcome before a table → a.number ≡ 0 →
    TransformOutcome schedule buf table scratch (refuse_at 4 p) buf' scratch' → ⊥
transform_filled {p = p} fill passed outcome = let first = transform_pair outcome in false≢true (sym first.fails ∙ (filled fill passed).accepted.each p first.within)

-- With our own table whatever lies in the range is transformed.
pub transform_own : (n : ℕ) → 1 ≤ n → n ≤ 12 → {schedule : ℕ} {buf scratch buf' scratch' : List ℤ} {answer : Answer} →
    offers schedule ≡ true → length buf ≡ 2 ^ n + 2 ^ n → scratch_fits schedule (length scratch) (length buf) ≡ true → Passed (ranged buf) (length buf) →
    TransformOutcome schedule buf (sine_table n) scratch answer buf' scratch' → answer ≡ done
transform_own n some few offer long fits samples outcome =
    transform_done n some few offer long fits (sine_table-length n some) (sine_table-done n some few).accepted samples outcome

-- A longer table of our own whose beginning is taken for the table for N', N' at least 4: whatever the data, 4 at place N'/2.
pub transform_beginning : (n n' : ℕ) → 2 ≤ n' → n' < n → n ≤ 12 → {schedule : ℕ} {buf scratch buf' scratch' : List ℤ} {answer : Answer} →
    offers schedule ≡ true → length buf ≡ 2 ^ n' + 2 ^ n' → scratch_fits schedule (length scratch) (length buf) ≡ true →
    TransformOutcome schedule buf (take (2 ^ n') (sine_table n)) scratch answer buf' scratch' → answer ≡ refuse_at 4 (2 ^ (n' - 1))
unfolding transform_verdict
transform_beginning n n' two less few {schedule} {buf} {scratch} offer long fits outcome =
    let table = take (2 ^ n') (sine_table n) in
    let some : 1 ≤ n' = omega arith in
    let size : length table ≡ length buf / 2 = omega (arith, beginning_length n n' two less few) in
    outcome.answers ∙ rw (offer, length_permitted n' some (omega arith) long, fits, eq-eqb (length table) (length buf / 2) size, beginning_bad n n' two less few)
