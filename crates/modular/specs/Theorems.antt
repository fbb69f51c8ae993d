-- What a caller can cite of the outcomes of the calls over residues.
use Prim.Native.Nat.{ℕ, zero, suc, ◌-◌, ◌/◌, ◌%◌, ◌^◌, ◌<◌, ◌≤◌}
use Rattle.std.specs.Prelude.{◌≡◌, true, false, cond, List, length, ltb, eqb}
use Rattle.std.proofs.Math.Path.{refl}
use Rattle.std.proofs.Common.{sym, ap, ◌∙◌, ⊎_elim, mod-lt, arith, ltb-true, eq-eqb, ext_get_or}
use Rattle.answer.specs.declared.Answer.{Answer}
use Rattle.answer.specs.Choice.{refuse, refuse_at, done, unless-done, judged-done, done_left, unless_past, judged_past, judged_here, judged-number}
use Rattle.answer.specs.Search.{FailsFirst}
use Rattle.answer.proofs.Search.{first_passed, at_failed, nowhere_passed}
use Rattle.answer.specs.Lengths.{log_of, table_log}
use Rattle.answer.proofs.Lengths.{permitted_log}
use Rattle.answer.specs.Lists.{at, Holds}
use Rattle.answer.proofs.Lists.{get_or-tabulate, holds}
use Rattle.fourier.specs.Reverse.{rev, rev_lt, rev-rev}
use Rattle.fourier.specs.Schedules.{Buffer, Stage, columns, shuffle}
use Rattle.fourier.specs.Array.{frequency, Embeds, Embedded, stage_array}
use Rattle.fourier.specs.Embeddings.{straight, column_wise, row_wise, column_room, row_room}
use Rattle.fourier.proofs.Embeddings.{columns_embeds, shuffle_embeds}
use Rattle.fourier.specs.Table.{root, rule, Accepted}
use Rattle.fourier.proofs.Table.{root_power}
use Rattle.fourier.specs.Numbers.{fourier_mod, fourier_cong, frequency_mod, inverse_mod}
use Rattle.fourier.proofs.Numbers.{schedule1_sums, schedule2_sums, schedule3_sums, schedule4_sums, schedule5_sums, inverse_sums_mod, sums_inverse_mod}
use Rattle.residues.specs.Moduli.{Permitted, permits, permits_permitted, permitted_permits}
use Rattle.residues.specs.Judgement.{Below, below, bad_entry, bad_sample, entries_below, below_nowhere}
use Rattle.modular_judgement.specs.Verdicts.{permitted_length, scratch_fits, lent_verdict, rest_verdict, accept_verdict, offers, transform_verdict, offers_stage, stage_verdict, inverse_verdict, reverse_verdict}
use Rattle.modular_work.specs.Works.{by_schedule, stage_of}
use Rattle.modular.specs.Outcomes.{AcceptOutcome, TransformOutcome, StageOutcome, InverseOutcome, ReverseOutcome}
use Rattle.modular_judgement.specs.Ready.{Ready, transform_ready, offers_range, stage_ready, inverse_ready}

-- ---- accepted means that x^(N/2) is -1

pub accept_accepted : {m : ℕ} {table : List ℕ} {answer : Answer} → AcceptOutcome m table answer → answer.number ≡ 0 → Accepted m (length table) (at table)
unfolding accept_verdict
accept_accepted {m} {table} outcome passed =
    let modulus = unless-done (permits m) (refuse 2) _ (omega arith) (rw outcome.answers at passed) in
    let size = unless-done (ltb 0 (table_log (length table))) (refuse 3) _ (omega arith) modulus.1 in
    nowhere_passed (rule m (length table) (at table)) (suc (length table)) (judged-done 4 (bad_entry m table) done (omega arith) size.1).0

-- With a permitted modulus and length an accepted table is answered 0.
pub accepted_accept : (m : ℕ) (table : List ℕ) → Permitted m → ltb 0 (table_log (length table)) ≡ true → Accepted m (length table) (at table) → accept_verdict m table ≡ done
unfolding accept_verdict
accepted_accept m table permitted long accepted = rw (permitted_permits m permitted, long, first_passed accepted)

pub accepted_root : (m : ℕ) (table : List ℕ) → 0 < m → Accepted m (length table) (at table) → root m (length table) (at table) ^ length table % m ≡ m - 1
accepted_root m table pos accepted = root_power m (length table) pos (at table) accepted

-- With an accepted table, and samples below a permitted modulus, nothing is refused.
pub transform_done : {schedule m : ℕ} {buf table scratch buf' scratch' : List ℕ} {answer : Answer} →
    offers schedule ≡ true → permitted_length (length buf) ≡ true → Permitted m → scratch_fits schedule (length scratch) (length buf) ≡ true →
    length table ≡ length buf / 2 → Accepted m (length table) (at table) → Below m buf →
    TransformOutcome schedule buf m table scratch answer buf' scratch' → answer ≡ done
unfolding transform_verdict rest_verdict lent_verdict
transform_done {m = m} {buf = buf} {table = table} offer long permitted fits half accepted below outcome =
    outcome.answers ∙ rw (offer, long, permitted_permits m permitted, fits, eq-eqb (length table) (length buf / 2) half, first_passed accepted, below_nowhere m buf below)

-- ---- the transform leaves the Fourier sums, in the schedule's order

-- Where sample i stands, and which sum is left at place p: "schedule 4 takes samples in bit-reversed order and leaves f(j) at place j".
abbrev pub order : ℕ → ℕ → ℕ → ℕ
order schedule n i = cond (eqb schedule 4) (rev n i) i

abbrev pub index : ℕ → ℕ → ℕ → ℕ
index schedule n p = cond (eqb schedule 4) p (rev n p)

module _ (m n : ℕ) (pos : 0 < m) (t : ℕ → ℕ) (accepted : Accepted m (2 ^ (n - 1)) t) (A : Buffer ℕ) (small : (p : ℕ) → p < 2 ^ n → A p < m) (p : ℕ) (h : p < 2 ^ n) where
  by_schedule_sums : (schedule : ℕ) → 1 ≤ schedule → schedule ≤ 5 →
      by_schedule schedule n m (2 ^ (n - 1)) t A p ≡ fourier_mod m (root m (2 ^ (n - 1)) t) (2 ^ n) (λ i. A (order schedule n i)) (index schedule n p)
  unfolding by_schedule
  by_schedule_sums zero low high = absurd (omega arith)
  by_schedule_sums (suc zero) low high = schedule1_sums m pos n t accepted A small p h
  by_schedule_sums (suc (suc zero)) low high = schedule2_sums m pos n t accepted A small p h
  by_schedule_sums (suc (suc (suc zero))) low high = schedule3_sums m pos n t accepted A small p h
  by_schedule_sums (suc (suc (suc (suc zero)))) low high = schedule4_sums m pos n t accepted A small p h
  by_schedule_sums (suc (suc (suc (suc (suc zero))))) low high = schedule5_sums m pos n t accepted A small p h
  by_schedule_sums (suc (suc (suc (suc (suc (suc schedule)))))) low high = absurd (omega arith)

module _ {schedule m : ℕ} {buf table scratch buf' scratch' : List ℕ} {answer : Answer} (outcome : TransformOutcome schedule buf m table scratch answer buf' scratch') (passed : answer.number ≡ 0) where
  transform_judged : (offers schedule ≡ true) × (Ready buf m table) × (scratch_fits schedule (length scratch) (length buf) ≡ true)
  transform_judged = transform_ready schedule buf m table (length scratch) (rw outcome.answers at passed)

  transform_left : Holds 0 buf' (length buf) (by_schedule schedule (log_of (length buf)) m (length table) (at table) (at buf))
  transform_left = holds (outcome.leaves ∙ done_left (transform_verdict schedule buf m table (length scratch)) _ buf (rw outcome.answers at passed))

  transform_powers : (p : ℕ) → p < length buf →
      (let n = log_of (length buf) in at buf' p ≡ fourier_mod m (root m (length table) (at table)) (2 ^ n) (λ i. at buf (order schedule n i)) (index schedule n p))
  transform_powers p h =
      let r = transform_judged.1 in
      let n = log_of (length buf) in
      let pos : 0 < m = omega (arith, r.judged.modulus.least) in
      let accepted : Accepted m (2 ^ (n - 1)) (at table) = rw r.half at r.accepted in
      let range = offers_range schedule transform_judged.0 in
      transform_left.here p h ∙ rw r.half (by_schedule_sums m n pos (at table) accepted (at buf) (λ q l. r.judged.values.each q) p (rw (← r.whole) h) schedule range.0 range.1)

  pub transform_sums : (p : ℕ) → p < length buf →
      (let n = log_of (length buf) in at buf' p ≡ fourier_mod m (root m (length table) (at table)) (length buf) (λ i. at buf (order schedule n i)) (index schedule n p))
  transform_sums p h =
      let n = log_of (length buf) in
      transform_powers p h ∙ ap (λ N. fourier_mod m (root m (length table) (at table)) N (λ i. at buf (order schedule n i)) (index schedule n p)) (sym transform_judged.1.whole)

-- Two transforms of the same samples agree: those by 1, 2, 3 and 5 place by place, and by 4 through the reversal.
pub transform_agree : {s s' m : ℕ} {buf buf₂ table scratch scratch₂ x x' y y' : List ℕ} {a b : Answer} →
    TransformOutcome s buf m table scratch a x x' → a.number ≡ 0 → TransformOutcome s' buf₂ m table scratch₂ b y y' → b.number ≡ 0 → length buf ≡ length buf₂ →
    (let n = log_of (length buf) in ((i : ℕ) → i < length buf → at buf (order s n i) ≡ at buf₂ (order s' n i)) → (p q : ℕ) → p < length buf → q < length buf → index s n p ≡ index s' n q → at x p ≡ at y q)
transform_agree {s} {s'} {m} {buf} {buf₂} {table} one passed two passed₂ long same p q hp hq e =
    transform_sums one passed p hp ∙ fourier_cong m (root m (length table) (at table)) (length buf) (index s (log_of (length buf)) p) same
    ∙ rw (e, long) (sym (transform_sums two passed₂ q (rw (← long) hq)))

-- ---- the inverse gives back what schedules 1, 2, 3 and 5 transformed, and they what it inverted

module _ {m : ℕ} {buf table buf' : List ℕ} {answer : Answer} (outcome : InverseOutcome buf m table answer buf') (passed : answer.number ≡ 0) where
  inverse-judged : Ready buf m table
  inverse-judged = inverse_ready buf m table (rw outcome.answers at passed)

  inverse_left : Holds 0 buf' (length buf) (inverse_mod m (log_of (length buf)) (at table) (at buf))
  inverse_left = holds (outcome.leaves ∙ done_left (inverse_verdict buf m table) _ buf (rw outcome.answers at passed))

-- The inverse takes whatever a transform has left.
lent_again : (m : ℕ) (table buf buf' : List ℕ) → (lent_verdict m table buf).number ≡ 0 → length buf' ≡ length buf → Below m buf' → lent_verdict m table buf' ≡ done
unfolding lent_verdict
lent_again m table buf buf' passed long small =
    let size = unless-done (eqb (length table) (length buf / 2)) (refuse 3) _ (omega arith) passed in
    let entries = judged-done 4 (bad_entry m table) _ (omega arith) size.1 in
    rw (below_nowhere m buf' small, long, size.0, entries.0)

pub inverse-follows : {schedule m : ℕ} {buf table scratch buf' scratch' : List ℕ} {answer : Answer} → TransformOutcome schedule buf m table scratch answer buf' scratch' → answer.number ≡ 0 → inverse_verdict buf' m table ≡ done
unfolding inverse_verdict transform_verdict rest_verdict fourier_mod
inverse-follows {schedule} {m} {buf} {table} {scratch} {buf'} outcome passed =
    let offer = unless-done (offers schedule) (refuse 7) _ (omega arith) (rw outcome.answers at passed) in
    let long = unless-done (permitted_length (length buf)) (refuse 1) _ (omega arith) offer.1 in
    let modulus = unless-done (permits m) (refuse 2) _ (omega arith) long.1 in
    let fits = unless-done (scratch_fits schedule (length scratch) (length buf)) (refuse 6) _ (omega arith) modulus.1 in
    let same = (transform_left outcome passed).long in
    let pos : 0 < m = omega (arith, (permits_permitted m modulus.0).least) in
    let small : Below m buf' = entries_below pos (λ p h. rw (transform_powers outcome passed p (rw (← same) h)) (mod-lt _ pos)) in
    rw (same, long.0, modulus.0) (lent_again m table buf buf' fits.1 same small)

module _ {schedule m : ℕ} {buf table scratch buf' scratch' buf'' : List ℕ} {a b : Answer} (other : eqb schedule 4 ≡ false) where
  pub inverse_transform : TransformOutcome schedule buf m table scratch a buf' scratch' → a.number ≡ 0 → InverseOutcome buf' m table b buf'' → (b ≡ done) × (buf'' ≡ buf)
  inverse_transform there passed back =
      let again : b ≡ done = back.answers ∙ inverse-follows there passed in
      let passed₂ : b.number ≡ 0 = ap (λ (answer : Answer). answer.number) again in
      let r = (transform_judged there passed).1 in
      let n = log_of (length buf) in
      let pos : 0 < m = omega (arith, r.judged.modulus.least) in
      let long = (transform_left there passed).long in
      let left = rw long at (inverse_left back passed₂) in
      let accepted : Accepted m (2 ^ (n - 1)) (at table) = rw r.half at r.accepted in
      let sum : (q : ℕ) → q < 2 ^ n → at buf' q ≡ fourier_mod m (root m (2 ^ (n - 1)) (at table)) (2 ^ n) (at buf) (rev n q) =
      (λ q l. rw (other, r.half) at (transform_powers there passed q (rw r.whole l))) in (
        again,
        ext_get_or 0 buf'' buf left.long
            (λ p h. let k : p < length buf = omega (arith, left.long) in left.here p k ∙ inverse_sums_mod m pos n (at table) accepted r.judged.modulus.odd (at buf) (at buf') (λ q l. r.judged.values.each q) sum p (rw (← r.whole) k)),
      )

  pub transform_inverse : InverseOutcome buf m table a buf' → a.number ≡ 0 → TransformOutcome schedule buf' m table scratch b buf'' scratch' → b.number ≡ 0 → buf'' ≡ buf
  transform_inverse back passed there passed₂ =
      let r = inverse-judged back passed in
      let n = log_of (length buf) in
      let pos : 0 < m = omega (arith, r.judged.modulus.least) in
      let left = inverse_left back passed in
      let long = (transform_left there passed₂).long ∙ left.long in
      let accepted : Accepted m (2 ^ (n - 1)) (at table) = rw r.half at r.accepted in
      ext_get_or 0 buf'' buf long
      (λ p h.
      let k : p < length buf = omega (arith, long) in
      rw (other, left.long, r.half) at (transform_powers there passed₂ p (rw left.long k))
      ∙ fourier_cong m (root m (2 ^ (n - 1)) (at table)) (2 ^ n) (rev n p) (λ i l. left.here i (rw r.whole l))
      ∙ sums_inverse_mod m pos n (at table) accepted r.judged.modulus.odd (at buf) (λ q l. r.judged.values.each q) p (rw (← r.whole) k))

-- ---- the reversal undoes itself, and puts samples into the order that schedule 4 takes

module _ {buf buf' : List ℕ} {answer : Answer} (outcome : ReverseOutcome buf answer buf') (passed : answer.number ≡ 0) where
  reverse_long : permitted_length (length buf) ≡ true
  unfolding reverse_verdict
  reverse_long = (unless-done (permitted_length (length buf)) (refuse 1) done (omega arith) (rw outcome.answers at passed)).0

  reverse-whole : length buf ≡ 2 ^ log_of (length buf)
  reverse-whole = (permitted_log (length buf) (ltb-true 0 (log_of (length buf)) reverse_long)).0

  reverse_left : Holds 0 buf' (length buf) (λ p. at buf (rev (log_of (length buf)) p))
  reverse_left = holds (outcome.leaves ∙ done_left (reverse_verdict buf) _ buf (rw outcome.answers at passed))

  -- What stood at p stands at rev p.
  reverse-back : (p : ℕ) → p < length buf → at buf' (rev (log_of (length buf)) p) ≡ at buf p
  reverse-back p h =
      let n = log_of (length buf) in
      reverse_left.here (rev n p) (omega (arith, rev_lt n p, reverse-whole)) ∙ ap (at buf) (rev-rev n p (rw (← reverse-whole) h))

pub reverse-reverse : {buf buf' buf'' : List ℕ} {a b : Answer} → ReverseOutcome buf a buf' → a.number ≡ 0 → ReverseOutcome buf' b buf'' → b.number ≡ 0 → buf'' ≡ buf
reverse-reverse {buf} {buf'} {buf''} there passed back passed₂ =
    let long = (reverse_left there passed).long in
    let left = rw long at (reverse_left back passed₂) in
    ext_get_or 0 buf'' buf left.long (λ p h. let k : p < length buf = omega (arith, left.long) in left.here p k ∙ reverse-back there passed p k)

pub reverse_transform : {m : ℕ} {buf table scratch buf' scratch' buf'' : List ℕ} {a b : Answer} → ReverseOutcome buf a buf' → a.number ≡ 0 → TransformOutcome 4 buf' m table scratch b buf'' scratch' → b.number ≡ 0 →
    (p : ℕ) → p < length buf → at buf'' p ≡ fourier_mod m (root m (length table) (at table)) (length buf) (at buf) p
reverse_transform {m} {buf} {table} there passed after passed₂ p h =
    let long = (reverse_left there passed).long in
    rw long at (transform_sums after passed₂ p (rw long h))
    ∙ fourier_cong m (root m (length table) (at table)) (length buf) p (λ i l. reverse-back there passed i l)

-- ---- a single stage takes Dijkstra's array to the next: by columns for schedule 1, by rows for schedule 2

stage_embedded : {schedule s m : ℕ} {buf table scratch buf' scratch' : List ℕ} {answer : Answer} → StageOutcome schedule s buf m table scratch answer buf' scratch' → answer.number ≡ 0 →
    (let n = log_of (length buf) in let w = frequency_mod m (length table) (at table) in
    (place : ℕ → ℕ → ℕ → ℕ) (σ : ℕ → Stage) → Embeds frequency n straight place σ → stage_of schedule n s ≡ σ s →
    ((i j : ℕ) → s < n → i < 2 ^ (n - suc s) → j < 2 ^ suc s → place (suc s) i j < 2 ^ n) →
    (A : Buffer ℕ) → Embedded w frequency n A (place s) s (at buf) → Embedded w frequency n A (place (suc s)) (suc s) (at buf'))
stage_embedded {schedule} {s} {m} {buf} {table} {scratch} outcome passed place σ embeds same room A held =
    let v = rw outcome.answers at passed in
    let ready = stage_ready schedule s buf m table (length scratch) v in
    let n = log_of (length buf) in
    let w = frequency_mod m (length table) (at table) in
    let next = stage_array embeds w {A = A} s ready.1 held in
    let left = outcome.leaves ∙ done_left (stage_verdict schedule s buf m table (length scratch)) _ buf v in
    record {
      at = λ i j hi hj.
          let here : place (suc s) i j < length buf = omega (arith, room i j ready.1 hi hj, ready.2.whole) in
          ap (λ l. at l (place (suc s) i j)) left ∙ get_or-tabulate 0 (length buf) _ (place (suc s) i j) here ∙ rw same (next.at i j hi hj);
    }

module _ {s m : ℕ} {buf table scratch buf' scratch' : List ℕ} {answer : Answer} (A : Buffer ℕ) where
  pub stage_columns : StageOutcome 1 s buf m table scratch answer buf' scratch' → answer.number ≡ 0 → (let n = log_of (length buf) in let w = frequency_mod m (length table) (at table) in
      Embedded w frequency n A (column_wise n s) s (at buf) → Embedded w frequency n A (column_wise n (suc s)) (suc s) (at buf'))
  unfolding stage_of
  stage_columns outcome passed = let n = log_of (length buf) in stage_embedded outcome passed (column_wise n) (columns n) (columns_embeds n) refl (λ i j l hi hj. column_room n (suc s) i j l hi hj) A

  pub stage_rows : StageOutcome 2 s buf m table scratch answer buf' scratch' → answer.number ≡ 0 → (let n = log_of (length buf) in let w = frequency_mod m (length table) (at table) in
      Embedded w frequency n A (row_wise s) s (at buf) → Embedded w frequency n A (row_wise (suc s)) (suc s) (at buf'))
  unfolding stage_of
  stage_rows outcome passed = let n = log_of (length buf) in stage_embedded outcome passed row_wise (shuffle n) (shuffle_embeds n) refl (λ i j l hi hj. row_room n (suc s) i j l hi hj) A

-- ---- the place of a refusal 4 or 5 is the first at which a rule fails

lent_entry : (m : ℕ) (table buf : List ℕ) (p : ℕ) → lent_verdict m table buf ≡ refuse_at 4 p → FailsFirst (rule m (length table) (at table)) (suc (length table)) p
unfolding lent_verdict
lent_entry m table buf p e =
    at_failed (rule m (length table) (at table)) (suc (length table)) p
    (judged_here 4 (bad_entry m table) _ p (λ z. ⊎_elim (λ a. omega arith) (λ a. let k = ap (λ (b : Answer). b.number) a in omega arith) (judged-number 5 (bad_sample m buf) done))
    (unless_past (eqb (length table) (length buf / 2)) (refuse 3) _ (λ z. omega arith) e))

lent_sample : (m : ℕ) (table buf : List ℕ) (p : ℕ) → lent_verdict m table buf ≡ refuse_at 5 p → FailsFirst (below m buf) (length buf) p
unfolding lent_verdict
lent_sample m table buf p e =
    at_failed (below m buf) (length buf) p
    (judged_here 5 (bad_sample m buf) done p (λ z. omega arith)
    (judged_past 4 (bad_entry m table) _ (λ z. omega arith) (unless_past (eqb (length table) (length buf / 2)) (refuse 3) _ (λ z. omega arith) e)))

rest_past : (schedule : ℕ) (buf : List ℕ) (m : ℕ) (table : List ℕ) (scratch : ℕ) {answer : Answer} → 4 ≤ answer.number → answer.number ≤ 5 → rest_verdict schedule buf m table scratch ≡ answer → lent_verdict m table buf ≡ answer
unfolding rest_verdict
rest_past schedule buf m table scratch low high e =
    unless_past (scratch_fits schedule scratch (length buf)) (refuse 6) _ (λ z. omega arith) (unless_past (permits m) (refuse 2) _ (λ z. omega arith) e)

transform_past : {schedule m : ℕ} {buf table scratch buf' scratch' : List ℕ} {answer : Answer} → TransformOutcome schedule buf m table scratch answer buf' scratch' → 4 ≤ answer.number → answer.number ≤ 5 →
    lent_verdict m table buf ≡ answer
unfolding transform_verdict
transform_past {schedule} {m} {buf} {table} {scratch} outcome low high =
    rest_past schedule buf m table (length scratch) low high
    (unless_past (permitted_length (length buf)) (refuse 1) _ (λ z. omega arith) (unless_past (offers schedule) (refuse 7) _ (λ z. omega arith) (sym outcome.answers)))

stage_past : {schedule s m : ℕ} {buf table scratch buf' scratch' : List ℕ} {answer : Answer} → StageOutcome schedule s buf m table scratch answer buf' scratch' → 4 ≤ answer.number → answer.number ≤ 5 →
    lent_verdict m table buf ≡ answer
unfolding stage_verdict
stage_past {schedule} {s} {m} {buf} {table} {scratch} outcome low high =
    rest_past schedule buf m table (length scratch) low high
    (unless_past (ltb s (log_of (length buf))) (refuse 8) _ (λ z. omega arith)
    (unless_past (permitted_length (length buf)) (refuse 1) _ (λ z. omega arith) (unless_past (offers_stage schedule) (refuse 7) _ (λ z. omega arith) (sym outcome.answers))))

inverse_past : {m : ℕ} {buf table buf' : List ℕ} {answer : Answer} → InverseOutcome buf m table answer buf' → 4 ≤ answer.number → answer.number ≤ 5 → lent_verdict m table buf ≡ answer
unfolding inverse_verdict
inverse_past {m} {buf} outcome low high =
    unless_past (permits m) (refuse 2) _ (λ z. omega arith) (unless_past (permitted_length (length buf)) (refuse 1) _ (λ z. omega arith) (sym outcome.answers))

pub transform_entry : {schedule m p : ℕ} {buf table scratch buf' scratch' : List ℕ} → TransformOutcome schedule buf m table scratch (refuse_at 4 p) buf' scratch' →
    FailsFirst (rule m (length table) (at table)) (suc (length table)) p
transform_entry {m = m} {p} {buf} {table} outcome = lent_entry m table buf p (transform_past outcome (omega arith) (omega arith))

pub transform_sample : {schedule m p : ℕ} {buf table scratch buf' scratch' : List ℕ} → TransformOutcome schedule buf m table scratch (refuse_at 5 p) buf' scratch' → FailsFirst (below m buf) (length buf) p
transform_sample {m = m} {p} {buf} {table} outcome = lent_sample m table buf p (transform_past outcome (omega arith) (omega arith))

pub stage_entry : {schedule s m p : ℕ} {buf table scratch buf' scratch' : List ℕ} → StageOutcome schedule s buf m table scratch (refuse_at 4 p) buf' scratch' →
    FailsFirst (rule m (length table) (at table)) (suc (length table)) p
stage_entry {m = m} {p} {buf} {table} outcome = lent_entry m table buf p (stage_past outcome (omega arith) (omega arith))

pub stage_sample : {schedule s m p : ℕ} {buf table scratch buf' scratch' : List ℕ} → StageOutcome schedule s buf m table scratch (refuse_at 5 p) buf' scratch' → FailsFirst (below m buf) (length buf) p
stage_sample {m = m} {p} {buf} {table} outcome = lent_sample m table buf p (stage_past outcome (omega arith) (omega arith))

pub inverse-entry : {m p : ℕ} {buf table buf' : List ℕ} → InverseOutcome buf m table (refuse_at 4 p) buf' → FailsFirst (rule m (length table) (at table)) (suc (length table)) p
inverse-entry {m} {p} {buf} {table} outcome = lent_entry m table buf p (inverse_past outcome (omega arith) (omega arith))

pub inverse_sample : {m p : ℕ} {buf table buf' : List ℕ} → InverseOutcome buf m table (refuse_at 5 p) buf' → FailsFirst (below m buf) (length buf) p
inverse_sample {m} {p} {buf} {table} outcome = lent_sample m table buf p (inverse_past outcome (omega arith) (omega arith))

pub accept_entry : {m p : ℕ} {table : List ℕ} → AcceptOutcome m table (refuse_at 4 p) → FailsFirst (rule m (length table) (at table)) (suc (length table)) p
unfolding accept_verdict
accept_entry {m} {p} {table} outcome =
    at_failed (rule m (length table) (at table)) (suc (length table)) p
    (judged_here 4 (bad_entry m table) done p (λ z. omega arith)
    (unless_past (ltb 0 (table_log (length table))) (refuse 3) _ (λ z. omega arith) (unless_past (permits m) (refuse 2) _ (λ z. omega arith) (sym outcome.answers))))
