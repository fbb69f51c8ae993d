-- Schedule 3 on a list: the sizes of its halves, what each half is when it is lent on, and the list when it has come back.
use Prim.Native.Nat.{ℕ, zero, suc, ◌+◌, ◌-◌, ◌*◌, ◌/◌, ◌^◌, ◌<◌, ◌≤◌}
use mathlib.Core.Path.{◌≡◌, refl, sym, ap, ◌∙◌}
use mathlib.Core.List.{List}
use native.Mathlib.Nat.{two-pow-succ, mul-le-mul_left, mul-add}
use native.Mathlib.Omega.{arith}
use lib.ListN.{length, get_or}
use lib.Pow.{pow_pos}
use borrow.Rule.Slice.PartMut.{mid_of, put_mid, put_same}
use Rattle.answer.specs.Lists.{tabulate, Holds}
use Rattle.answer.proofs.Lists.{holds, listed, tabulate_self}
use Rattle.answer.proofs.Writes.{Written, written_none, written_all}
use Rattle.answer.proofs.Parts.{mid_holds, written_part}
use Rattle.answer.specs.Cases.{lt_or_ge}
use mathlib.Core.Logic.{⊎_elim}
use lib.Pow.{pow_mono}
use Rattle.stages.specs.Laws.{held, PlacesLaws, StepLaws, Halving}
use Rattle.stages.proofs.Going.{butterfly_tabled, stage_each}
use Rattle.stages.proofs.Cuts.{Cut, cut_long, cut_values, cut_every, back_values}
use Rattle.fourier.specs.Schedules.{Wing, Buffer, butterfly, step, strided, halves}
use Rattle.fourier.proofs.Halves.{halves_half}
use Rattle.fourier.specs.Leaves.{local}
use Rattle.fourier.proofs.Leaves.{leaves3}

-- ---- sizes

-- N places have two halves of h, and exponents that count `stride` times reach through a table of T entries.
pub record Halved (N T stride h : ℕ) : Type 0 where
  pub whole : N ≡ h + h
  pub log : ℕ
  pub power : h ≡ 2 ^ log
  pub table : stride * h ≤ T
  pub double : (stride + stride) * h ≡ T + T
  pub most : stride ≤ T

pub halved : {N T stride : ℕ} → ((n : ℕ) × (N ≡ 2 ^ n)) → stride * N ≡ T + T → 0 < N / 2 → Halved N T stride (N / 2)
halved {N} {T} {stride} (zero, e) reach some = absurd (let one : N ≡ 1 = e in omega arith)
halved {N} {T} {stride} (suc n, e) reach some =
    let whole : N ≡ 2 ^ n + 2 ^ n = e ∙ two-pow-succ n in
    let half : N / 2 ≡ 2 ^ n = omega arith in
    let low : stride * 1 ≤ stride * 2 ^ n = mul-le-mul_left stride (pow_pos n) in
    let twice : stride * 2 ^ n + stride * 2 ^ n ≡ T + T = (let z = ap (λ (x : ℕ). stride * x) whole in omega arith) in
    rw half (record { whole = whole; log = n; power = refl; table = omega arith; double = omega arith; most = omega arith })

-- ---- half after half

-- In front of place o stands what schedule 3 leaves, and from there on what its first stage leaves: w is the step, d the samples, z what is read behind
-- the list's end.
pub record Halfway {C : Type 0} (z : C) (w : Wing C) (c h : ℕ) (d : Buffer C) (o : ℕ) (l : List C) : Type 0 where
  pub written : (n : ℕ) → h ≡ 2 ^ n → Written z l (h + h) o (halves (strided c w) (suc n) d) (step w (butterfly c h) d)

module _ {C : Type 0} {z : C} {w : Wing C} {c h : ℕ} {d : Buffer C} where
  pub halfway_none : {l : List C} → l ≡ tabulate (h + h) (step w (butterfly c h) d) → Halfway z w c h d 0 l
  halfway_none e = record { written = λ n g. written_none (holds e) }

  pub halfway_long : {l : List C} {o N T : ℕ} → Halfway z w c h d o l → Halved N T c h → length l ≡ h + h
  halfway_long r sizes = (r.written sizes.log sizes.power).long

  module _ {l : List C} {o : ℕ} (r : Halfway z w c h d o l) (k : ℕ) (size : k ≡ h) (room : o + k ≤ h + h) where
    -- The half from place o on, before it is lent on.
    pub lent : (n : ℕ) → h ≡ 2 ^ n → Holds z (mid_of o k l) k (λ p. step w (butterfly c h) d (o + p))
    lent n e =
        let written = r.written n e in
        let long : length l ≡ h + h = written.long in
        let mid = mid_holds z o k l (omega arith) in
        record { long = mid.long; here = λ p g. mid.here p g ∙ written.left (o + p) (omega arith) (omega arith) }

    -- Half j has come back, and schedule 3 was done to it.
    pub halfway_next : {part : List C} (j o' : ℕ) → o ≡ j * h → o' ≡ o + k →
        ((n : ℕ) → length (mid_of o k l) ≡ 2 ^ n → part ≡ tabulate (length (mid_of o k l)) (halves (strided (c + c) w) n (λ p. get_or (mid_of o k l) p z))) → Halfway z w c h d o' (put_mid o k l part)
    halfway_next {part} j o' start end ensured = record {
      written = λ n e.
          let mid = lent n e in
          let held : Holds z part k (halves (strided (c + c) w) n (λ p. get_or (mid_of o k l) p z)) = holds (rw mid.long at (ensured n (mid.long ∙ size ∙ e))) in
          let same : (q : ℕ) → q < 2 ^ n → get_or (mid_of o k l) q z ≡ step w (butterfly c (2 ^ n)) d (j * 2 ^ n + q) = (λ q g. rw (← e, ← start) (mid.here q (omega arith))) in
          rw end
          (written_part (r.written n e) k room {part = part}
          (record {
            long = held.long;
            here = λ p g.
                held.here p g
                ∙ local (leaves3 n) C (strided (c + c) w) (λ p. get_or (mid_of o k l) p z) (λ q. step w (butterfly c (2 ^ n)) d (j * 2 ^ n + q)) same p (omega arith)
                ∙ sym (halves_half w c n d j p (omega arith)) ∙ rw (start, e);
          }));
    }

-- Both halves have come back.
pub halfway_all : {C : Type 0} {z : C} {w : Wing C} {c h N : ℕ} {d : Buffer C} {l : List C} → Halfway z w c h d (h + h) l → N ≡ h + h → 0 < h → (n : ℕ) → N ≡ 2 ^ n → l ≡ tabulate N (halves (strided c w) n d)
halfway_all {N = N} r whole some zero e = absurd (let one : N ≡ 1 = e in omega arith)
halfway_all {h = h} r whole some (suc n) e = rw whole (listed (written_all (r.written n (omega (arith, two-pow-succ n))) (omega arith)))

-- A single place: nothing is done.
pub halves-one : {C : Type 0} (z : C) (w : Wing C) (l : List C) (n : ℕ) → length l ≡ 2 ^ n → length l / 2 ≤ 0 → l ≡ tabulate (length l) (halves w n (λ p. get_or l p z))
unfolding halves
halves-one z w l zero e none = sym (tabulate_self z l)
halves-one z w l (suc n) e none = absurd (omega (arith, two-pow-succ n, pow_pos n))

-- Two places: their halves are a single place each.
pub halfway_two : {C : Type 0} {z : C} {w : Wing C} {c h : ℕ} {d : Buffer C} {l : List C} → Halfway z w c h d 0 l → h ≡ 1 → Halfway z w c h d (h + h) l
halfway_two {z = z} {w = w} {c = c} {h = h} {l = l} r one =
    let lone : (o : ℕ) → length (mid_of o h l) ≡ h → (n : ℕ) → length (mid_of o h l) ≡ 2 ^ n → mid_of o h l ≡ tabulate (length (mid_of o h l)) (halves (strided (c + c) w) n (λ p. get_or (mid_of o h l) p z)) =
    (λ o long n e. halves-one z (strided (c + c) w) (mid_of o h l) n e (omega arith)) in
    let low : Halfway z w c h _ h l = rw put_same at (halfway_next r h refl (omega arith) 0 h (omega arith) (omega arith) (lone 0 (lent r h refl (omega arith) 0 one).long)) in
    rw put_same at (halfway_next low h refl (omega arith) 1 (h + h) (omega arith) refl (lone h (lent low h refl (omega arith) 0 one).long))

-- ---- halves of a buffer of numbers

module _ {S N V : Type 0} {width : ℕ} {zero : V} {values : List N → List V} {wing : S → Wing V} {reach : S → ℕ} {Ready : S → V → Type 0} {Grown : S → ℕ → V → Type 0}
    (places : PlacesLaws width values) (laws : StepLaws zero wing reach Ready Grown) (by : S) (stride : ℕ) (l₀ : List N)
    (asked : Halving width stride (reach by) (length l₀) (λ k. (p : ℕ) → Grown by k (held zero (values l₀) p))) (h : ℕ) (eh : h ≡ length (values l₀) / 2) (some : 0 < h) where
  long : length (values l₀) ≡ 2 ^ asked.left
  long = places.long l₀ _ asked.power

  -- A stage is left.
  begun : 1 ≤ asked.left
  begun = ⊎_elim (λ (g : 0 < asked.left). g) (λ g. let none : asked.left ≡ 0 = omega arith in let one : length (values l₀) ≡ 1 = rw none at long in absurd (omega (arith, eh))) (lt_or_ge 0 asked.left)

  pub sizes : Halved (length (values l₀)) (reach by) stride h
  sizes = rw eh (halved (asked.left, long) (rw long (asked.through begun)) (rw eh at some))

  pub whole : length l₀ ≡ width * (h + h)
  whole = rw (← sizes.whole, long) asked.power

  each : (p : ℕ) → p < h + h → Grown by (suc asked.past) (step (wing by) (butterfly stride h) (held zero (values l₀)) p)
  each = stage_each laws asked.past (values l₀) asked.grown (butterfly_tabled asked.some some sizes.table)

  -- A half has a stage less before it.
  less : sizes.log < asked.left
  less =
      ⊎_elim (λ g. g)
      (λ g. let most : 2 ^ asked.left ≤ 2 ^ sizes.log = pow_mono g in absurd (omega (arith, long, sizes.whole, sizes.power, pow_pos sizes.log))) (lt_or_ge sizes.log asked.left)

  -- A half of the buffer, before it is lent on and when it has come back.
  module _ (l : List N) {o b q : ℕ} (cut : Cut width (h + h) o h (length l) b q)
      (r : Halfway zero (wing by) stride h (held zero (values l₀)) o (values l)) where
    pub half_asked : Halving width (stride + stride) (reach by) (length (mid_of b q l)) (λ k. (p : ℕ) → Grown by k (held zero (values (mid_of b q l)) p))
    half_asked = record {
      left = sizes.log;
      past = suc asked.past;
      power = rw (← sizes.power) (cut_long places l cut);
      few = omega (arith, less, asked.few);
      some = omega (arith, asked.some);
      through = λ g. rw (← sizes.power) sizes.double;
      grown = cut_every places l cut zero (Grown by (suc asked.past)) (λ i g. rw ((r.written sizes.log sizes.power).left (o + i) (omega (arith, cut.room)) (omega arith)) (each (o + i) (omega (arith, cut.room)))) (laws.behind by (suc asked.past));
    }

    -- It is shorter than the whole.
    pub half_less : length (values (mid_of b q l)) < length (values l₀)
    half_less = omega (arith, sizes.whole, places.long (mid_of b q l) h (cut_long places l cut))

    half_long : length (mid_of o h (values l)) ≡ h
    half_long = rw (← cut_values places l cut) (places.long _ _ (cut_long places l cut))

    pub half_back : (part : List N) → length part ≡ length (mid_of b q l) → ((n : ℕ) → length (mid_of b q l) ≡ width * 2 ^ n → values part ≡ tabulate (2 ^ n) (halves (strided (stride + stride) (wing by)) n (held zero (values (mid_of b q l))))) →
        (j o' : ℕ) → o ≡ j * h → o' ≡ o + h → Halfway zero (wing by) stride h (held zero (values l₀)) o' (values (put_mid b q l part))
    half_back part same ensured j o' start end =
        rw (back_values places l cut part same)
        (halfway_next r h refl cut.room j o' start end
        (λ n e. let size : h ≡ 2 ^ n = sym half_long ∙ e in rw (e, ← cut_values places l cut) (ensured n (rw (← size) (cut_long places l cut)))))

-- The two halves of 2h places.
pub first_half : {width h L L₀ : ℕ} → L ≡ L₀ → L₀ ≡ width * (h + h) → Cut width (h + h) 0 h L 0 (L / 2)
first_half {width} {h} same long = record { long = same ∙ long; room = omega arith; start = omega arith; size = omega (arith, same, long, mul-add width h h) }

pub second_half : {width h L L₀ M : ℕ} → L ≡ L₀ → L₀ ≡ width * (h + h) → M ≡ L₀ → Cut width (h + h) h h L (M / 2) (L - M / 2)
second_half {width} {h} same long e = record { long = same ∙ long; room = omega arith; start = omega (arith, e, long, mul-add width h h); size = omega (arith, same, e, long, mul-add width h h) }
