-- What the five schedules leave, said once: the last row of Dijkstra's array. So they agree, over every carrier, and what two steps
-- keep between two carriers holds between the two results.
use Prim.Native.Nat.{ℕ, suc, ◌-◌, ◌^◌, ◌<◌}
use Rattle.std.specs.Prelude.{◌≡◌, refl}
use Rattle.std.proofs.Common.{◌∙◌, mul-lt-mul_of_pos_right, arith, pow_pos}
use Rattle.fourier.specs.Sizes.{half_buffer}
use Rattle.fourier.specs.Reverse.{rev, rev_lt, rev-rev}
use Rattle.fourier.specs.Schedules.{Wing, Buffer, Schedule, schedule1, schedule2, schedule3, schedule4, schedule5}
use Rattle.fourier.specs.Array.{Exponents, frequency, time, array, run_last}
use Rattle.fourier.specs.Embeddings.{straight}
use Rattle.fourier.proofs.Embeddings.{columns_embeds, shuffle_embeds, thong_embeds, pease_embeds}
use Rattle.fourier.proofs.Halves.{halves-columns}
use Rattle.fourier.specs.Leaves.{Leaves, Tabled, frequency_tabled}

time_tabled : (n : ℕ) → Tabled (time n) n
time_tabled n s i j l h = omega (arith, mul-lt-mul_of_pos_right (rev_lt s j) (pow_pos (n - suc s)), half_buffer l)

-- "Schedules 1, 2, 3 and 5 take samples in order and leave f(rev(j)) at place j."
in_order : (e : Exponents) (n : ℕ) (f : Schedule) → Tabled e n →
    ((C : Type 0) (w : Wing C) (d : Buffer C) (p : ℕ) → p < 2 ^ n → f C w d p ≡ array w e n d n 0 p) → Leaves e n straight (rev n) f
in_order e n f tabled last = record { tabled = tabled; last = last; within = λ p h. h; again = λ p h. refl; stands = λ p h. refl }

pub leaves1 : (n : ℕ) → Leaves frequency n straight (rev n) (schedule1 n)
leaves1 n = in_order frequency n (schedule1 n) (frequency_tabled n) (λ C w. run_last (columns_embeds n) w)

pub leaves2 : (n : ℕ) → Leaves frequency n straight (rev n) (schedule2 n)
leaves2 n = in_order frequency n (schedule2 n) (frequency_tabled n) (λ C w. run_last (shuffle_embeds n) w)

pub leaves3 : (n : ℕ) → Leaves frequency n straight (rev n) (schedule3 n)
leaves3 n = in_order frequency n (schedule3 n) (frequency_tabled n) (λ C w d p h. halves-columns w n d p ∙ run_last (columns_embeds n) w d p h)

pub leaves5 : (n : ℕ) → Leaves (time n) n straight (rev n) (schedule5 n)
leaves5 n = in_order (time n) n (schedule5 n) (time_tabled n) (λ C w. run_last (pease_embeds n) w)

-- "Schedule 4 takes samples in bit-reversed order and leaves f(j) at place j."
pub leaves4 : (n : ℕ) → Leaves (time n) n (rev n) straight (schedule4 n)
leaves4 n = record { tabled = time_tabled n; last = λ C w. run_last (thong_embeds n) w; within = λ p h. rev_lt n p; again = rev-rev n; stands = rev-rev n }
