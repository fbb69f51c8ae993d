-- Document 01's bench values marked P, in one theorem about the definitions.
use Rattle.std.specs.Prelude.{ℕ, ◌^◌, ◌≡◌, refl, List, [], ◌∷◌, ℤ, pos, negsuc, nat_abs}
use Rattle.answer.specs.Choice.{refuse_at, done}
use Rattle.answer.specs.Search.{first}
use Rattle.answer.specs.Lengths.{log_up_to, log_of}
use Rattle.answer.specs.Lists.{at, tabulate}
use Rattle.algebra.specs.Sum.{total}
use Rattle.fourier.specs.Reverse.{rev}
use Rattle.fourier.specs.Schedules.{Wing, Buffer, butterfly, shuffled, columns, shuffle, pease, step, run, halves, schedule1, schedule2, schedule3, schedule4, schedule5}
use Rattle.fourier.specs.Table.{root, wanted, rule, lookup, back}
use Rattle.residues.specs.Moduli.{permits}
use Rattle.residues.specs.Judgement.{below}
use Rattle.modular_judgement.specs.Verdicts.{offers_stage, scratch_fits, lent_verdict, rest_verdict, accept_verdict, stage_verdict}
use Rattle.modular_work.specs.Works.{stage_of}
use Rattle.modular.specs.Outcomes.{staged}
use Rattle.fourier.specs.Numbers.{fourier_mod, frequency_mod, time_mod, inverse_mod}
use Rattle.points.specs.declared.Point.{Point}
use Rattle.points.specs.Interleaved.{point, part, interleaved}
use Rattle.points.specs.Rounding.{half_up}
use Rattle.points.specs.Steps.{rounded, unrounded}
use Rattle.points.specs.Distance.{distance, gap}
use Rattle.tables.specs.Rules as fixed-rules
use Rattle.rules.specs.Pairs.{starts, sized, follows}
use Rattle.tables.specs.Rules.{entry, linked}
use Rattle.tables.specs.Acceptance.{fixed_accept_verdict}

-- m = 5, table 1 2, samples 1 2 3 4.
abbrev table : ℕ → ℕ
table = at (1 ∷ 2 ∷ [])

abbrev five : Wing ℕ
five = frequency_mod 5 2 table

abbrev five_time : Wing ℕ
five_time = time_mod 5 2 table

abbrev samples : Buffer ℕ
samples = at (1 ∷ 2 ∷ 3 ∷ 4 ∷ [])

-- m = 3, table 1, samples 2 1.
abbrev one : ℕ → ℕ
one = at (1 ∷ [])

abbrev two_samples : Buffer ℕ
two_samples = at (2 ∷ 1 ∷ [])

-- Fixed, N = 2: table (16,384, 0), samples (3,-1) (2,0).
abbrev fixed_table : ℕ → Point
fixed_table = point (pos 16384 ∷ pos 0 ∷ [])

abbrev fixed_samples : Buffer Point
fixed_samples = point (pos 3 ∷ negsuc 0 ∷ pos 2 ∷ pos 0 ∷ [])

-- Fixed, N = 4: the table with the second pair (re, im).
abbrev fixed_four : ℤ → ℤ → List ℤ
fixed_four re im = pos 16384 ∷ pos 0 ∷ re ∷ im ∷ []

bench :
    -- m = 5, table 1 2, samples 1 2 3 4. Sums in order; what schedules 1, 2, 3 and 5 leave
    (tabulate 4 (fourier_mod 5 (root 5 2 table) 4 samples) ≡ 0 ∷ 4 ∷ 3 ∷ 2 ∷ [])
    × (tabulate 4 (schedule1 2 ℕ five samples) ≡ 0 ∷ 3 ∷ 4 ∷ 2 ∷ [])
    × (tabulate 4 (schedule2 2 ℕ five samples) ≡ 0 ∷ 3 ∷ 4 ∷ 2 ∷ [])
    × (tabulate 4 (schedule3 2 ℕ five samples) ≡ 0 ∷ 3 ∷ 4 ∷ 2 ∷ [])
    × (tabulate 4 (schedule5 2 ℕ five_time samples) ≡ 0 ∷ 3 ∷ 4 ∷ 2 ∷ [])
    -- the same after stage 0, by columns and by shuffle; Pease after its first stage
    × (tabulate 4 (step five (columns 2 0) samples) ≡ 4 ∷ 1 ∷ 3 ∷ 1 ∷ [])
    × (tabulate 4 (step five (shuffle 2 0) samples) ≡ 4 ∷ 3 ∷ 1 ∷ 1 ∷ [])
    × (tabulate 4 (step five_time (pease 2 0) samples) ≡ 4 ∷ 3 ∷ 1 ∷ 3 ∷ [])
    -- schedule 4 on 1 3 2 4
    × (tabulate 4 (schedule4 2 ℕ five_time (at (1 ∷ 3 ∷ 2 ∷ 4 ∷ []))) ≡ 0 ∷ 4 ∷ 3 ∷ 2 ∷ [])
    -- the inverse of 0 3 4 2
    × (tabulate 4 (inverse_mod 5 2 table (at (0 ∷ 3 ∷ 4 ∷ 2 ∷ []))) ≡ 1 ∷ 2 ∷ 3 ∷ 4 ∷ [])
    -- m = 3, table 1, samples 2 1
    × (tabulate 2 (schedule1 1 ℕ (frequency_mod 3 1 one) two_samples) ≡ 0 ∷ 1 ∷ [])
    × (tabulate 2 (schedule2 1 ℕ (frequency_mod 3 1 one) two_samples) ≡ 0 ∷ 1 ∷ [])
    × (tabulate 2 (schedule3 1 ℕ (frequency_mod 3 1 one) two_samples) ≡ 0 ∷ 1 ∷ [])
    × (tabulate 2 (schedule4 1 ℕ (time_mod 3 1 one) two_samples) ≡ 0 ∷ 1 ∷ [])
    × (tabulate 2 (schedule5 1 ℕ (time_mod 3 1 one) two_samples) ≡ 0 ∷ 1 ∷ [])
    × (tabulate 2 (fourier_mod 3 (root 3 1 one) 2 two_samples) ≡ 0 ∷ 1 ∷ [])
    -- these tables are accepted; m = 5, table 1 4 is refused 4 at place 2
    × (accept_verdict 5 (1 ∷ 2 ∷ []) ≡ done)
    × (accept_verdict 3 (1 ∷ []) ≡ done)
    × (accept_verdict 5 (1 ∷ 4 ∷ []) ≡ refuse_at 4 2)
    -- the single stage as a call: its answer, and what it leaves
    × (stage_verdict 1 0 (1 ∷ 2 ∷ 3 ∷ 4 ∷ []) 5 (1 ∷ 2 ∷ []) 0 ≡ done)
    × (staged 1 0 (1 ∷ 2 ∷ 3 ∷ 4 ∷ []) 5 (1 ∷ 2 ∷ []) ≡ 4 ∷ 1 ∷ 3 ∷ 1 ∷ [])
    × (stage_verdict 2 0 (1 ∷ 2 ∷ 3 ∷ 4 ∷ []) 5 (1 ∷ 2 ∷ []) 4 ≡ done)
    × (staged 2 0 (1 ∷ 2 ∷ 3 ∷ 4 ∷ []) 5 (1 ∷ 2 ∷ []) ≡ 4 ∷ 3 ∷ 1 ∷ 1 ∷ [])
    -- reversal for N = 8
    × (tabulate 8 (rev 3) ≡ 0 ∷ 4 ∷ 2 ∷ 6 ∷ 1 ∷ 5 ∷ 3 ∷ 7 ∷ [])
    -- fixed, N = 2, samples (3,-1) (2,0): what schedules 1, 2 and 3 leave; the unrounded first pair; the distance 16,384 is reached
    × (interleaved 2 (schedule1 1 Point (rounded half_up fixed_table) fixed_samples) ≡ pos 3 ∷ pos 0 ∷ pos 1 ∷ pos 0 ∷ [])
    × (interleaved 2 (schedule2 1 Point (rounded half_up fixed_table) fixed_samples) ≡ pos 3 ∷ pos 0 ∷ pos 1 ∷ pos 0 ∷ [])
    × (interleaved 2 (schedule3 1 Point (rounded half_up fixed_table) fixed_samples) ≡ pos 3 ∷ pos 0 ∷ pos 1 ∷ pos 0 ∷ [])
    × (schedule1 1 Point (unrounded fixed_table) fixed_samples 0 ≡ record { re = pos 81920; im = negsuc 16383 })
    × (nat_abs (gap (2 ^ 15) (schedule1 1 Point (rounded half_up fixed_table) fixed_samples 0) (schedule1 1 Point (unrounded fixed_table) fixed_samples 0)).re ≡ distance 1)
    × (distance 1 ≡ 16384)
    -- fixed tables for N = 4: second pair (0, 16,383) and (1, 16,384) accepted, (0, 16,385) and (2, 16,384) refused 4 at place 2
    × (fixed_accept_verdict (pos 16384 ∷ pos 0 ∷ []) ≡ done)
    × (fixed_accept_verdict (fixed_four (pos 0) (pos 16383)) ≡ done)
    × (fixed_accept_verdict (fixed_four (pos 1) (pos 16384)) ≡ done)
    × (fixed_accept_verdict (fixed_four (pos 0) (pos 16385)) ≡ refuse_at 4 2)
    × (fixed_accept_verdict (fixed_four (pos 2) (pos 16384)) ≡ refuse_at 4 2)
    -- a table for N = 8 whose third pair breaks the product rule and whose fourth has a wrong sign: the first of all is found
    × (fixed_accept_verdict (pos 16384 ∷ pos 0 ∷ pos 11585 ∷ pos 11585 ∷ pos 10 ∷ pos 16384 ∷ negsuc 11584 ∷ negsuc 11584 ∷ []) ≡ refuse_at 4 2)
unfolding tabulate total rev butterfly shuffled run halves fourier_mod root wanted rule lookup back inverse_mod first log_up_to log_of permits below offers_stage scratch_fits lent_verdict rest_verdict accept_verdict stage_verdict stage_of part distance entry starts sized follows linked fixed-rules.rule fixed_accept_verdict
bench = (
  refl,
  refl,
  refl,
  refl,
  refl,
  refl,
  refl,
  refl,
  refl,
  refl,
  refl,
  refl,
  refl,
  refl,
  refl,
  refl,
  refl,
  refl,
  refl,
  refl,
  refl,
  refl,
  refl,
  refl,
  refl,
  refl,
  refl,
  refl,
  refl,
  refl,
  refl,
  refl,
  refl,
  refl,
  refl,
  refl,
)
