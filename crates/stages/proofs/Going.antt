-- What a buffer holds while stage after stage is done.
use Rattle.std.specs.Prelude.{ℕ, suc, ◌+◌, ◌-◌, ◌*◌, ◌^◌, ◌<◌, ◌≤◌, ◌≡◌, List, length}
use Rattle.std.proofs.Common.{◌∙◌, sym, ap, arith, mod-lt}
use Rattle.std.proofs.Math.Numerals.{add-one}
use Rattle.answer.specs.Lists.{tabulate, holds_every}
use Rattle.answer.proofs.Lists.{holds}
use Rattle.fourier.specs.Schedules.{Wing, Buffer, Stage, butterfly, shuffled, step, run}
use Rattle.fourier.specs.Blocks.{Within, Ran, ran_none, ran_next, shuffled_within}
use Rattle.fourier.specs.Sizes.{two_halves}
use Rattle.stages.specs.Laws.{held, StepLaws, ExponentsLaws}
use Rattle.stages.proofs.Blocks.{exponent_below}

-- The exponents of a stage of N places lie in the table.
pub record Tabled (σ : Stage) (N T : ℕ) : Type 0 where
  pub below : (p : ℕ) → p < N → (σ p).exponent < T

pub butterfly_tabled : {stride h N T : ℕ} → 1 ≤ stride → 0 < h → stride * h ≤ T → Tabled (butterfly stride h) N T
unfolding butterfly
butterfly_tabled some pos room = record { below = λ p l. exponent_below some (mod-lt p pos) room }

pub shuffled_tabled : {half T : ℕ} (e : ℕ → ℕ) → ((k : ℕ) → k < half → e k < T) → Tabled (shuffled half e) (half + half) T
unfolding shuffled
shuffled_tabled e below = record { below = λ p l. below _ (omega arith) }

-- Of N places with the samples f the list holds what the schedule σ has after s stages, and no more than s stages make of them.
pub record Going {S V : Type 0} (zero : V) (wing : S → Wing V) (Grown : S → ℕ → V → Type 0) (by : S) (σ : ℕ → Stage) (N : ℕ) (f : Buffer V) (s : ℕ) (l : List V) : Type 0 where
  pub grown : (p : ℕ) → Grown by s (held zero l p)
  pub ran : Ran zero (wing by) σ N f s l

module _ {S V : Type 0} {zero : V} {wing : S → Wing V} {reach : S → ℕ} {Ready : S → V → Type 0} {Grown : S → ℕ → V → Type 0} (laws : StepLaws zero wing reach Ready Grown) {by : S} where
  -- After a stage a place holds what has grown once more.
  pub stage_each : (s : ℕ) {σ : Stage} {N : ℕ} (l : List V) → ((p : ℕ) → Grown by s (held zero l p)) → Tabled σ N (reach by) → (p : ℕ) → p < N → Grown by (suc s) (step (wing by) σ (held zero l) p)
  stage_each s {σ} l grown tabled p h = laws.keeps by s (σ p).part (σ p).exponent _ _ (tabled.below p h) (grown (σ p).first) (grown (σ p).second)

  pub going_none : {σ : ℕ → Stage} {l : List V} {N : ℕ} → ((p : ℕ) → Grown by 0 (held zero l p)) → length l ≡ N → Going zero wing Grown by σ N (held zero l) 0 l
  unfolding run
  going_none {l} grown e = record { grown = grown; ran = rw (← e) (ran_none l) }

  -- Stage s is done.
  pub going_next : {σ : ℕ → Stage} {N s : ℕ} {f : Buffer V} {l l' : List V} → Going zero wing Grown by σ N f s l → Within (σ s) N → Tabled (σ s) N (reach by) → l' ≡ tabulate N (step (wing by) (σ s) (held zero l)) → Going zero wing Grown by σ N f (s + 1) l'
  going_next {σ} {N} {s} {l = l} {l' = l'} r within tabled e =
      let long : N ≡ length l = sym r.ran.held.long in
      let grown : (p : ℕ) → Grown by (suc s) (held zero l' p) = holds_every (Grown by (suc s)) (holds {l = l'} e) (laws.behind by (suc s)) (stage_each s l r.grown tabled) in
      record {
        grown = rw add-one grown;
        ran = ran_next r.ran within (e ∙ ap (λ n. tabulate n (step (wing by) (σ s) (held zero l))) long);
      }

  -- All places are ready for stage s.
  pub going_ready : {σ : ℕ → Stage} {N s : ℕ} {f : Buffer V} {l : List V} → Going zero wing Grown by σ N f s l → s ≤ 12 → (p : ℕ) → Ready by (held zero l p)
  going_ready {s = s} r h p = laws.ready by s _ h (r.grown p)

  -- Stage s is done, from one buffer into the other.
  pub turn_next : {of : ℕ → ℕ → ℕ → ℕ} (exponents : ExponentsLaws of) {n s : ℕ} {f : Buffer V} {l l' : List V} → Going zero wing Grown by (λ s. shuffled (2 ^ (n - 1)) (of n s)) (2 ^ n) f s l → s < n → reach by ≡ 2 ^ (n - 1) →
      l' ≡ tabulate (2 ^ n) (step (wing by) (shuffled (2 ^ (n - 1)) (of n s)) (held zero l)) → Going zero wing Grown by (λ s. shuffled (2 ^ (n - 1)) (of n s)) (2 ^ n) f (s + 1) l'
  turn_next {of} exponents {n} {s} r h et e =
      let tabled : Tabled (shuffled (2 ^ (n - 1)) (of n s)) (2 ^ n) (reach by) = rw (two_halves n (omega arith), et) (shuffled_tabled (of n s) (λ k g. exponents.below n s k h g)) in
      going_next r (rw (two_halves n (omega arith)) (shuffled_within (2 ^ (n - 1)) (of n s))) tabled e
