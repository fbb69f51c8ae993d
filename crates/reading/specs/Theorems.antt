-- What holds of whatever `dft` prints, and what can matter of its input: the first 30,736 bytes. 6,147 numbers take
-- at most 30,735 bytes, and the one behind them is a surplus byte.
use Prim.Native.Nat.{ℕ, zero, suc, ◌+◌, ◌*◌, ◌/◌, ◌<◌, ◌≤◌}
use Rattle.std.specs.Prelude.{◌≡◌, Bool, true, false, cond, take, leb, eqb, Ok, Err}
use Rattle.std.proofs.Math.Path.{refl, ap}
use Rattle.std.proofs.Common.{arith}
use mathlib.Core.List.{List, [], ◌∷◌}
use Rattle.std.proofs.Math.ListN.{length}
use Rattle.std.proofs.Math.Seq.{length-take-le}
use borrow.Author.Tests.{ltb-true, lt-leb}
use Rattle.answer.specs.declared.Answer.{Answer}
use Rattle.answer.specs.Choice.{refuse_at}
use Rattle.answer.specs.Lists.{at, length-tabulate}
use Rattle.answer.specs.Lengths.{log_of}
use Rattle.answer.proofs.Lengths.{permitted_range}
use Rattle.groups.specs.Groups.{Number, number_at}
use Rattle.groups.specs.Theorems.{clash, number_begun}
use Rattle.groups.proofs.Theorems.{number-near}
use Rattle.modular_judgement.specs.Verdicts.{offers, permitted_length}
use Rattle.modular_work.specs.Works.{cleared}
use Rattle.modular.specs.Outcomes.{transformed, TransformOutcome}
use Rattle.reading.specs.Requests.{Many, behind, many_at, and_behind, values_at, Printed, refused, refused_unless, follow, judged, with_both, with_table, with_head, asked, printed}

-- ---- several numbers

-- All n of them are there.
pub values_whole : (n : ℕ) (s : List ℕ) (p q : ℕ) → many_at n s p ≡ Ok q → length (values_at n s p) ≡ n
unfolding many_at values_at behind and_behind
values_whole zero s p q e = refl
values_whole (suc n) s p q e = by (number_at s p) (values_whole n s) e
  where
    by : (r : Number) → ((p' q' : ℕ) → many_at n s p' ≡ Ok q' → length (values_at n s p') ≡ n) → behind r (many_at n s) ≡ Ok q → length (and_behind r (values_at n s)) ≡ suc n
    by (Ok number) ih e = ap suc (ih number.1 q e)
    by (Err fault) ih e = clash (cc e)

-- n numbers take at most 5n bytes.
many_near : (s : List ℕ) (n p q : ℕ) → many_at n s p ≡ Ok q → q ≤ p + 5 * n
unfolding many_at behind
many_near s zero p q e = let same : p ≡ q = cc e in omega arith
many_near s (suc n) p q e = by (number_at s p) refl (many_near s n) e
  where
    by : (r : Number) → number_at s p ≡ r → ((p' q' : ℕ) → many_at n s p' ≡ Ok q' → q' ≤ p' + 5 * n) → behind r (many_at n s) ≡ Ok q → q ≤ p + 5 * suc n
    by (Ok number) er ih e = let near = number-near s p number.0 number.1 er in let later = ih number.1 q e in omega arith
    by (Err fault) er ih e = clash (cc e)

-- ---- cases

follow-same : (many : Many) (f g : ℕ → Printed) → ((q : ℕ) → many ≡ Ok q → f q ≡ g q) → follow many f ≡ follow many g
follow-same (Ok q) f g h = h q refl
follow-same (Err fault) f g h = refl

unless-same : (b : Bool) (refusal : Answer) (x y : Printed) → (b ≡ true → x ≡ y) → refused_unless b refusal x ≡ refused_unless b refusal y
unless-same true refusal x y h = h refl
unless-same false refusal x y h = refl

-- ---- what a request asks for

abbrev pub asked_modulus : List ℕ → ℕ
asked_modulus s = at (values_at 3 s 0) 0

abbrev pub asked_schedule : List ℕ → ℕ
asked_schedule s = at (values_at 3 s 0) 1

abbrev pub asked_size : List ℕ → ℕ
asked_size s = at (values_at 3 s 0) 2

-- The table stands at p, behind the three numbers, and the samples at q, behind the table.
pub record Placed (s : List ℕ) (p q : ℕ) : Type 0 where
  pub head : many_at 3 s 0 ≡ Ok p
  pub table : many_at (asked_size s / 2) s p ≡ Ok q

abbrev pub asked_table : List ℕ → ℕ → List ℕ
asked_table s p = values_at (asked_size s / 2) s p

abbrev pub asked_samples : List ℕ → ℕ → List ℕ
asked_samples s q = values_at (asked_size s) s q

-- ---- what holds of every refusal, and of what follows

module _ (P : Printed → Type 0) (none : (answer : Answer) → 1 ≤ answer.number → P (refused answer)) where
  follow_every : (many : Many) (next : ℕ → Printed) → ((q : ℕ) → many ≡ Ok q → P (next q)) → P (follow many next)
  follow_every (Ok q) next h = h q refl
  follow_every (Err fault) next h = none (refuse_at 10 fault.place) (omega arith)

  unless_every : (b : Bool) (refusal : Answer) (next : Printed) → 1 ≤ refusal.number → (b ≡ true → P next) → P (refused_unless b refusal next)
  unless_every true refusal next l h = h refl
  unless_every false refusal next l h = none refusal l

  -- And of the table and the samples that stand there, of these lengths.
  pub head_every : (s : List ℕ) (m schedule N p : ℕ) →
      ((q : ℕ) → many_at (N / 2) s p ≡ Ok q → (let table = values_at (N / 2) s p in let samples = values_at N s q in
      length samples ≡ N → length table ≡ N / 2 → P (with_both m schedule table samples))) → P (with_head s m schedule N p)
  unfolding with_head with_table
  head_every s m schedule N p h =
      follow_every (many_at (N / 2) s p) _
      (λ q e. follow_every (many_at N s q) _
      (λ end e'. unless_every (leb (length s) end) _ _ (omega arith)
      (λ t. h q e (values_whole N s q end e') (values_whole (N / 2) s p q e))))

  pub printed_every : (s : List ℕ) →
      ((p q : ℕ) → Placed s p q → (let table = asked_table s p in let samples = asked_samples s q in
      offers (asked_schedule s) ≡ true → permitted_length (length samples) ≡ true → length table ≡ length samples / 2 → P (with_both (asked_modulus s) (asked_schedule s) table samples))) →
      P (printed s)
  unfolding printed asked
  printed_every s h =
      follow_every (many_at 3 s 0) _
      (λ p e. unless_every (offers _) _ _ (omega arith)
      (λ o. unless_every (permitted_length _) _ _ (omega arith)
      (λ l. head_every s _ _ _ p (λ q e' long half. h p q (record { head = e; table = e' }) o (rw long l) (rw long half)))))

-- There are at most 4,096 results.
pub results_few : (s : List ℕ) → length (printed s).results ≤ 4096
results_few s =
    printed_every (λ r. length r.results ≤ 4096) (λ a l. omega arith) s
    (λ p q there o l half.
    let samples = asked_samples s q in
    let range = permitted_range (length samples) (ltb-true 0 (log_of (length samples)) l) in
    either (eqb (judged (asked_modulus s) (asked_table s p) samples).number 0) (transformed (asked_schedule s) samples (asked_modulus s) (asked_table s p)) (rw length-tabulate range.1))
  where
    either : (t : Bool) (l : List ℕ) → length l ≤ 4096 → length (cond t l []) ≤ 4096
    either true l h = h
    either false l h = omega arith

-- ---- a request that is answered 0 is a transform

-- Of the modulus, schedule, table and samples that the request asks for the transform answers 0 and leaves the results.
pub record Transformed (s : List ℕ) (r : Printed) : Type 0 where
  pub p : ℕ
  pub q : ℕ
  pub there : Placed s p q
  pub outcome : TransformOutcome (asked_schedule s) (asked_samples s q) (asked_modulus s) (asked_table s p) (asked_samples s q) r.answer r.results (cleared (asked_schedule s) (asked_samples s q))

-- ---- the beginning of an input, k bytes of it

module _ (s : List ℕ) (k : ℕ) (room : k ≤ length s) where
  -- Numbers that lie in it.
  many_begun : (n p : ℕ) → p + 5 * n ≤ k → (many_at n (take k s) p ≡ many_at n s p) × (values_at n (take k s) p ≡ values_at n s p)
  unfolding many_at values_at behind and_behind
  many_begun zero p h = (refl, refl)
  many_begun (suc n) p h = rw (number_begun s k p (omega arith) room) (by (number_at s p) refl (many_begun n))
    where
      by : (r : Number) → number_at s p ≡ r → ((q : ℕ) → q + 5 * n ≤ k → (many_at n (take k s) q ≡ many_at n s q) × (values_at n (take k s) q ≡ values_at n s q)) →
          (behind r (many_at n (take k s)) ≡ behind r (many_at n s)) × (and_behind r (values_at n (take k s)) ≡ and_behind r (values_at n s))
      by (Ok number) e ih = let near = number-near s p number.0 number.1 e in let rest = ih number.1 (omega arith) in (rest.0, ap (λ (l : List ℕ). number.0 ∷ l) rest.1)
      by (Err fault) e ih = (refl, refl)

  table_begun : (m schedule N : ℕ) (table : List ℕ) (q : ℕ) → q + 5 * N < k → with_table (take k s) m schedule N table q ≡ with_table s m schedule N table q
  unfolding with_table
  table_begun m schedule N table q h =
      let same = many_begun N q (omega arith) in
      let long : length (take k s) ≡ k = length-take-le k s room in
      rw (same.0, same.1)
      (follow-same (many_at N s q) _ _
      (λ end e. let near = many_near s N q end e in rw (lt-leb (length (take k s)) end (omega arith), lt-leb (length s) end (omega arith)) refl))

  head_begun : (m schedule N p : ℕ) → p + 5 * (N / 2) + 5 * N < k → with_head (take k s) m schedule N p ≡ with_head s m schedule N p
  unfolding with_head
  head_begun m schedule N p h =
      let same = many_begun (N / 2) p (omega arith) in
      rw (same.0, same.1)
      (follow-same (many_at (N / 2) s p) _ _ (λ q e. let near = many_near s (N / 2) p q e in table_begun m schedule N _ q (omega arith)))

  asked_begun : (m schedule N p : ℕ) → p ≤ 15 → 30736 ≤ k → asked (take k s) m schedule N p ≡ asked s m schedule N p
  unfolding asked
  asked_begun m schedule N p h l =
      unless-same (offers schedule) _ _ _
      (λ o. unless-same (permitted_length N) _ _ _
      (λ e. let range = permitted_range N (ltb-true 0 (log_of N) e) in head_begun m schedule N p (omega arith)))

  -- What lies behind the first 30,736 bytes changes nothing.
  pub printed_begun : 30736 ≤ k → printed (take k s) ≡ printed s
  unfolding printed
  printed_begun l =
      let same = many_begun 3 0 (omega arith) in
      rw (same.0, same.1) (follow-same (many_at 3 s 0) _ _ (λ p e. asked_begun _ _ _ p (many_near s 3 0 p e) l))
