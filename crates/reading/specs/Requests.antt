-- What `dft` answers, as a function of its input's bytes: document 01's "The program".
use Rattle.std.specs.Prelude.{ℕ, zero, suc, ◌/◌, ◌≡◌, Bool, true, false, List, [], ◌∷◌, length, leb, Result, Ok, Err}
use Rattle.answer.specs.declared.Answer.{Answer}
use Rattle.answer.specs.declared.Refusal.{Refusal}
use Rattle.answer.specs.Choice.{answer_of, refuse, refuse_at, done, unless, judged_at, if_done}
use Rattle.answer.specs.Lists.{at}
use Rattle.groups.specs.declared.Fault.{Fault}
use Rattle.groups.specs.Groups.{Number, number_at}
use Rattle.residues.specs.Moduli.{permits}
use Rattle.residues.specs.Judgement.{bad_entry, bad_sample}
use Rattle.modular_judgement.specs.Verdicts.{offers, permitted_length}
use Rattle.modular.specs.Outcomes.{transformed}

-- ---- several numbers

-- The place behind the last of several numbers, or the first fault.
abbrev pub Many : Type 0
Many = Result ℕ Fault

-- On behind a number; a fault ends it.
unfoldable pub behind : Number → (ℕ → Many) → Many
behind (Ok number) next = next number.1
behind (Err fault) next = Err fault

-- n numbers, one behind the other, from place p on: the place behind the last, or that of the first fault.
unfoldable pub many_at : ℕ → List ℕ → ℕ → Many
many_at zero s p = Ok p
many_at (suc n) s p = behind (number_at s p) (many_at n s)

-- A number and those behind it; none from a fault on.
unfoldable pub and_behind : Number → (ℕ → List ℕ) → List ℕ
and_behind (Ok number) next = number.0 ∷ next number.1
and_behind (Err fault) next = []

-- Their values: n of them where none is at fault (`values_whole`).
unfoldable pub values_at : ℕ → List ℕ → ℕ → List ℕ
values_at zero s p = []
values_at (suc n) s p = and_behind (number_at s p) (values_at n s)

-- ---- the request

-- What is printed: "number and place and, on success, the N results in buffer order".
pub record Printed : Type 0 where
  pub answer : Answer
  pub results : List ℕ

abbrev pub refused : Answer → Printed
refused answer = record { answer = answer; results = [] }

-- A refusal where the test fails, else what comes next.
abbrev pub refused_unless : Bool → Answer → Printed → Printed
refused_unless true refusal next = next
refused_unless false refusal next = refused refusal

-- On behind several numbers; the first fault decides, 10 at its place.
abbrev pub follow : Many → (ℕ → Printed) → Printed
follow (Ok q) next = next q
follow (Err fault) next = refused (refuse_at 10 fault.place)

-- "Then 2, 4 and 5 follow."
unfoldable pub judged : ℕ → List ℕ → List ℕ → Answer
judged m table samples =
    unless (permits m) (refuse 2)
    (judged_at 4 (bad_entry m table)
    (judged_at 5 (bad_sample m samples) done))

-- Table and samples are there: the transform, on success.
abbrev pub with_both : ℕ → ℕ → List ℕ → List ℕ → Printed
with_both m schedule table samples =
    record { answer = judged m table samples; results = if_done (judged m table samples) (transformed schedule samples m table) [] }

-- The N samples from place q on, and "nothing after" them: "a surplus byte, its place".
unfoldable pub with_table : List ℕ → ℕ → ℕ → ℕ → List ℕ → ℕ → Printed
with_table s m schedule N table q =
    follow (many_at N s q)
    (λ e. refused_unless (leb (length s) e) (refuse_at 10 e)
    (with_both m schedule table (values_at N s q)))

-- The table of N/2 numbers from place p on, and the samples.
unfoldable pub with_head : List ℕ → ℕ → ℕ → ℕ → ℕ → Printed
with_head s m schedule N p = follow (many_at (N / 2) s p) (with_table s m schedule N (values_at (N / 2) s p))

-- "It answers 7 and 1 once it has those three."
unfoldable pub asked : List ℕ → ℕ → ℕ → ℕ → ℕ → Printed
asked s m schedule N p =
    refused_unless (offers schedule) (refuse 7)
    (refused_unless (permitted_length N) (refuse 1)
    (with_head s m schedule N p))

-- "They are m, schedule, N, the table, the samples."
unfoldable pub printed : List ℕ → Printed
printed s = let head = values_at 3 s 0 in follow (many_at 3 s 0) (asked s (at head 0) (at head 1) (at head 2))

-- ---- what a call answers of it

-- Done, with the results that are left, or refused.
abbrev pub Prints : Printed → List ℕ → Result (Unit {0}) Refusal → Type 0
Prints what left (Ok x) = what ≡ record { answer = done; results = left }
Prints what left (Err refusal) = what ≡ refused (answer_of refusal)
