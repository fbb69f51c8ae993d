-- The outcome of the writer: its answer and what it leaves, for every input. No second outcome satisfies it.
use Rattle.std.specs.Prelude.{ℕ, ◌+◌, ◌≡◌, Bool, cond, List, length, leb, Result, Ok, Err}
use Rattle.std.proofs.Common.{sym, ◌∙◌}
use Rattle.std.proofs.lemmas.List.Edits.{sets}
use Rattle.groups.specs.Groups.{bytes_of}
use Rattle.writer.specs.declared.NoRoom.{NoRoom}

-- The place behind the number, or that there is no room for it.
abbrev pub Put : Type 0
Put = Result ℕ NoRoom

abbrev pub no_room : Put
no_room = Err (record {})

-- There is room for all of v from place p on.
abbrev pub room : ℕ → ℕ → List ℕ → Bool
room v p out = leb (p + length (bytes_of v)) (length out)

pub record PutOutcome (v p : ℕ) (out : List ℕ) (answer : Put) (out' : List ℕ) : Type 0 where
  pub answers : answer ≡ cond (room v p out) (Ok (p + length (bytes_of v))) no_room
  pub leaves : out' ≡ cond (room v p out) (sets out p (bytes_of v)) out

pub put_functional : {v p : ℕ} {out : List ℕ} {a b : Put} {x y : List ℕ} → PutOutcome v p out a x → PutOutcome v p out b y → (a ≡ b) × (x ≡ y)
put_functional h l = (h.answers ∙ sym l.answers, h.leaves ∙ sym l.leaves)
