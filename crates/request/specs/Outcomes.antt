-- The outcome of a request: its answer, how many results there are, and what stands in the lent buffer, for every input. No second
-- outcome satisfies it.
use Rattle.std.specs.Prelude.{ℕ, ◌≡◌, List, length, Result, Ok, Err}
use Rattle.std.proofs.Common.{sym, ap, ◌∙◌}
use Rattle.std.proofs.lemmas.List.Edits.{sets}
use Rattle.answer.specs.declared.Answer.{Answer}
use Rattle.answer.specs.declared.Refusal.{Refusal}
use Rattle.answer.specs.Choice.{answer_of, done}
use Rattle.reading.specs.Requests.{Printed, refused, printed}
use Rattle.reading.specs.Refusals.{refusal_named, refusal_same}

-- What is to be printed is answered, with how many results there are, and they stand at the buffer's start; a refusal changes nothing.
abbrev pub Given : Printed → List ℕ → Result ℕ Refusal → List ℕ → Type 0
Given what results (Ok count) results' = (what.answer ≡ done) × (count ≡ length what.results) × (results' ≡ sets results 0 what.results)
Given what results (Err refusal) results' = (what ≡ refused (answer_of refusal)) × (results' ≡ results)

abbrev pub RequestOutcome : List ℕ → List ℕ → Result ℕ Refusal → List ℕ → Type 0
RequestOutcome input = Given (printed input)

-- Where something is done, nothing is refused.
parted : (what : Printed) (refusal : Refusal) → what.answer ≡ done → what ≡ refused (answer_of refusal) → ⊥
parted what refusal e f = refusal_named refusal (ap (λ (p : Printed). p.answer.number) (sym f) ∙ ap (λ (a : Answer). a.number) e)

pub request_functional : (input results : List ℕ) (a b : Result ℕ Refusal) {x y : List ℕ} → RequestOutcome input results a x → RequestOutcome input results b y → (a ≡ b) × (x ≡ y)
request_functional input results (Ok j) (Ok k) h l = (ap Ok (h.1 ∙ sym l.1), h.2 ∙ sym l.2)
request_functional input results (Ok j) (Err refusal) h l = absurd (parted (printed input) refusal h.0 l.0)
request_functional input results (Err refusal) (Ok k) h l = absurd (parted (printed input) refusal l.0 h.0)
request_functional input results (Err refusal) (Err other) h l = (ap Err (refusal_same refusal other (ap (λ (p : Printed). p.answer) (sym h.0 ∙ l.0))), h.1 ∙ sym l.1)
