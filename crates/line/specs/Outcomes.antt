-- What writing a text from its end leaves: the place of its first byte, and the buffer. No second outcome satisfies it.
use Rattle.std.specs.Prelude.{ℕ, ◌+◌, ◌≡◌, List, ◌++◌, length, take, drop}
use Rattle.std.proofs.Common.{sym, ◌∙◌, arith}
use Rattle.reading.specs.Requests.{printed}
use Rattle.line.specs.Lines.{line}

-- The text stands in front of place p, from place q on; nothing else is touched.
pub record Stands (text : List ℕ) (p : ℕ) (out : List ℕ) (q : ℕ) (out' : List ℕ) : Type 0 where
  pub starts : q + length text ≡ p
  pub leaves : out' ≡ take q out ++ text ++ drop p out

-- The line stands at the end of the buffer.
abbrev pub LineOutcome : List ℕ → List ℕ → ℕ → List ℕ → Type 0
LineOutcome input out = Stands (line (printed input)) (length out) out

pub line_functional : (input : List ℕ) {out : List ℕ} {q r : ℕ} {x y : List ℕ} → LineOutcome input out q x → LineOutcome input out r y → (q ≡ r) × (x ≡ y)
line_functional input {out} {q} {r} h l =
    let same : q ≡ r = omega (arith, h.starts, l.starts) in
    (same, h.leaves ∙ rw same (sym l.leaves))
