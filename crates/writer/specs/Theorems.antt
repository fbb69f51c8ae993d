-- What the writer has written the reader reads, and to write a number where it was read changes nothing.
use Rattle.std.specs.Prelude.{ℕ, ◌+◌, ◌<◌, ◌≤◌, ◌≡◌, refl, Bool, true, false, cond, List, ◌++◌, length, drop, take, Ok}
use Rattle.std.proofs.Common.{ap, ◌∙◌, append_assoc, arith, length-append, length-drop, take-append-drop, drop_at, length-take-le, leb-true, le-leb}
use Rattle.std.proofs.lemmas.List.Edits.{sets, sets-eq}
use Rattle.answer.specs.Lists.{at}
use Rattle.groups.specs.Groups.{number_at, bytes_of}
use Rattle.groups.specs.Theorems.{bytes_few, read_back, clash}
use Rattle.groups.proofs.Theorems.{same_bytes}
use Rattle.writer.specs.Outcomes.{Put, no_room, room, PutOutcome}

-- What the writer has written the reader reads.
pub put_read : (v p : ℕ) {out out' : List ℕ} {q : ℕ} → v < 4294967296 → PutOutcome v p out (Ok q) out' → number_at out' p ≡ Ok (v, q)
put_read v p {out} {out'} {q} h r = by (room v p out) refl r.answers r.leaves
  where
    by : (t : Bool) → room v p out ≡ t → ◌≡◌ {A = Put} (Ok q) (cond t (Ok (p + length (bytes_of v))) no_room) → out' ≡ cond t (sets out p (bytes_of v)) out → number_at out' p ≡ Ok (v, q)
    by true t answers leaves =
        let fits : p + length (bytes_of v) ≤ length out = leb-true (p + length (bytes_of v)) (length out) t in
        let is : out' ≡ take p out ++ (bytes_of v ++ drop (p + length (bytes_of v)) out) = leaves ∙ sets-eq (bytes_of v) out p fits ∙ append_assoc (take p out) (bytes_of v) _ in
        let ends : q ≡ p + length (bytes_of v) = cc answers in
        rw ends (read_back out' p v (drop (p + length (bytes_of v)) out) h (rw is (drop_at (take p out) (bytes_of v ++ drop (p + length (bytes_of v)) out) p (length-take-le p out (omega arith)))))
    by false t answers leaves = clash (cc answers)

-- To write a number where it was read changes nothing.
pub read_put : (s : List ℕ) (p : ℕ) → ((j : ℕ) → at s j < 256) → (v q : ℕ) → number_at s p ≡ Ok (v, q) → PutOutcome v p s (Ok q) s
read_put s p bytes v q e =
    let r = same_bytes s p bytes v q e in
    let fits : p + length (bytes_of v) ≤ length s = omega (arith, bytes_few v, r.1, ap length r.2, length-append (bytes_of v) (drop q s), length-drop p s, length-drop q s) in
    let t = le-leb (p + length (bytes_of v)) (length s) fits in
    let back : sets s p (bytes_of v) ≡ s =
    sets-eq (bytes_of v) s p fits ∙ append_assoc (take p s) (bytes_of v) _ ∙ rw (← r.1, ← r.2) (take-append-drop p s) in
    record { answers = rw (t, r.1); leaves = rw (t, back) }
