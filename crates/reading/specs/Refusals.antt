-- What a refusal answers tells which it is.
use Rattle.std.specs.Prelude.{◌≡◌, refl, cond, eqb}
use Rattle.std.proofs.Common.{sym, ap, ◌∙◌, arith}
use Rattle.answer.specs.declared.Answer.{Answer}
use Rattle.answer.specs.declared.Refusal.{Refusal}
use Rattle.answer.specs.declared.Refusal.TheVariants.{Length, Modulus, TableLength, Entry, Sample, Scratch, Schedule, Stage, Row, Request}
use Rattle.answer.specs.Choice.{answer_of}

-- Its number is not 0.
pub refusal_named : (refusal : Refusal) → (answer_of refusal).number ≡ 0 → ⊥
refusal_named Length e = omega arith
refusal_named Modulus e = omega arith
refusal_named TableLength e = omega arith
refusal_named (Entry place) e = omega arith
refusal_named (Sample place) e = omega arith
refusal_named Scratch e = omega arith
refusal_named Schedule e = omega arith
refusal_named Stage e = omega arith
refusal_named Row e = omega arith
refusal_named (Request place) e = omega arith

-- The refusal of a number and a place.
abbrev refusal_of : Answer → Refusal
refusal_of answer =
    let number = answer.number in
    cond (eqb number 1) Length
    (cond (eqb number 2) Modulus
    (cond (eqb number 3) TableLength
    (cond (eqb number 4) (Entry answer.place)
    (cond (eqb number 5) (Sample answer.place)
    (cond (eqb number 6) Scratch
    (cond (eqb number 7) Schedule
    (cond (eqb number 8) Stage
    (cond (eqb number 9) Row (Request answer.place)))))))))

refusal_is : (refusal : Refusal) → refusal_of (answer_of refusal) ≡ refusal
refusal_is Length = refl
refusal_is Modulus = refl
refusal_is TableLength = refl
refusal_is (Entry place) = refl
refusal_is (Sample place) = refl
refusal_is Scratch = refl
refusal_is Schedule = refl
refusal_is Stage = refl
refusal_is Row = refl
refusal_is (Request place) = refl

-- Two refusals that answer the same are one.
pub refusal_same : (a b : Refusal) → answer_of a ≡ answer_of b → a ≡ b
refusal_same a b e = sym (refusal_is a) ∙ ap refusal_of e ∙ refusal_is b
