use Rattle.std.proofs.Common.{◌≡◌, sym, ◌∙◌, ⊎_elim, arith}
use Rattle.answer.specs.Cases.{lt_or_ge}
use Rattle.answer.proofs.Lengths.{exponent_met, shifted}
use Rattle.answer.proofs.log_of.Goals as goal

pub returns-then-len-n : goal.returns-then-len-n
returns-then-len-n c = exponent_met _ _ (omega arith) (omega arith) (c.if-len-n.true ∙ shifted _ (omega arith))

pub loop-n-preserved : goal.loop-n-preserved
loop-n-preserved c =
    let n = c.loop-n.n in
    (omega arith, λ k a b e. ⊎_elim (λ h. c.loop-n.invariant.1 k a h e) (λ h. let same : k ≡ n = omega arith in c.if-len-n.false (rw same at e ∙ sym (shifted n (omega arith)))) (lt_or_ge k n))
