-- By the n that was found: the length is 2^n, and what is left is the reversal by n bits.
use Rattle.std.proofs.Common.{◌≡◌, ℕ, ◌^◌, List, Some, length, refl, sym, ap, ◌∙◌, arith}
use Rattle.answer.specs.Choice.{done}
use Rattle.answer.specs.Lengths.{exponent_of}
use Rattle.answer.specs.Lists.{at, tabulate}
use Rattle.fourier.specs.Reverse.{rev}
use Rattle.modular_judgement.specs.Verdicts.{reverse_verdict}
use Rattle.modular_judgement.proofs.Tests.{long}
use Rattle.modular.specs.Outcomes.{ReverseOutcome}
use Rattle.modular.proofs.Passing.{whole}
use Rattle.modular.proofs.inverting.try_reverse.Goals as goal

reversed : (buf : List ℕ) (n : ℕ) {left : List ℕ} → Some n ≡ exponent_of (length buf) → left ≡ tabulate (2 ^ n) (λ p. at buf (rev n p)) → ReverseOutcome buf done left
unfolding reverse_verdict
reversed buf n e l =
    let found = long (length buf) n e in
    let size = (whole (length buf) n e).0 in
    record { answers = rw found.0 refl; leaves = rw (found.0, found.1) (l ∙ ap (λ N. tabulate N (λ p. at buf (rev n p))) (sym size)) }

pub reverse-requires : goal.reverse-requires
reverse-requires c =
    let e : Some c.in_ok-n.n ≡ c.log_of.result = grind arith in
    let w = whole _ _ (e ∙ c.log_of.ensures) in
    (omega arith, w.1)

pub returns : goal.returns
returns c =
    let e : Some c.in_ok-n.n ≡ c.log_of.result = grind arith in
    reversed _ _ (e ∙ c.log_of.ensures) c.reverse.ensures.after
