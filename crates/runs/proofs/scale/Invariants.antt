-- The places in front of the index are scaled.
use Rattle.std.specs.Prelude.{length}
use Rattle.answer.specs.Lists.{at}
use Rattle.answer.proofs.Writes.{Written}
use Rattle.fourier.specs.Numbers.{times_mod}
use Rattle.runs.proofs.scale.Given as goal

abbrev pub invariant-loop-value : goal.invariant-loop-value
invariant-loop-value l = Written 0 l.buf (length l.initial.buf) l.value-index (λ p. times_mod l.m.value l.by.0 (at l.initial.buf p)) (at l.initial.buf)
