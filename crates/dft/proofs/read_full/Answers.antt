use Rattle.std.proofs.Common.{rules}
use Rattle.dft.proofs.Input.{more_read}
use Rattle.dft.proofs.read_full.Goals as goal

pub loop-done-preserved : goal.loop-done-preserved
loop-done-preserved g c = record {
  long = search rules;
  within = search rules;
  bytes = more_read _ _ _ _ _ _ _ _ c.loop-done.invariant.within c.in_ok-n.ensures.bound.0 c.loop-done.invariant.bytes c.in_ok-n.ensures.bytes.0;
}
