use Rattle.std.proofs.Common.{sym, ◌∙◌, arith}
use Rattle.std.proofs.lemmas.List.{set-get_or}
use Rattle.std.proofs.lemmas.Result.{err_from_is_err_and}
use Rattle.reading.proofs.Filling.{filling_none, filling_all, filled_all, filling_more, filling_broken, filled_broken}
use Rattle.reading.proofs.numbers.Goals as goal

pub loop-slot-init : goal.loop-slot-init
loop-slot-init c = filling_none _ _ _

pub returns-in_err-value : goal.returns-in_err-value
returns-in_err-value c =
    let l = c.loop-slot.invariant in
    let e = sym c.in_err-value.ensures in
    let p = err_from_is_err_and c.from_residual.result c.from_residual.ensures.1 in
    record {
      value = rw (p.1, p.2) (sym (filling_broken l (omega arith) e));
      out_after = set-get_or c.loop-slot.out c.loop-slot.slot-index 0 ∙ sym (filled_broken l (omega arith) e);
    }

pub loop-slot-preserved : goal.loop-slot-preserved
loop-slot-preserved c = filling_more c.loop-slot.invariant (omega arith) (sym c.in_ok-value.ensures)

pub returns : goal.returns
returns c =
    let l = c.loop-slot.invariant in
    record { value = sym (filling_all l (omega arith)); out_after = sym (filled_all l (omega arith)) }
