-- The samples are read, nothing is behind them, and the transform judges 2, 4 and 5.
use Rattle.std.proofs.Common.{sym}
use Rattle.std.proofs.lemmas.Result.{err_from_is_err_and}
use Rattle.reading.proofs.Steps.{samples_broken, samples_surplus, samples_transformed}
use Rattle.reading.proofs.with_table.Goals as goal

pub returns-in_err-end : goal.returns-in_err-end
returns-in_err-end c =
    let p = err_from_is_err_and c.from_residual.result c.from_residual.ensures.1 in
    rw (p.1, p.2) (samples_broken _ _ _ _ _ _ (sym c.in_err-end.ensures.value))

pub returns-then-end-s : goal.returns-then-end-s
returns-then-end-s c = samples_surplus _ _ _ _ _ _ (sym c.in_ok-end.ensures.value) c.if-end-s.true

pub returns : goal.returns
returns c =
    let r = c.requires in
    samples_transformed _ c.args.m c.args.schedule c.args.table.now _ c.args.samples.now c.try_transform.result
    r.schedule_value.0 r.schedule_value.1 r.table_len.0 r.table_len.1 (sym c.in_ok-end.ensures.value) c.if-end-s.false c.numbers.ensures.out_after c.try_transform.ensures
