-- The table is read; the samples decide the rest.
use Rattle.std.proofs.Common.{sym}
use Rattle.std.proofs.lemmas.Result.{err_from_is_err_and}
use Rattle.reading.proofs.Steps.{table_broken, table-whole}
use Rattle.reading.proofs.with_head.Goals as goal

pub returns-in_err-q : goal.returns-in_err-q
returns-in_err-q c =
    let p = err_from_is_err_and c.from_residual.result c.from_residual.ensures.1 in
    rw (p.1, p.2) (table_broken _ _ _ _ c.args.table.now c.args.samples.now c.requires.table_len.0 (sym c.in_err-q.ensures.value))

pub returns : goal.returns
returns c =
    rw (table-whole _ c.args.m c.args.schedule _ c.args.table.now c.args.samples.now c.requires.table_len.0 (sym c.in_ok-q.ensures.value) c.numbers.ensures.out_after)
    c.with_table.ensures
