-- The request's results stand at the start of the memory lent to it; a refusal has none.
use Rattle.std.proofs.Common.{sym, arith, length-take-le}
use Rattle.line.proofs.Puts.{results_fit, results_read}
use Rattle.line.proofs.respond.Goals as goal

pub slice_bounds-results-end : goal.slice_bounds-results-end
slice_bounds-results-end c = omega (arith, results_fit c.args.input.now _ _ c.request-reply.result c.request-reply.ensures)

pub slice_bounds-put_line-end-2 : goal.slice_bounds-put_line-end-2
slice_bounds-put_line-end-2 c =
    let fit = results_fit c.args.input.now _ _ c.request-reply.result c.request-reply.ensures in
    sym (length-take-le c.unwrap_or.result c.request-reply.new.results (omega arith))

pub returns : goal.returns
returns c =
    let read = results_read c.args.input.now _ _ c.request-reply.result c.space-results.ensures c.request-reply.ensures in
    rw (c.from.ensures, c.unwrap_or.ensures, read) at c.put_line.ensures
