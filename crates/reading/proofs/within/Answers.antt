-- The beginnings of the memory are lent on, as long as they are used.
use Rattle.std.proofs.Common.{◌/◌, ◌∙◌, drop, length-take-le, take_at}
use Rattle.reading.proofs.within.Goals as goal

pub with_head-requires : goal.with_head-requires
with_head-requires c =
    let n = c.requires.n_in_bounds in
    let table = length-take-le (c.args.n / 2) c.args.table.now n.0 in
    let samples = length-take-le c.args.n c.args.samples.now n.1 in
    let scratch = length-take-le c.args.n c.args.scratch.now n.2 in
    record { schedule_value = (c.requires.schedule_value.0, rw samples c.requires.schedule_value.1); table_len = (rw samples table, rw samples scratch) }

pub returns : goal.returns
returns c =
    let samples = length-take-le c.args.n c.args.samples.now c.requires.n_in_bounds.1 in
    rw (take_at c.with_head.new.samples (drop c.args.n c.args.samples.now) c.args.n (c.with_head.auto.samples ∙ samples)) (rw samples at c.with_head.ensures)
