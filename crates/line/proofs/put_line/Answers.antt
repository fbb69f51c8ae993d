-- The newline, the results, the place and the number, each in front of what stands.
use Rattle.std.proofs.Common.{length-set, arith}
use Rattle.line.proofs.Puts.{place_room, number-room, put-line}
use Rattle.line.proofs.put_line.Goals as goal

pub put_results-behind-requires : goal.put_results-behind-requires
put_results-behind-requires c = (omega arith, simp length-set (omega arith))

pub put_spaced-place-requires : goal.put_spaced-place-requires
put_spaced-place-requires c = place_room c.args.out.now c.args.results.now c.requires c.put_results-behind.ensures

pub put_decimal-requires : goal.put_decimal-requires
put_decimal-requires c = number-room c.args.out.now c.args.results.now c.requires c.put_results-behind.ensures c.args.answer.place c.put_spaced-place.ensures

pub returns : goal.returns
returns c =
    put-line c.args.out.now c.args.results.now c.requires c.put_results-behind.ensures c.args.answer.place c.put_spaced-place.ensures c.args.answer.number (rw c.from.ensures at c.put_decimal.ensures)
