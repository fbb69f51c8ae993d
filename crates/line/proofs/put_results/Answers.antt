use Rattle.std.proofs.Common.{arith}
use Rattle.line.proofs.Puts.{listing_none, listing_room, listing_more, listing_all}
use Rattle.line.proofs.put_results.Goals as goal

pub loop-result-init : goal.loop-result-init
loop-result-init c = listing_none _ _ (cc (c.iter.ensures.rest, c.rev-result-items.ensures.source, c.into_iter-result-iterator.ensures.into_iter_gives))

pub put_spaced-q-requires : goal.put_spaced-q-requires
put_spaced-q-requires c =
    let room = listing_room c.loop-result.invariant c.requires.1 c.requires.0 in
    (omega (arith, room.0), room.1)

pub loop-result-preserved : goal.loop-result-preserved
loop-result-preserved c = listing_more c.loop-result.invariant c.requires.1 _ c.in-Some.ensures.steps (rw c.from.ensures at c.put_spaced-q.ensures)

pub returns : goal.returns
returns c = listing_all c.loop-result.invariant c.requires.1 c.in-None.ensures.steps.0
