-- By the test of the place; the sizes of the three pairs are known.
use Rattle.std.proofs.Common.{rules, ◌-◌, ◌/◌, ◌<◌, sym, ap, ◌∙◌, length, arith}
use Rattle.points.specs.Interleaved.{point}
use Rattle.points.specs.Steps.{Turn}
use Rattle.rules.specs.Pairs.{starts, sized-turn}
use Rattle.tables.specs.Rules.{passed_turn}
use Rattle.tables.proofs.Rules.{linked-first, linked_later, second_turn}
use Rattle.tables.proofs.judging.linked.Goals as goal

pub returns-then-place-eq0 : goal.returns-then-place-eq0
returns-then-place-eq0 c = c.starts.ensures ∙ ap starts c.entry-here.ensures ∙ sym (linked-first _ _ _ c.if-place-eq0.true)

pub follows-requires : goal.follows-requires
follows-requires c =
    let h = length c.args.table.now / 2 in
    let t = point c.args.table.now in
    let place = c.args.place in
    let later : 0 < place = omega arith in
    let here = sized-turn _ c.requires.here in
    let x : Turn c.entry-x.result = rw c.entry-x.ensures (second_turn h t place later c.requires.before here) in
    let p : Turn c.entry-before.result = rw c.entry-before.ensures (passed_turn h t c.requires.before (place - 1) (omega arith)) in
    let q : Turn c.entry-here.result = rw c.entry-here.ensures here in
    search rules

pub returns-else-place-eq0 : goal.returns-else-place-eq0
returns-else-place-eq0 c =
    c.follows.ensures ∙ rw (c.entry-x.ensures, c.entry-before.ensures, c.entry-here.ensures) (sym (linked_later _ _ _ (omega arith)))
