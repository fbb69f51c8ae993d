use Rattle.std.proofs.Common.{◌≡◌, ◌<◌, ◌+◌, Some, refl, length, sym, ap, ◌∙◌, ne_eqb, arith, rules}
use Rattle.residue_tables.proofs.Rules.{reached_none, reached_more, entry-rule, closing_rule, refused, accepted}
use Rattle.residue_tables.proofs.judge_table.Goals as goal

pub loop-place-init : goal.loop-place-init
loop-place-init c = (refl, omega arith, reached_none _ _ _)

pub loop-place-preserved : goal.loop-place-preserved
loop-place-preserved c =
    let old = c.loop-place.places in
    let e : old.start ≡ c.in-Some.place = search (rules, c.in-Some.ensures.steps) in
    let inside : old.start < length c.args.table.now = search (rules, arith, c.in-Some.ensures.steps) in
    let next : c.next.new.self.start ≡ old.start + 1 = search (rules, arith, c.in-Some.ensures.steps) in
    let same : c.next.new.self.end ≡ old.end = search (rules, c.in-Some.ensures.steps) in
    (omega arith, omega arith, rw (c.product-wanted.ensures, c.root_of-x.ensures, next, ← e) (reached_more c.loop-place.invariant.2 (omega arith) inside (rw e c.if-entry-wanted.false)))

pub returns-then-closes : goal.returns-then-closes
returns-then-closes c =
    let r = c.loop-place.invariant.2 in
    let e : c.loop-place.places.start ≡ length c.args.table.now = search (rules, arith, c.in_default.ensures.steps) in
    accepted r e (closing_rule r e ∙ sym c.closes.ensures ∙ c.if-closes.true)

pub returns-else-closes : goal.returns-else-closes
returns-else-closes c =
    let r = c.loop-place.invariant.2 in
    let e : c.loop-place.places.start ≡ length c.args.table.now = search (rules, arith, c.in_default.ensures.steps) in
    ap Some (sym e) ∙ refused r (omega arith) (closing_rule r e ∙ sym c.closes.ensures ∙ c.if-closes.false)

pub returns-then-entry-wanted : goal.returns-then-entry-wanted
returns-then-entry-wanted c =
    let r = c.loop-place.invariant.2 in
    let e : c.loop-place.places.start ≡ c.in-Some.place = search (rules, c.in-Some.ensures.steps) in
    let inside : c.loop-place.places.start < length c.args.table.now = search (rules, arith, c.in-Some.ensures.steps) in
    rw e at (refused r (omega arith) (entry-rule r (omega arith) inside ∙ ne_eqb _ _ (rw e c.if-entry-wanted.true)))
