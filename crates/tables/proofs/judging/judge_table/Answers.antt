use Rattle.std.proofs.Common.{sym, ◌≡◌, ◌<◌, ◌/◌, ◌∙◌, suc, length, arith, rules}
use Rattle.answer.proofs.Search.{first_passed, first_failed}
use Rattle.tables.proofs.judging.judge_table.Goals as goal

pub returns-in_default : goal.returns-in_default
returns-in_default c =
    let e : c.loop-place.places.start ≡ suc (length c.args.table.now / 2) = search (rules, arith, c.in_default.ensures.steps) in
    sym (first_passed (rw e at c.loop-place.invariant.2))

pub returns-then-not-holds : goal.returns-then-not-holds
returns-then-not-holds c =
    let e : c.loop-place.places.start ≡ c.in-Some.place = search (rules, c.in-Some.ensures.steps) in
    let inside : c.in-Some.place < suc (length c.args.table.now / 2) = search (rules, arith, c.in-Some.ensures.steps) in
    sym (first_failed (record { within = inside; fails = sym c.holds.ensures ∙ c.if-not-holds.true; before = rw e at c.loop-place.invariant.2 }))
