use native.Mathlib.Omega.{arith}
use native.Mathlib.Numerals.{add-one}
use mathlib.Core.Path.{sym, ◌∙◌}
use Prim.Native.Nat.{◌-◌, ◌+◌}
use Rattle.groups.proofs.Reading.{front, read_none, read_all, read_ended, read_last, read_more, unit_small, group_small}
use Rattle.groups.specs.Theorems.{whole-value, whole_long, whole_large}
use Rattle.groups.proofs.number_at.Goals as goal

pub returns-in_default : goal.returns-in_default
returns-in_default c = sym (read_ended (read_none _ _) (omega arith) (omega (arith, c.in_default.ensures.lookup)))

pub loop-i-init : goal.loop-i-init
loop-i-init c = record { front = front _ _ _ _ c.in-Some.ensures.lookup.0.0 c.in-Some.ensures.lookup.0.2 c.min.ensures; read = read_none _ _ }

pub returns-then-overlong : goal.returns-then-overlong
returns-then-overlong c =
    let l = c.loop-i.invariant in
    let is = c.from-byte.ensures ∙ l.front.same c.loop-i.i c.loop-i-test.true in
    sym (read_last l.read (omega arith) (omega arith) is c.if-byte-lt128.true ∙ whole_long _ _ _ _ (sym c.overlong.ensures ∙ c.if-overlong.true))

pub overflow_mul-unit : goal.overflow_mul-unit
overflow_mul-unit c = omega (arith, (group_small c.loop-i.invariant.read (omega arith) c.from-byte.result c.if-byte-lt128.true).0)

pub overflow_add-low : goal.overflow_add-low
overflow_add-low c = omega (arith, (group_small c.loop-i.invariant.read (omega arith) c.from-byte.result c.if-byte-lt128.true).1)

pub returns-in_default-try_from : goal.returns-in_default-try_from
returns-in_default-try_from c =
    let l = c.loop-i.invariant in
    let is = c.from-byte.ensures ∙ l.front.same c.loop-i.i c.loop-i-test.true in
    sym (read_last l.read (omega arith) (omega arith) is c.if-byte-lt128.true ∙ whole_large _ _ _ _ (sym c.overlong.ensures ∙ c.if-overlong.false) (omega (arith, c.in_default-try_from.ensures)))

pub returns-then-byte-lt128 : goal.returns-then-byte-lt128
returns-then-byte-lt128 c =
    let l = c.loop-i.invariant in
    let is = c.from-byte.ensures ∙ l.front.same c.loop-i.i c.loop-i-test.true in
    let value = c.in-Ok.ensures in
    let all = read_last l.read (omega arith) (omega arith) is c.if-byte-lt128.true ∙ whole-value _ _ _ _ (sym c.overlong.ensures ∙ c.if-overlong.false) value.0 in
    rw (value.1, add-one) (sym all)

pub overflow_mul-low : goal.overflow_mul-low
overflow_mul-low c =
    let l = c.loop-i.invariant in
    let is = c.from-byte.ensures ∙ l.front.same c.loop-i.i c.loop-i-test.true in
    omega (arith, (group_small l.read (omega arith) (c.from-byte.result - 128) (omega (arith, is, c.type_inv.s (c.args.p + c.loop-i.i)))).0)

pub overflow_add-low-in-loop-i : goal.overflow_add-low-in-loop-i
overflow_add-low-in-loop-i c =
    let l = c.loop-i.invariant in
    let is = c.from-byte.ensures ∙ l.front.same c.loop-i.i c.loop-i-test.true in
    omega (arith, (group_small l.read (omega arith) (c.from-byte.result - 128) (omega (arith, is, c.type_inv.s (c.args.p + c.loop-i.i)))).1)

pub overflow_mul-unit-in-loop-i : goal.overflow_mul-unit-in-loop-i
overflow_mul-unit-in-loop-i c = omega (arith, unit_small c.loop-i.invariant.read (omega arith))

pub loop-i-preserved : goal.loop-i-preserved
loop-i-preserved c =
    let l = c.loop-i.invariant in
    let is = c.from-byte.ensures ∙ l.front.same c.loop-i.i c.loop-i-test.true in
    record { front = l.front; read = read_more l.read (omega arith) (omega arith) is c.if-byte-lt128.false (omega (arith, is, c.type_inv.s (c.args.p + c.loop-i.i))) }

pub returns-then-bytes-lt5 : goal.returns-then-bytes-lt5
returns-then-bytes-lt5 c = sym (read_ended c.loop-i.invariant.read (omega arith) (omega arith))

pub returns-else-bytes-lt5 : goal.returns-else-bytes-lt5
returns-else-bytes-lt5 c = sym (read_all c.loop-i.invariant.read (omega arith))
