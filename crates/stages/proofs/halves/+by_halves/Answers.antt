-- Schedule 3 is the block of its first stage, and then itself on either half.
use Rattle.std.specs.Prelude.{◌+◌, ◌/◌, ◌^◌, refl, length}
use Rattle.std.proofs.Common.{◌∙◌, ap, arith}
use borrow.Rule.Slice.PartMut.{put_mid}
use Rattle.fourier.specs.Schedules.{strided}
use Rattle.stages.specs.Laws.{held}
use Rattle.stages.proofs.Cuts.{back_long}
use Rattle.stages.proofs.ByHalves.{sizes, whole, Halfway, halfway_none, halfway_two, halfway_all, halves-one, half_less, half_asked, half_back, first_half, second_half}
use Rattle.stages.proofs.halves.+by_halves.Goals as goal

pub block-requires-clause-buf_len : goal.block-requires-clause-buf_len
block-requires-clause-buf_len g t c =
    whole g.met.P.Places.laws g.met.S.Step.laws c.args.by c.args.stride c.args.buf.now c.requires _ (ap (λ z. z / 2) c.count-h.ensures) c.if-h-gt0.true

pub block-requires-clause-le_stride : goal.block-requires-clause-le_stride
block-requires-clause-le_stride g t c =
    (c.requires.some, (sizes g.met.P.Places.laws g.met.S.Step.laws c.args.by c.args.stride c.args.buf.now c.requires _ (ap (λ z. z / 2) c.count-h.ensures) c.if-h-gt0.true).table)

-- In front of the first half.
pub by_halves-requires : goal.by_halves-requires
by_halves-requires g t c =
    let places = g.met.P.Places.laws in
    let laws = g.met.S.Step.laws in
    let l₀ = c.args.buf.now in
    let eh = ap (λ z. z / 2) c.count-h.ensures in
    let cut = first_half c.block.ensures.len (whole places laws c.args.by c.args.stride l₀ c.requires _ eh c.if-h-gt0.true) in
    let begun = halfway_none c.block.ensures.after in
    (λ κs lives. (
      omega (arith, c.decreases, half_less places laws c.args.by c.args.stride l₀ c.requires _ eh c.if-h-gt0.true c.block.new.buf cut begun),
      (lives.0, (lives.1.0, (lives.1.1.0, (lives.1.1.1, half_asked places laws c.args.by c.args.stride l₀ c.requires _ eh c.if-h-gt0.true c.block.new.buf cut begun)))),
    ))

-- In front of the second.
pub by_halves-requires-then-h-gt1 : goal.by_halves-requires-then-h-gt1
by_halves-requires-then-h-gt1 g t c =
    let places = g.met.P.Places.laws in
    let laws = g.met.S.Step.laws in
    let l₀ = c.args.buf.now in
    let eh = ap (λ z. z / 2) c.count-h.ensures in
    let l₁ = c.block.new.buf in
    let long = whole places laws c.args.by c.args.stride l₀ c.requires _ eh c.if-h-gt0.true in
    let cut = first_half c.block.ensures.len long in
    let middle = half_back places laws c.args.by c.args.stride l₀ c.requires _ eh c.if-h-gt0.true l₁ cut (halfway_none c.block.ensures.after) c.by_halves.new.buf c.by_halves.ensures.len c.by_halves.ensures.after 0 (c.count-h.result / 2) (omega arith) (omega arith) in
    let l₂ = put_mid 0 (length l₁ / 2) l₁ c.by_halves.new.buf in
    let cut₂ = second_half {L = length l₂} (back_long places l₁ cut c.by_halves.new.buf c.by_halves.ensures.len ∙ c.block.ensures.len) long c.block.ensures.len in
    (λ κs lives. (
      omega (arith, c.decreases, half_less places laws c.args.by c.args.stride l₀ c.requires _ eh c.if-h-gt0.true l₂ cut₂ middle),
      (lives.0, (lives.1.0, (lives.1.1.0, (lives.1.1.1, half_asked places laws c.args.by c.args.stride l₀ c.requires _ eh c.if-h-gt0.true l₂ cut₂ middle)))),
    ))

-- Behind the second.
pub returns-then-h-gt1-clause-after : goal.returns-then-h-gt1-clause-after
returns-then-h-gt1-clause-after g t c n e =
    let places = g.met.P.Places.laws in
    let laws = g.met.S.Step.laws in
    let l₀ = c.args.buf.now in
    let eh = ap (λ z. z / 2) c.count-h.ensures in
    let l₁ = c.block.new.buf in
    let long = whole places laws c.args.by c.args.stride l₀ c.requires _ eh c.if-h-gt0.true in
    let cut = first_half c.block.ensures.len long in
    let middle = half_back places laws c.args.by c.args.stride l₀ c.requires _ eh c.if-h-gt0.true l₁ cut (halfway_none c.block.ensures.after) c.by_halves.new.buf c.by_halves.ensures.len c.by_halves.ensures.after 0 (c.count-h.result / 2) (omega arith) (omega arith) in
    let l₂ = put_mid 0 (length l₁ / 2) l₁ c.by_halves.new.buf in
    let cut₂ = second_half {L = length l₂} (back_long places l₁ cut c.by_halves.new.buf c.by_halves.ensures.len ∙ c.block.ensures.len) long c.block.ensures.len in
    let ended = half_back places laws c.args.by c.args.stride l₀ c.requires _ eh c.if-h-gt0.true l₂ cut₂ middle c.by_halves-then-h-gt1.new.buf c.by_halves-then-h-gt1.ensures.len c.by_halves-then-h-gt1.ensures.after 1 (c.count-h.result / 2 + c.count-h.result / 2) (omega arith) refl in
    let size = places.long l₀ (2 ^ n) e in
    rw size at (halfway_all ended (sizes places laws c.args.by c.args.stride l₀ c.requires _ eh c.if-h-gt0.true).whole c.if-h-gt0.true n size)

-- Two places: nothing is left to do.
pub returns-else-h-gt1-clause-after : goal.returns-else-h-gt1-clause-after
returns-else-h-gt1-clause-after g t c n e =
    let eh = ap (λ z. z / 2) c.count-h.ensures in
    let size = g.met.P.Places.laws.long c.args.buf.now (2 ^ n) e in
    let k = sizes g.met.P.Places.laws g.met.S.Step.laws c.args.by c.args.stride c.args.buf.now c.requires _ eh c.if-h-gt0.true in
    let begun : Halfway g.P.Places.zero (g.S.Step.wing c.args.by) c.args.stride (c.count-h.result / 2) (held g.P.Places.zero (g.P.Places.values c.args.buf.now)) 0 (g.P.Places.values c.block.new.buf) = halfway_none c.block.ensures.after in
    rw size at (halfway_all (halfway_two begun (omega (arith, c.if-h-gt1.false, c.if-h-gt0.true))) k.whole c.if-h-gt0.true n size)

-- A single place.
pub returns-else-h-gt0-clause-after : goal.returns-else-h-gt0-clause-after
returns-else-h-gt0-clause-after g t c n e =
    let size = g.met.P.Places.laws.long c.args.buf.now (2 ^ n) e in
    rw size at (halves-one g.P.Places.zero (strided c.args.stride (g.S.Step.wing c.args.by)) (g.P.Places.values c.args.buf.now) n size (rw c.count-h.ensures at c.if-h-gt0.false))

-- The doubled stride fits, where the table does.
pub overflow_add-stride : goal.overflow_add-stride
overflow_add-stride g t c =
    let k = sizes g.met.P.Places.laws g.met.S.Step.laws c.args.by c.args.stride c.args.buf.now c.requires _ (ap (λ z. z / 2) c.count-h.ensures) c.if-h-gt0.true in
    record { fits = omega (arith, k.most, g.met.S.Step.laws.fits c.args.by) }

pub overflow_add-stride-then-h-gt1 : goal.overflow_add-stride-then-h-gt1
overflow_add-stride-then-h-gt1 g t c =
    let k = sizes g.met.P.Places.laws g.met.S.Step.laws c.args.by c.args.stride c.args.buf.now c.requires _ (ap (λ z. z / 2) c.count-h.ensures) c.if-h-gt0.true in
    record { fits = omega (arith, k.most, g.met.S.Step.laws.fits c.args.by) }
