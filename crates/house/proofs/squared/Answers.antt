use Rattle.std.proofs.Common.{sym, ◌∙◌, add-one}
use Rattle.house_rows.specs.Powers.{power_one, power_squared}
use Rattle.house.proofs.squared.Goals as goal

pub loop-init : goal.loop-init
loop-init c = sym (power_one c.requires)

pub loop-preserved : goal.loop-preserved
loop-preserved c = c.times-power.ensures ∙ rw (c.loop.invariant, add-one) (power_squared _ _ c.loop.counter)
