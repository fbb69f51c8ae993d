use Rattle.std.specs.Prelude.{◌+◌, ◌*◌, ◌%◌, ◌^◌, ◌≡◌, ℕ}
use Rattle.std.proofs.Common.{◌∙◌, add-one, pow-suc}
use Rattle.algebra.specs.Gaps.{mod_mul_left}
use Rattle.runs.proofs.factor.Goals as goal

-- Once more.
power_next : (h m i power : ℕ) → power ≡ h ^ i % m → power * h % m ≡ h ^ (i + 1) % m
power_next h m i power e = rw (e, mod_mul_left, add-one, pow-suc)

pub loop-i-preserved : goal.loop-i-preserved
loop-i-preserved c = c.times-power.ensures ∙ power_next _ _ _ _ c.loop-i.invariant
