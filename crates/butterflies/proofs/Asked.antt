-- What the schedules ask of sizes, of a table with 2,048 entries at most.
use Rattle.std.specs.Prelude.{ℕ, ◌-◌, ◌*◌, ◌^◌, ◌≤◌, ◌≡◌}
use Rattle.std.proofs.Common.{arith}
use Rattle.stages.proofs.Sizes.{twelve}

pub sizes : {k n N h : ℕ} → (k ≤ n) × (N ≡ 2 ^ n) × (h ≡ 2 ^ (n - 1)) → h ≤ 2048 → (k ≤ n) × (n ≤ 12) × (N ≡ 1 * 2 ^ n) × (h ≡ 2 ^ (n - 1))
sizes l few = (l.0, twelve l.2 few, omega (arith, l.1), l.2)
