-- The search for the first bad place. What its answer says stands in proofs/.
use Prim.Native.Nat.{ℕ, zero, suc, ◌+◌, ◌<◌}
use Rattle.std.specs.Prelude.{◌≡◌, Bool, cond, Option, Some, None}
use Rattle.std.proofs.Math.Bool.{true, false}
use Rattle.std.proofs.Common.{arith, below_more}

-- The first of the places i, i + 1, .. (k of them) at which the test fails.
unfoldable pub first : (ℕ → Bool) → ℕ → ℕ → Option ℕ
first ok i zero = None
first ok i (suc k) = cond (ok i) (first ok (suc i) k) (Some i)

-- The test holds at each of the places 0, .., k - 1.
pub record Passed (ok : ℕ → Bool) (k : ℕ) : Type 0 where
  pub each : (q : ℕ) → q < k → ok q ≡ true

-- p is the first of the places 0, .., k - 1 at which the test fails.
pub record FailsFirst (ok : ℕ → Bool) (k p : ℕ) : Type 0 where
  pub within : p < k
  pub fails : ok p ≡ false
  pub before : Passed ok p

-- How a loop over the places keeps what it has seen.
pub passed_none : (ok : ℕ → Bool) → Passed ok 0
passed_none ok = record { each = λ q h. absurd (omega arith) }

pub passed_more : {ok : ℕ → Bool} {i : ℕ} → Passed ok i → ok i ≡ true → Passed ok (i + 1)
passed_more {ok} {i} r e = record { each = below_more (λ q. ok q ≡ true) i r.each e }
