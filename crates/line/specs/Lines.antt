-- The line that is printed, in ASCII.
use Rattle.std.specs.Prelude.{ℕ, suc, ◌+◌, ◌/◌, ◌%◌, ◌<◌, ◌≤◌, ◌≡◌, List, [], ◌∷◌, ◌++◌, length}
use Rattle.std.proofs.Common.{◌∙◌, arith, length-append}
use Rattle.groups.specs.Bases.{in_base, base_one, base_more, base_every, base_enough}
use Rattle.reading.specs.Requests.{Printed}

-- v in decimal, of at most k digits and one.
abbrev pub digits : ℕ → ℕ → List ℕ
digits = in_base 10 (λ v. (48 + v) ∷ []) (λ digit rest. rest ++ (48 + digit) ∷ [])

-- A number below 2^64 in decimal.
abbrev pub decimal : ℕ → List ℕ
decimal v = digits 19 v

-- Each number with a space in front of it.
unfoldable pub spaced : List ℕ → List ℕ
spaced [] = []
spaced (v ∷ l) = 32 ∷ decimal v ++ spaced l

-- "It prints number and place and, on success, the N results in buffer order, with single spaces and a newline."
unfoldable pub line : Printed → List ℕ
line r = decimal r.answer.number ++ spaced (r.answer.place ∷ r.results) ++ 10 ∷ []

-- ---- decimals by their last digit

pub decimal-one : (v : ℕ) → v < 10 → decimal v ≡ (48 + v) ∷ []
decimal-one = base_one 10 _ _ 19

pub decimal_more : (v : ℕ) → 10 ≤ v → v < 18446744073709551616 → decimal v ≡ decimal (v / 10) ++ (48 + v % 10) ∷ []
decimal_more v h l =
    base_more 10 _ _ 18 v h ∙ rw (base_enough 10 (λ v. (48 + v) ∷ []) (λ digit rest. rest ++ (48 + digit) ∷ []) (omega arith) 18 (v / 10) (omega arith))

-- At least one digit, and twenty at most.
pub decimal_few : (v : ℕ) → (1 ≤ length (decimal v)) × (length (decimal v) ≤ 20)
decimal_few v =
    base_every 10 _ _ (λ k l. (1 ≤ length l) × (length l ≤ suc k)) (λ k v. (omega arith, omega arith))
    (λ k d l r. rw length-append (omega arith, omega arith)) 19 v
