-- Numbers "in groups of seven bits, low group first, top bit set on all but the last; shortest form only, below 2^32".
use Rattle.std.specs.Prelude.{ℕ, zero, suc, ◌+◌, ◌-◌, ◌*◌, ◌^◌, Bool, false, cond, List, [], ◌∷◌, length, ltb, eqb, Result, Ok, Err}
use Rattle.answer.specs.Lists.{at}
use Rattle.groups.specs.Bases.{in_base}
use Rattle.groups.specs.declared.Fault.{Fault}

-- A number and the place behind it, or what is wrong.
abbrev pub Number : Type 0
Number = Result (ℕ × ℕ) Fault

-- A fault, with the place that it names.
abbrev pub fault : ℕ → Number
fault p = Err (record { place = p })

-- A number whose last is byte i is "not in shortest form": that byte is a 0 behind others.
abbrev pub overlong : ℕ → ℕ → Bool
overlong i byte = cond (eqb byte 0) (ltb 0 i) false

-- The number of value v from place p on, of which byte i is the last: a fault, "place its first byte", or the number and the place behind.
unfoldable pub whole : ℕ → ℕ → ℕ → ℕ → Number
whole p i byte v = cond (overlong i byte) (fault p) (cond (ltb v 4294967296) (Ok (v, suc (p + i))) (fault p))

-- The number from place p of s on, read from its byte i, with k bytes left to it; the bytes before make `low`.
unfoldable pub reading : List ℕ → ℕ → ℕ → ℕ → ℕ → Number
reading s p zero i low = fault p
reading s p (suc k) i low =
    let byte = at s (p + i) in
    cond (ltb (p + i) (length s))
    (cond (ltb byte 128) (whole p i byte (low + 128 ^ i * byte)) (reading s p k (suc i) (low + 128 ^ i * (byte - 128))))
    (fault (length s))

-- What stands at place p of s: five bytes at most; "input that ends before or inside a number, the input's length".
abbrev pub number_at : List ℕ → ℕ → Number
number_at s p = reading s p 5 0 0

-- The shortest form of v, of at most k bytes and one: the top bit is set on all but the last.
abbrev pub groups : ℕ → ℕ → List ℕ
groups = in_base 128 (λ v. v ∷ []) (λ group rest. (group + 128) ∷ rest)

-- The shortest form of a number below 2^32.
abbrev pub bytes_of : ℕ → List ℕ
bytes_of v = groups 4 v
