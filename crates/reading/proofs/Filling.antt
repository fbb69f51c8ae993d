-- How several numbers are read, one behind the other.
use Prim.Native.Nat.{ℕ, suc, ◌+◌, ◌-◌, ◌<◌, ◌≤◌}
use mathlib.Core.Path.{◌≡◌, refl, ◌∙◌}
use mathlib.Core.List.{List}
use Rattle.std.proofs.Common.{Ok, Err}
use native.Mathlib.Nat.{sub-zero}
use native.Mathlib.Numerals.{add-one}
use native.Mathlib.Omega.{arith}
use lib.ListN.{length, set, length-set}
use lib.Seq.{sets}
use Rattle.groups.specs.declared.Fault.{Fault}
use Rattle.groups.specs.Groups.{number_at}
use Rattle.reading.specs.Requests.{behind, many_at, and_behind, values_at}

-- Of the numbers that fill out₀ from its start, those that stand from place next of s on are left to be put into out from i on.
pub record Filling (s : List ℕ) (p : ℕ) (out₀ out : List ℕ) (next i : ℕ) : Type 0 where
  pub long : length out ≡ length out₀
  pub rest : many_at (length out₀) s p ≡ many_at (length out₀ - i) s next
  pub left : sets out₀ 0 (values_at (length out₀) s p) ≡ sets out i (values_at (length out₀ - i) s next)

pub filling_none : (s : List ℕ) (p : ℕ) (out : List ℕ) → Filling s p out out p 0
filling_none s p out = let z = sub-zero (length out) in record { long = refl; rest = rw z; left = rw z }

module _ {s : List ℕ} {p : ℕ} {out₀ out : List ℕ} {next i : ℕ} (r : Filling s p out₀ out next i) where
  -- All are read.
  module _ (h : length out ≤ i) where
    none : length out₀ - i ≡ 0
    none = omega (arith, r.long)

    pub filling_all : many_at (length out₀) s p ≡ Ok next
    unfolding many_at
    filling_all = rw none at r.rest

    pub filled_all : sets out₀ 0 (values_at (length out₀) s p) ≡ out
    unfolding values_at
    filled_all = rw none at r.left

  module _ (h : i < length out) where
    one : length out₀ - i ≡ suc (length out₀ - suc i)
    one = omega (arith, r.long)

    -- One more is read.
    pub filling_more : {v q : ℕ} → number_at s next ≡ Ok (v, q) → Filling s p out₀ (set out i v) q (i + 1)
    unfolding many_at behind values_at and_behind
    filling_more {v} {q} e = record {
      long = length-set out i v ∙ r.long;
      rest = rw add-one (rw (one, e) at r.rest);
      left = rw add-one (rw (one, e) at r.left);
    }

    -- A fault ends it.
    module _ {fault : Fault} (e : number_at s next ≡ Err fault) where
      pub filling_broken : many_at (length out₀) s p ≡ Err fault
      unfolding many_at behind
      filling_broken = rw (one, e) at r.rest

      pub filled_broken : sets out₀ 0 (values_at (length out₀) s p) ≡ out
      unfolding values_at and_behind
      filled_broken = rw (one, e) at r.left
