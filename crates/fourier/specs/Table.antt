-- The rules of a table modulo m, place by place. That an accepted table is the powers of a root with x^(N/2) = -1 stands in proofs/.
use Prim.Native.Nat.{ℕ, zero, suc, ◌+◌, ◌-◌, ◌*◌, ◌%◌, ◌<◌}
use Rattle.std.specs.Prelude.{Bool, cond, ◌&&◌, ltb, eqb}
use Rattle.std.proofs.Common.{mod-lt, lt-ltb, le-ltb}
use native.Mathlib.Omega.{arith}
use Rattle.std.proofs.Math.Decide.{dec_lt}
use Rattle.answer.specs.Search.{Passed}

-- ---- document 01's rules, for a table t of h = N/2 entries

-- "Its root x is its second entry, or m - 1 when N = 2."
unfoldable pub root : ℕ → ℕ → (ℕ → ℕ) → ℕ
root m h t = cond (eqb h 1) (m - 1) (t 1)

-- What the rules want at place i: 1 at the first, and "each entry from place 1 is the one before it times x modulo m".
unfoldable pub wanted : ℕ → ℕ → (ℕ → ℕ) → ℕ → ℕ
wanted m h t zero = 1
wanted m h t (suc i) = t i * root m h t % m

-- Whether the rules hold at place i: an entry is below m and what is wanted; at h, "the last entry times x is m - 1".
unfoldable pub rule : ℕ → ℕ → (ℕ → ℕ) → ℕ → Bool
rule m h t i = cond (ltb i h) (ltb (t i) m && eqb (t i) (wanted m h t i)) (eqb (wanted m h t i) (m - 1))

-- The table is accepted: the rules hold at every place, h among them.
abbrev pub Accepted : ℕ → ℕ → (ℕ → ℕ) → Type 0
Accepted m h t = Passed (rule m h t) (suc h)

-- "An exponent e from N/2 to N - 1 means minus the entry at e - N/2."
unfoldable pub lookup : ℕ → ℕ → (ℕ → ℕ) → ℕ → ℕ
lookup m h t e = cond (ltb e h) (t e) ((m - t (e - h)) % m)

-- x^(-e), looked up at the exponent (N - e) mod N.
unfoldable pub back : ℕ → ℕ → (ℕ → ℕ) → ℕ → ℕ
back m h t e = lookup m h t ((h + h - e) % (h + h))

-- Of a table of residues the lookup gives residues.
pub lookup-below : (m h : ℕ) (t : ℕ → ℕ) → 0 < m → ((i : ℕ) → i < h → t i < m) → (e : ℕ) → lookup m h t e < m
unfolding lookup
lookup-below m h t pos small e = by (dec_lt e h)
  where
    by : Dec (e < h) → lookup m h t e < m
    by (yes low) = rw (lt-ltb e h low) (small e low)
    by (no high) = rw (le-ltb e h (omega arith)) (mod-lt _ pos)
