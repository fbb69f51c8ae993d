-- A number by its digits in a base, from the lowest on.
use Prim.Native.Nat.{ℕ, zero, suc, ◌/◌, ◌%◌, ◌^◌, ◌<◌, ◌≤◌}
use Rattle.std.specs.Prelude.{◌≡◌, cond, ltb}
use Rattle.std.proofs.Math.Path.{refl}
use Rattle.std.proofs.Common.{sym, ◌∙◌, pow-suc, one-mul, div-lt_iff_lt-mul, arith, lt-ltb, le-ltb}
use Rattle.std.proofs.Math.Nat.{pow-zero}
use Rattle.std.proofs.Math.Decide.{dec_lt}

-- A digit less.
pub base_less : (base k v : ℕ) → 0 < base → v < base ^ suc k → v / base < base ^ k
base_less base k v pos h = (div-lt_iff_lt-mul {k = base} {x = v} {y = base ^ k} pos).1 (rw pow-suc at h)

module _ {A : Type 0} (base : ℕ) (last : ℕ → A) (more : ℕ → A → A) where
  -- v in the base, of at most k digits and one: `last` of a single digit, and `more` of the lowest digit and what those behind it make.
  unfoldable pub in_base : ℕ → ℕ → A
  in_base zero v = last v
  in_base (suc k) v = cond (ltb v base) (last v) (more (v % base) (in_base k (v / base)))

  pub base_one : (k v : ℕ) → v < base → in_base k v ≡ last v
  unfolding in_base
  base_one zero v h = refl
  base_one (suc k) v h = rw (lt-ltb v base h)

  pub base_more : (k v : ℕ) → base ≤ v → in_base (suc k) v ≡ more (v % base) (in_base k (v / base))
  unfolding in_base
  base_more k v h = rw (le-ltb v base h)

  -- What holds of a single digit, and of one more, holds of every number.
  pub base_every : (P : ℕ → A → Type 0) → ((k v : ℕ) → P k (last v)) → ((k d : ℕ) (a : A) → P k a → P (suc k) (more d a)) → (k v : ℕ) → P k (in_base k v)
  unfolding in_base
  base_every P one step zero v = one zero v
  base_every P one step (suc k) v = by (dec_lt v base) (base_every P one step k (v / base))
    where
      by : Dec (v < base) → P k (in_base k (v / base)) → P (suc k) (in_base (suc k) v)
      by (yes l) r = rw (base_one (suc k) v l) (one (suc k) v)
      by (no l) r = rw (base_more k v (omega arith)) (step k (v % base) (in_base k (v / base)) r)

  module _ (pos : 0 < base) where
    -- A digit more than there are changes nothing.
    pub base_enough : (k v : ℕ) → v < base ^ suc k → in_base (suc k) v ≡ in_base k v
    base_enough zero v h = let l : v < base = rw (pow-suc, pow-zero, one-mul) at h in base_one 1 v l ∙ sym (base_one 0 v l)
    base_enough (suc k) v h = by (dec_lt v base) (base_enough k (v / base) (base_less base (suc k) v pos h))
      where
        by : Dec (v < base) → in_base (suc k) (v / base) ≡ in_base k (v / base) → in_base (suc (suc k)) v ≡ in_base (suc k) v
        by (yes l) e = base_one (suc (suc k)) v l ∙ sym (base_one (suc k) v l)
        by (no l) e = base_more (suc k) v (omega arith) ∙ rw e (sym (base_more k v (omega arith)))
