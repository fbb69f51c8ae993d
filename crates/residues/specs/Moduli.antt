-- The permitted moduli.
use Rattle.std.specs.Prelude.{ℕ, ◌-◌, ◌%◌, ◌^◌, ◌≤◌, ◌≡◌, Bool, true, ◌&&◌, leb, eqb}
use Rattle.std.proofs.Math.Bool.{and-eq-true_iff}
use Rattle.std.proofs.Common.{leb-true, eqb-true, le-leb, eq-eqb}

-- "m is odd, from 3 to 2^31 - 1"; else it is refused by 2, "m even, below 3, or above 2^31 - 1".
unfoldable pub permits : ℕ → Bool
permits m = leb 3 m && (leb m (2 ^ 31 - 1) && eqb (m % 2) 1)

-- The same, fact by fact.
pub record Permitted (m : ℕ) : Type 0 where
  pub least : 3 ≤ m
  pub most : m ≤ 2 ^ 31 - 1
  pub odd : m % 2 ≡ 1

pub permits_permitted : (m : ℕ) → permits m ≡ true → Permitted m
unfolding permits
permits_permitted m e =
    let low = (and-eq-true_iff (leb 3 m) (leb m (2 ^ 31 - 1) && eqb (m % 2) 1)).0 e in
    let high = (and-eq-true_iff (leb m (2 ^ 31 - 1)) (eqb (m % 2) 1)).0 low.1 in
    record { least = leb-true 3 m low.0; most = leb-true m (2 ^ 31 - 1) high.0; odd = eqb-true (m % 2) 1 high.1 }

pub permitted_permits : (m : ℕ) → Permitted m → permits m ≡ true
unfolding permits
permitted_permits m r = rw (le-leb 3 m r.least, le-leb m (2 ^ 31 - 1) r.most, eq-eqb (m % 2) 1 r.odd)
