-- What the rules of a table in fixed point ask of its pairs.
use Rattle.std.specs.Prelude.{ℕ, ◌+◌, ◌≤◌, ◌≡◌, Bool, true, false, ◌&&◌, leb, eqb, ℤ, pos, negsuc, nat_abs}
use Rattle.std.proofs.Math.Bool.{and-eq-true_iff}
use Rattle.std.proofs.Common.{arith, leb-true}
use Rattle.std.specs.Int.Signed.{non_neg}
use Rattle.points.specs.Steps.{minus, times, scaled, Turn}
use Rattle.points.specs.declared.Point.{Point}

-- ---- document 01's words

-- Whether a number is n.
abbrev pub is : ℤ → ℕ → Bool
is (pos a) n = eqb a n
is (negsuc a) n = false

-- "Is (16,384, 0)."
unfoldable pub starts : Point → Bool
starts p = is p.re 16384 && is p.im 0

-- "The imaginary part is at least 0, and the sizes of both parts sum to at most 23,171."
unfoldable pub sized : Point → Bool
sized p = non_neg p.im && leb (nat_abs p.re + nat_abs p.im) 23171

-- "Differs .. by at most 32,768."
abbrev pub near : ℤ → Bool
near off = leb (nat_abs off) 32768

-- p "times" x "differs from 16,384" q "by at most 32,768 in each part".
unfoldable pub follows : Point → Point → Point → Bool
follows x p q = let off = minus (times p x) (scaled 16384 q) in near off.re && near off.im

-- ---- the sizes of a pair

-- Each part is at most what their sizes sum to.
pub record Small (z : ℤ) : Type 0 where
  pub size : nat_abs z ≤ 23171

pub re_small : {p : Point} → Turn p → Small p.re
re_small s = record { size = omega arith }

pub im_small : {p : Point} → Turn p → Small p.im
im_small s = record { size = omega arith }

pub sized-turn : (p : Point) → sized p ≡ true → Turn p
unfolding sized
sized-turn p e = record { sizes = leb-true _ 23171 ((and-eq-true_iff (non_neg p.im) (leb (nat_abs p.re + nat_abs p.im) 23171)).0 e).1 }
