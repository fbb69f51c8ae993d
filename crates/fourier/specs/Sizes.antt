-- Facts about N = 2^n: a stage halves the rows, and N/2 is what is left of them in all the columns.
use Rattle.std.specs.Prelude.{ℕ, suc, ◌+◌, ◌-◌, ◌*◌, ◌^◌, ◌<◌, ◌≡◌}
use Rattle.std.proofs.Common.{ap, ◌∙◌, arith, pow-add}
use Rattle.std.proofs.Math.Nat.{two-pow-succ}

pub one_more : {n s : ℕ} → s < n → n - s ≡ suc (n - suc s)
one_more l = omega arith

pub rows : {n s : ℕ} → s < n → 2 ^ (n - s) ≡ 2 ^ (n - suc s) + 2 ^ (n - suc s)
rows {n} {s} l = rw (one_more l) (two-pow-succ (n - suc s))

pub two_halves : (n : ℕ) → 0 < n → 2 ^ n ≡ 2 ^ (n - 1) + 2 ^ (n - 1)
two_halves n l = let e : n ≡ suc (n - 1) = omega arith in ap (λ (z : ℕ). 2 ^ z) e ∙ two-pow-succ (n - 1)

pub half_buffer : {n s : ℕ} → s < n → 2 ^ (n - suc s) * 2 ^ s ≡ 2 ^ (n - 1)
half_buffer {n} {s} l = let e : n - 1 ≡ n - suc s + s = omega arith in rw (e, pow-add)
