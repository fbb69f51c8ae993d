-- The house rows: moduli, roots, and the 36 constants with their one rule. What follows from the rule stands in proofs/.
use Rattle.std.specs.Prelude.{ℕ, zero, suc, ◌-◌, ◌*◌, ◌/◌, ◌%◌, ◌^◌, Bool, ◌&&◌, List, [], ◌∷◌, eqb, get_or}
use Rattle.answer.specs.Lists.{at}
use Rattle.residues.specs.Moduli.{permits}

-- ---- definitions

-- "Three rows, 0 to 2, with moduli 998244353, 469762049, 167772161"; 0 for another row.
unfoldable pub modulus_of : ℕ → ℕ
modulus_of row = at (998244353 ∷ 469762049 ∷ 167772161 ∷ []) row

-- "The root for length 2^n is 3^((m-1)/2^n) modulo m."
unfoldable pub root_of : ℕ → ℕ → ℕ
root_of m n = 3 ^ ((m - 1) / 2 ^ n) % m

-- ---- "these 36 roots are constants with one rule"

-- Row by row, the roots for 2, 4, .., 4096.
unfoldable pub constants : List (List ℕ)
constants =
    (998244352 ∷ 911660635 ∷ 372528824 ∷ 929031873 ∷ 452798380 ∷ 922799308 ∷ 781712469 ∷ 476477967 ∷ 166035806 ∷ 258648936 ∷ 584193783 ∷ 63912897 ∷ []) ∷
    (469762048 ∷ 450151958 ∷ 129701348 ∷ 426037461 ∷ 244709223 ∷ 210853138 ∷ 189158148 ∷ 338628632 ∷ 25153357 ∷ 110059487 ∷ 165447688 ∷ 244412522 ∷ []) ∷
    (167772160 ∷ 65249968 ∷ 71493608 ∷ 116878283 ∷ 17334830 ∷ 54112143 ∷ 370529 ∷ 26238939 ∷ 57844624 ∷ 134785078 ∷ 83629286 ∷ 150794572 ∷ []) ∷
    []

-- The constant at place k of a row: the root for 2^(k+1).
unfoldable pub constant : ℕ → ℕ → ℕ
constant row k = at (get_or constants row []) k

-- "The root for 2 is m - 1, and each root squared is the one for half its length."
unfoldable pub rule : ℕ → ℕ → Bool
rule row zero = eqb (constant row 0) (modulus_of row - 1)
rule row (suc k) = eqb (constant row (suc k) * constant row (suc k) % modulus_of row) (constant row k)

-- Where the squares start: m is permitted, 4096 divides m - 1, and the last root is 3^((m-1)/4096).
unfoldable pub start : ℕ → ℕ → Bool
start m last = permits m && (eqb (m - 1) (4096 * ((m - 1) / 4096)) && eqb last (root_of m 12))
