-- Document 01's sentences about the stages, pair by pair, and the pairs of a stage in place. That the stages of Schedules are as the
-- sentences say, and that only they are, stands in proofs/.
use Rattle.std.specs.Prelude.{ℕ, zero, suc, ◌+◌, ◌-◌, ◌*◌, ◌/◌, ◌%◌, ◌^◌, ◌<◌, ◌≡◌, refl, ◌⊎◌}
use Rattle.std.proofs.Common.{sym, ap, ◌∙◌, inl, inr, div-add-mod', arith}
use Rattle.std.proofs.Math.Nat.{mul-add-mod_self_right, mul-add-div_right}
use Rattle.std.proofs.Math.Arith.{digits_div, digits_mod}
use Rattle.fourier.specs.Reverse.{rev}
use Rattle.fourier.specs.Schedules.{Source, from, Stage, butterfly}

-- ---- the sentences

-- Places p and q receive the two parts of the step at the exponent e, on what stood at the places a and b.
pub record Receive (σ : Stage) (p q e a b : ℕ) : Type 0 where
  pub sum : σ p ≡ from 0 e a b
  pub difference : σ q ≡ from 1 e a b

-- Places k and k + N/2 give places 2k and 2k + 1, for k below N/2, at the exponent e k.
abbrev pub Shuffles : ℕ → (ℕ → ℕ) → Stage → Type 0
Shuffles n e σ = (k : ℕ) → k < 2 ^ (n - 1) → Receive σ (2 * k) (2 * k + 1) (e k) k (k + 2 ^ (n - 1))

-- Schedule 1: "Stage s works on N/2^s rows (call it r) and c = 2^s columns, r' = r/2. Places rj + i and rj + i + r' with j < c,
-- i < r' receive the sum, and x^(c i) times the difference."
abbrev pub ByColumns : ℕ → ℕ → Stage → Type 0
ByColumns n s σ =
    let r = 2 ^ (n - s) in
    let c = 2 ^ s in
    let r' = 2 ^ (n - suc s) in
    (j i : ℕ) → j < c → i < r' → Receive σ (r * j + i) (r * j + i + r') (c * i) (r * j + i) (r * j + i + r')

-- Schedule 2: "Places k and k + N/2 give places 2k (sum) and 2k + 1 (x^e times the difference), for k below N/2, e = k - (k mod 2^s)."
abbrev pub ByShuffle : ℕ → ℕ → Stage → Type 0
ByShuffle n s = Shuffles n (λ k. k - k % 2 ^ s)

-- Schedule 4, with t + 1 for the document's t: "Stage t from 1 to n pairs l and l + 2^(t-1), where bit t - 1 of l is 0. The second is
-- first multiplied by x^e, e = (N/2^t)(l mod 2^(t-1)); then sum and difference stay at the two places."
abbrev pub ByThong : ℕ → ℕ → Stage → Type 0
ByThong n t σ = (l : ℕ) → l < 2 ^ n → l / 2 ^ t % 2 ≡ 0 → Receive σ l (l + 2 ^ t) (2 ^ (n - suc t) * (l % 2 ^ t)) l (l + 2 ^ t)

-- Schedule 5, likewise: "Stage t from 1 to n takes l and l + N/2, multiplies the second by x^e, and puts sum and difference at 2l and
-- 2l + 1. e is N/2^t times the reversal of the low t - 1 bits of l."
abbrev pub ByPease : ℕ → ℕ → Stage → Type 0
ByPease n t = Shuffles n (λ l. 2 ^ (n - suc t) * rev t (l % 2 ^ t))

-- ---- the pairs of a stage cover each place once

-- Two pairs that a place belongs to are one, and it has one part in it.
pub once : {x e a b x' e' a' b' : ℕ} (σ : Stage) (p : ℕ) → σ p ≡ from x e a b → σ p ≡ from x' e' a' b' → (x ≡ x') × (e ≡ e') × (a ≡ a') × (b ≡ b')
once σ p h l =
    let same = sym h ∙ l in
    (ap (λ (c : Source). c.part) same, ap (λ (c : Source). c.exponent) same, ap (λ (c : Source). c.first) same, ap (λ (c : Source). c.second) same)

-- In place: p is part p / h % 2 of pair p % h in block p / h / 2.
pub pairs_cover : (h p : ℕ) → p ≡ p / h / 2 * (h + h) + p / h % 2 * h + p % h
pairs_cover h p =
    let j : p / h * h ≡ (p / h / 2 * 2 + p / h % 2) * h = ap (λ (z : ℕ). z * h) (omega arith) in
    omega (arith, div-add-mod' p h)

pub butterfly-pair : (stride h j i x : ℕ) → i < h → x < 2 → butterfly stride h (j * (h + h) + x * h + i) ≡ from x (stride * i) (j * (h + h) + i) (j * (h + h) + i + h)
unfolding butterfly
butterfly-pair stride h j i x hi hx =
    let place : j * (h + h) + x * h + i ≡ (j + j + x) * h + i = omega arith in
    let bit : (j + j + x) % 2 ≡ x = omega arith in
    let half : (j + j + x) / 2 ≡ j = omega arith in
    rw (place, digits_div, digits_mod, bit, half)

-- ---- the pairs of a stage in place

pub butterfly_receive : (stride h j i : ℕ) → i < h → Receive (butterfly stride h) (j * (h + h) + i) (j * (h + h) + i + h) (stride * i) (j * (h + h) + i) (j * (h + h) + i + h)
butterfly_receive stride h j i hi =
    let low : j * (h + h) + i ≡ j * (h + h) + 0 * h + i = omega arith in
    let high : j * (h + h) + i + h ≡ j * (h + h) + 1 * h + i = omega arith in
    record {
      sum = ap (butterfly stride h) low ∙ butterfly-pair stride h j i 0 hi (omega arith);
      difference = ap (butterfly stride h) high ∙ butterfly-pair stride h j i 1 hi (omega arith);
    }

-- ---- a place is one of the two of its pair

pub bit_either : (x : ℕ) → x < 2 → (x ≡ 0) ⊎ (x ≡ 1)
bit_either zero h = inl refl
bit_either (suc zero) h = inr refl
bit_either (suc (suc x)) h = absurd (omega arith)

pub in_butterfly : (h p : ℕ) → (p ≡ p / h / 2 * (h + h) + p % h) ⊎ (p ≡ p / h / 2 * (h + h) + p % h + h)
in_butterfly h p = by (bit_either (p / h % 2) (omega arith)) (pairs_cover h p)
  where
    by : (p / h % 2 ≡ 0) ⊎ (p / h % 2 ≡ 1) → p ≡ p / h / 2 * (h + h) + p / h % 2 * h + p % h → (p ≡ p / h / 2 * (h + h) + p % h) ⊎ (p ≡ p / h / 2 * (h + h) + p % h + h)
    by (inl c) e = inl (e ∙ rw c (omega arith))
    by (inr c) e = inr (e ∙ rw c (omega arith))

-- ---- every block is paired alike

pub butterfly_shift : (stride h k p : ℕ) → 0 < h →
    butterfly stride h (k * (h + h) + p) ≡ (let f = butterfly stride h p in from f.part f.exponent (k * (h + h) + f.first) (k * (h + h) + f.second))
unfolding butterfly
butterfly_shift stride h k p pos =
    let i = p % h in
    let j = p / h in
    let twice : k * (h + h) + p ≡ (k + k) * h + p = omega arith in
    let bit : (k + k + j) % 2 ≡ j % 2 = omega arith in
    let half : (k + k + j) / 2 ≡ k + j / 2 = omega arith in
    let first : (k + j / 2) * (h + h) + i ≡ k * (h + h) + (j / 2 * (h + h) + i) = omega arith in
    let second : k * (h + h) + (j / 2 * (h + h) + i) + h ≡ k * (h + h) + (j / 2 * (h + h) + i + h) = omega arith in
    rw (twice, mul-add-mod_self_right, mul-add-div_right pos, bit, half, first, second)
