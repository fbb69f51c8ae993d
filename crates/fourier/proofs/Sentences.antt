-- Document 01's sentences about the stages, pair by pair; that the stages of Schedules are as they say, and that only they are.
use Rattle.std.specs.Prelude.{ℕ, suc, ◌+◌, ◌-◌, ◌*◌, ◌/◌, ◌%◌, ◌^◌, ◌<◌, ◌≡◌, ◌⊎◌}
use Rattle.std.proofs.Common.{sym, ap, ◌∙◌, inl, inr, add-zero, mod-lt, mul-pos, div-lt_iff_lt-mul, arith, pow_pos}
use Rattle.std.proofs.Math.Nat.{div-div-eq-div-mul}
use Rattle.std.proofs.Math.Arith.{digits_div}
use Rattle.fourier.specs.Sizes.{rows, two_halves, half_buffer}
use Rattle.fourier.specs.Schedules.{from, Stage, shuffled, columns, shuffle, thong, pease}
use Rattle.fourier.specs.Sentences.{ByColumns, ByPease, ByShuffle, ByThong, Receive, Shuffles, bit_either, butterfly_receive, in_butterfly, pairs_cover}

pub shuffled-pair : (half : ℕ) (e : ℕ → ℕ) (k x : ℕ) → x < 2 → shuffled half e (2 * k + x) ≡ from x (e k) k (k + half)
unfolding shuffled
shuffled-pair half e k x hx =
    let bit : (2 * k + x) % 2 ≡ x = omega arith in
    let pair : (2 * k + x) / 2 ≡ k = omega arith in
    rw (bit, pair)

shuffled_says : (n : ℕ) (e : ℕ → ℕ) → Shuffles n e (shuffled (2 ^ (n - 1)) e)
shuffled_says n e k h = record { sum = rw add-zero at (shuffled-pair (2 ^ (n - 1)) e k 0 (omega arith)); difference = shuffled-pair (2 ^ (n - 1)) e k 1 (omega arith) }

pub columns_says : (n s : ℕ) → s < n → ByColumns n s (columns n s)
columns_says n s l j i hj hi =
    let place : 2 ^ (n - s) * j + i ≡ j * (2 ^ (n - suc s) + 2 ^ (n - suc s)) + i = rw (rows l) (omega arith) in
    rw place (butterfly_receive _ _ j i hi)

pub shuffle_says : (n s : ℕ) → ByShuffle n s (shuffle n s)
shuffle_says n s = shuffled_says n _

pub thong_says : (n t : ℕ) → ByThong n t (thong n t)
thong_says n t l h bit =
    let q = l / 2 ^ t / 2 * (2 ^ t + 2 ^ t) + l % 2 ^ t in
    let place : l ≡ q = omega (arith, pairs_cover (2 ^ t) l, ap (λ (z : ℕ). z * 2 ^ t) bit) in
    let both : Receive (thong n t) q (q + 2 ^ t) (2 ^ (n - suc t) * (l % 2 ^ t)) q (q + 2 ^ t) =
    butterfly_receive _ _ (l / 2 ^ t / 2) (l % 2 ^ t) (mod-lt l (pow_pos t)) in
    rw (← place) at both

pub pease_says : (n t : ℕ) → ByPease n t (pease n t)
pease_says n t = shuffled_says n _

alike : {σ τ : Stage} {p q e a b : ℕ} → Receive σ p q e a b → Receive τ p q e a b → (z : ℕ) → (z ≡ p) ⊎ (z ≡ q) → σ z ≡ τ z
alike h l z (inl c) = rw c (h.sum ∙ sym l.sum)
alike h l z (inr c) = rw c (h.difference ∙ sym l.difference)

in_shuffle : (p : ℕ) → (p ≡ 2 * (p / 2)) ⊎ (p ≡ 2 * (p / 2) + 1)
in_shuffle p = by (bit_either (p % 2) (omega arith))
  where
    by : (p % 2 ≡ 0) ⊎ (p % 2 ≡ 1) → (p ≡ 2 * (p / 2)) ⊎ (p ≡ 2 * (p / 2) + 1)
    by (inl c) = inl (omega arith)
    by (inr c) = inr (omega arith)

pub columns_only : (n s : ℕ) → s < n → (σ : Stage) → ByColumns n s σ → (p : ℕ) → p < 2 ^ n → σ p ≡ columns n s p
columns_only n s l σ says p hp =
    let h = 2 ^ (n - suc s) in
    let j = p / h / 2 in
    let column : j < 2 ^ s =
    rw div-div-eq-div-mul ((div-lt_iff_lt-mul (mul-pos {n = 2} (pow_pos (n - suc s)) (omega arith))).1 (omega (arith, half_buffer l, two_halves n (omega arith)))) in
    let place : 2 ^ (n - s) * j + p % h ≡ j * (h + h) + p % h = rw (rows l) (omega arith) in
    let row : p % h < h = mod-lt p (pow_pos (n - suc s)) in
    alike (says j (p % h) column row) (columns_says n s l j (p % h) column row) p (rw place (in_butterfly h p))

shuffled_only : (n s : ℕ) → s < n → (e : ℕ → ℕ) (σ : Stage) → Shuffles n e σ → (p : ℕ) → p < 2 ^ n → σ p ≡ shuffled (2 ^ (n - 1)) e p
shuffled_only n s l e σ says p hp =
    let k : p / 2 < 2 ^ (n - 1) = omega (arith, two_halves n (omega arith)) in
    alike (says (p / 2) k) (shuffled_says n e (p / 2) k) p (in_shuffle p)

pub shuffle_only : (n s : ℕ) → s < n → (σ : Stage) → ByShuffle n s σ → (p : ℕ) → p < 2 ^ n → σ p ≡ shuffle n s p
shuffle_only n s l = shuffled_only n s l _

pub thong_only : (n t : ℕ) → t < n → (σ : Stage) → ByThong n t σ → (p : ℕ) → p < 2 ^ n → σ p ≡ thong n t p
thong_only n t l σ says p hp =
    let h = 2 ^ t in
    let j = p / h / 2 in
    let place : j * (h + h) + p % h ≡ (j + j) * h + p % h = omega arith in
    let row : p % h < h = mod-lt p (pow_pos t) in
    let below : j * (h + h) + p % h < 2 ^ n = omega (arith, pairs_cover h p) in
    let bit : (j * (h + h) + p % h) / h % 2 ≡ 0 = rw (place, digits_div) (omega arith) in
    alike (says (j * (h + h) + p % h) below bit) (thong_says n t (j * (h + h) + p % h) below bit) p (in_butterfly h p)

pub pease_only : (n t : ℕ) → t < n → (σ : Stage) → ByPease n t σ → (p : ℕ) → p < 2 ^ n → σ p ≡ pease n t p
pease_only n t l = shuffled_only n t l _
