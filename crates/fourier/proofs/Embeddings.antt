-- Schedules 1, 2, 4 and 5 embed Dijkstra's array: by columns, by rows, and in reversed order.
use Rattle.std.specs.Prelude.{ℕ, suc, ◌+◌, ◌-◌, ◌*◌, ◌/◌, ◌%◌, ◌^◌, ◌<◌, ◌≡◌, refl}
use Rattle.std.proofs.Common.{ap, ◌∙◌, pow-suc, div-add-mod', arith}
use Rattle.std.proofs.Math.Nat.{sub_self, sub-zero}
use Rattle.std.proofs.Math.Arith.{digits_div, digits_mod}
use Rattle.fourier.specs.Reverse.{rev, rev_lt, rev_low, rev_high}
use Rattle.fourier.specs.Schedules.{shuffled, columns, shuffle, thong, pease}
use Rattle.fourier.specs.Sizes.{one_more, rows, half_buffer}
use Rattle.fourier.specs.Sentences.{butterfly-pair}
use Rattle.fourier.proofs.Sentences.{shuffled-pair}
use Rattle.fourier.specs.Array.{Exponents, frequency, time, Embeds}
use Rattle.fourier.specs.Embeddings.{column_wise, reversed_wise, row_wise, straight}

pub columns_embeds : (n : ℕ) → Embeds frequency n straight (column_wise n) (columns n)
columns_embeds n = record {
  start = λ i hi. omega arith;
  takes = λ s i j l hi hj.
      let h = 2 ^ (n - suc s) in
      let place : h * j + i ≡ j / 2 * (h + h) + j % 2 * h + i = let z : j ≡ j / 2 * 2 + j % 2 = omega arith in ap (λ (y : ℕ). h * y + i) z ∙ omega arith in
      let first : j / 2 * (h + h) + i ≡ 2 ^ (n - s) * (j / 2) + i = rw (rows l) (omega arith) in
      let second : j / 2 * (h + h) + i + h ≡ 2 ^ (n - s) * (j / 2) + (i + h) = rw (rows l) (omega arith) in
      rw (place, butterfly-pair (2 ^ s) h (j / 2) i (j % 2) hi (omega arith), second, first);
  finish = λ p hp. rw sub_self (omega arith);
}

-- The shuffle, at exponents that step s has at row k / 2^s and column k mod 2^s.
shuffled_embeds : (e : Exponents) (n : ℕ) (f : ℕ → ℕ → ℕ) → ((s k : ℕ) → f s k ≡ e s (k / 2 ^ s) (k % 2 ^ s)) → Embeds e n straight row_wise (λ s. shuffled (2 ^ (n - 1)) (f s))
shuffled_embeds e n f same = record {
  start = λ i hi. omega arith;
  takes = λ s i j l hi hj.
      let k = i * 2 ^ s + j / 2 in
      let hk : j / 2 < 2 ^ s = omega arith in
      let place : 2 ^ suc s * i + j ≡ 2 * k + j % 2 = rw pow-suc (omega arith) in
      let first : k ≡ 2 ^ s * i + j / 2 = omega arith in
      let second : k + 2 ^ (n - 1) ≡ 2 ^ s * (i + 2 ^ (n - suc s)) + j / 2 = omega (arith, half_buffer l) in
      rw (place, shuffled-pair (2 ^ (n - 1)) (f s) k (j % 2) (omega arith), same s k, digits_div, digits_mod, second, first);
  finish = λ p hp. omega arith;
}

pub shuffle_embeds : (n : ℕ) → Embeds frequency n straight row_wise (shuffle n)
shuffle_embeds n = shuffled_embeds frequency n _ (λ s k. omega (arith, div-add-mod' k (2 ^ s)))

pub pease_embeds : (n : ℕ) → Embeds (time n) n straight row_wise (pease n)
pease_embeds n = shuffled_embeds (time n) n _ (λ s k. refl)

pub thong_embeds : (n : ℕ) → Embeds (time n) n (rev n) (reversed_wise n) (thong n)
unfolding rev
thong_embeds n = record {
  start = λ i hi. rw sub-zero (omega arith);
  takes = λ s i j l hi hj.
      let h = 2 ^ s in
      let r = rev (n - suc s) i in
      let k = rev s (j / 2) in
      let place : 2 ^ suc s * r + (j % 2 * h + k) ≡ r * (h + h) + j % 2 * h + k = rw pow-suc (omega arith) in
      let first : r * (h + h) + k ≡ h * rev (n - s) i + k = rw (one_more l, rev_low) (omega arith) in
      let second : r * (h + h) + k + h ≡ h * rev (n - s) (i + 2 ^ (n - suc s)) + k = rw (one_more l, rev_high) (omega arith) in
      rw (place, butterfly-pair (2 ^ (n - suc s)) h r k (j % 2) (rev_lt s (j / 2)) (omega arith), second, first);
  finish = λ p hp. rw sub_self (omega arith);
}
