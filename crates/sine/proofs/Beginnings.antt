-- The beginning of one of our own tables taken for the shorter table, one of document 01's slips: it is refused by the closing rule.
use Rattle.std.specs.Prelude.{ℕ, suc, ◌+◌, ◌-◌, ◌*◌, ◌/◌, ◌^◌, ◌<◌, ◌≤◌, ◌≡◌, refl, true, pos, length, take, None, Some}
use Rattle.std.proofs.Common.{sym, ◌∙◌, length-take, pow-add, pow_mono, get_or-take}
use native.Mathlib.Omega.{arith}
use Rattle.std.specs.Int.Signed.{non_neg}
use Rattle.std.proofs.Math.Pow.{pow-lt}
use borrow.Author.Tests.{lt-ltb}
use Rattle.answer.specs.Choice.{refuse_at}
use Rattle.answer.specs.Lengths.{power_permitted}
use Rattle.answer.specs.Search.{first}
use Rattle.answer.proofs.Search.{first_failed, nowhere_passed}
use Rattle.answer.specs.declared.Answer.{Answer}
use Rattle.fourier.specs.Sizes.{two_halves}
use Rattle.points.specs.Interleaved.{point}
use Rattle.tables.specs.Rules.{bad_pair}
use Rattle.tables.specs.Acceptance.{AcceptOutcome, fixed_accept_verdict}
use Rattle.tables.proofs.Closing.{beginning_fails}
use Rattle.sine.specs.Constant.{sine}
use Rattle.sine.specs.Sine.{sine_pair, sine_table, stride, sine_table-length, sine_table-pair}
use Rattle.sine.proofs.Sine.{sine_accepted}

-- Up to a quarter turn no real part is negative: T[N'/2] of the table for N is the constant's pair 2^j, j at most 10.
quarter : first (λ j. non_neg (point sine (2 ^ j)).re) 0 11 ≡ None
unfolding sine first
quarter = refl

module _ (n n' : ℕ) (two : 2 ≤ n') (less : n' < n) (few : n ≤ 12) where
  not_negative : non_neg (sine_pair n (2 ^ (n' - 1))).re ≡ true
  unfolding sine_pair
  not_negative =
      let j = 12 - n + (n' - 1) in
      let e : 4096 / 2 ^ n * 2 ^ (n' - 1) ≡ 2 ^ j = rw (stride n few) (sym (pow-add 2 (12 - n) (n' - 1))) in
      rw e ((nowhere_passed (λ j. non_neg (point sine (2 ^ j)).re) 11 quarter).each j (omega arith))

  pub beginning_length : length (take (2 ^ n') (sine_table n)) ≡ 2 ^ n'
  beginning_length =
      let longer : 2 ^ n' < 2 ^ n = pow-lt less in
      length-take (2 ^ n') (sine_table n) ∙ omega (arith, sine_table-length n (omega arith))

  -- The first N'/2 pairs of the table for N, N' at least 4, taken for the table for N': only the closing rule fails.
  pub beginning_bad : bad_pair (take (2 ^ n') (sine_table n)) ≡ Some (2 ^ (n' - 1))
  beginning_bad =
      let h = 2 ^ (n - 1) in
      let k = 2 ^ (n' - 1) in
      let l = take (2 ^ n') (sine_table n) in
      let twice : 2 ^ n' ≡ k + k = two_halves n' (omega arith) in
      let long = beginning_length in
      let half : length l / 2 ≡ k = omega arith in
      let one : 1 ≤ n' - 1 = omega arith in
      let least : 2 ^ 1 ≤ k = pow_mono one in
      let fewer : n' - 1 < n - 1 = omega arith in
      let shorter : k < h = pow-lt fewer in
      let pairs : (i : ℕ) → i < k → point l i ≡ sine_pair n i =
      (λ i a. rw (get_or-take (2 ^ n') (sine_table n) (i + i) (pos 0) (omega arith), get_or-take (2 ^ n') (sine_table n) (suc (i + i)) (pos 0) (omega arith)) (sine_table-pair n (omega arith) i (omega arith))) in
      rw half (first_failed (beginning_fails h k (point l) (sine_pair n) least shorter pairs (sine_accepted n (omega arith) few) not_negative))

  -- So it is refused 4, at place N'/2.
  pub beginning_refused : {answer : Answer} → AcceptOutcome (take (2 ^ n') (sine_table n)) answer → answer ≡ refuse_at 4 (2 ^ (n' - 1))
  unfolding fixed_accept_verdict
  beginning_refused o =
      let some : 1 ≤ n' = omega arith in
      o.answers ∙ rw (beginning_bad, beginning_length, power_permitted n' some (omega arith), lt-ltb 0 n' some)
