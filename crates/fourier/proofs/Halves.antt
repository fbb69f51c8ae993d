-- Schedule 3: its sentence, half by half, and that it leaves at every place what schedule 1 leaves.
use Prim.Native.Nat.{ℕ, zero, suc, ◌+◌, ◌-◌, ◌*◌, ◌/◌, ◌%◌, ◌^◌, ◌<◌}
use Rattle.std.specs.Prelude.{◌≡◌}
use Rattle.std.proofs.Common.{◌∙◌, one-mul}
use Rattle.std.proofs.Math.Path.{ap}
use Rattle.std.proofs.Math.Nat.{zero-add, zero-mul, pow-suc, two-pow-succ, add-mod_left, add-div_left, mod-eq_of_lt, div-eq_of_lt, div-add-mod'}
use native.Mathlib.Omega.{arith}
use Rattle.std.proofs.Math.Arith.{digits_div, digits_mod}
use Rattle.std.proofs.Math.Pow.{pow_pos}
use Rattle.fourier.specs.Schedules.{Wing, Buffer, butterfly, columns, step, run, strided, halves, schedule3}
use Rattle.fourier.specs.Sentences.{butterfly_shift}
use Rattle.fourier.specs.Halves.{Part, strided-step, strided_once, strided_twice}

first_stage : (n : ℕ) → columns (suc n) 0 ≡ butterfly 1 (2 ^ n)
first_stage n = let e : suc n - 1 ≡ n = omega arith in rw e

module _ {C : Type 0} (w : Wing C) (n : ℕ) (d : Buffer C) (p : ℕ) (hp : p < 2 ^ n) where
  pub halves_low : halves w (suc n) d p ≡ halves (strided 2 w) n (step w (columns (suc n) 0) d) p
  unfolding halves
  halves_low = rw (first_stage n) (simp (div-eq_of_lt hp, mod-eq_of_lt hp, zero-mul, zero-add))

  pub halves_high : halves w (suc n) d (2 ^ n + p) ≡ halves (strided 2 w) n (λ q. step w (columns (suc n) 0) d (2 ^ n + q)) p
  unfolding halves
  halves_high = rw (first_stage n) (simp (add-div_left, add-mod_left, pow_pos n, div-eq_of_lt hp, mod-eq_of_lt hp, zero-add, one-mul))

-- The same of half k, as a loop over the halves does it, with exponents that count c times.
pub halves_half : {C : Type 0} (w : Wing C) (c n : ℕ) (d : Buffer C) (k p : ℕ) → p < 2 ^ n →
    halves (strided c w) (suc n) d (k * 2 ^ n + p) ≡ halves (strided (c + c) w) n (λ q. step w (butterfly c (2 ^ n)) d (k * 2 ^ n + q)) p
unfolding halves
halves_half w c n d k p l = rw (digits_div k l, digits_mod k l, strided_twice w c) (ap (λ f. halves (strided (c + c) w) n f p) (λ i q. strided-step w c (2 ^ n) d (k * 2 ^ n + q) i))

-- Where exponents count once it is schedule 3.
pub halves_once : {C : Type 0} (w : Wing C) (n : ℕ) → halves (strided 1 w) n ≡ schedule3 n C w
halves_once w n = rw (strided_once w)

module _ {C : Type 0} (w : Wing C) where
  -- A stage of a part, with exponents that count c times.
  butterfly-part : {k r : ℕ} {d e : Buffer C} (c : ℕ) → Part k (suc r) d e → Part k (suc r) (step (strided c w) (butterfly 1 (2 ^ r)) d) (step w (butterfly c (2 ^ r)) e)
  butterfly-part {k} {r} {d} c f = record {
    at = λ p.
        strided-step w c (2 ^ r) d p
        ∙ rw (two-pow-succ r, butterfly_shift c (2 ^ r) k p (pow_pos r), ← two-pow-succ r, f.at (butterfly c (2 ^ r) p).first, f.at (butterfly c (2 ^ r) p).second);
  }

  module _ (n : ℕ) (A : Buffer C) where
    -- Where d is a part of what schedule 1 has after s of n stages, schedule 3 on d is that part of what it has at the end.
    halves-part : (r s : ℕ) {k : ℕ} {d : Buffer C} → r + s ≡ n → Part k r d (run w (columns n) s A) → Part k r (halves (strided (2 ^ s) w) r d) (run w (columns n) n A)
    unfolding halves run
    halves-part zero s e f = let z : s ≡ n = omega arith in record { at = λ p. rw (f.at p, z) }
    halves-part (suc r) s {k} {d} e f = record {
      at = λ p.
          let h = 2 ^ r in
          let rest : n - suc s ≡ r = omega arith in
          let stage : Part k (suc r) (step (strided (2 ^ s) w) (butterfly 1 h) d) (run w (columns n) (suc s) A) = rw rest (butterfly-part (2 ^ s) f) in
          let half : Part (k + k + p / h) r (λ q. step (strided (2 ^ s) w) (butterfly 1 h) d (p / h * h + q)) (run w (columns n) (suc s) A) =
          record { at = λ q. stage.at (p / h * h + q) ∙ ap (run w (columns n) (suc s) A) (rw pow-suc (omega arith)) } in
          rw (strided_twice w (2 ^ s), ← two-pow-succ s)
          ((halves-part r (suc s) (omega arith) half).at (p % h) ∙ ap (run w (columns n) n A) (rw pow-suc (omega (arith, div-add-mod' p h))));
    }

    pub halves-columns : (p : ℕ) → halves w n A p ≡ run w (columns n) n A p
    unfolding run
    halves-columns p =
        let e : (q : ℕ) → 0 * 2 ^ n + q ≡ q = omega arith in
        let whole : Part 0 n A A = record { at = λ q. rw (e q) } in
        rw e at (rw strided_once at ((halves-part n 0 (omega arith) whole).at p))
