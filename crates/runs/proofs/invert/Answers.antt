-- The inverse is T1 with x^(-e), and then the factor at every place.
use Rattle.std.specs.Prelude.{ℕ, ◌+◌, ◌-◌, ◌/◌, ◌%◌, ◌^◌, ◌≡◌, List, length}
use Rattle.std.proofs.Common.{◌∙◌, arith}
use Rattle.answer.specs.Lists.{at, tabulate}
use Rattle.answer.proofs.Lists.{holds, listed}
use Rattle.fourier.specs.Schedules.{schedule4}
use Rattle.fourier.specs.Numbers.{times_mod, back_mod, inverse_mod}
use Rattle.butterflies.proofs.Asked.{sizes}
use Rattle.runs.proofs.invert.Goals as goal

inverted : {x N : ℕ} (m n : ℕ) (t l₀ : List ℕ) {l₁ l₂ : List ℕ} → length l₀ ≡ N → x ≡ ((m + 1) / 2) ^ n % m → length t ≡ 2 ^ (n - 1) → l₁ ≡ tabulate N (schedule4 n ℕ (back_mod m (length t) (at t)) (at l₀)) →
    l₂ ≡ tabulate (length l₁) (λ p. times_mod m x (at l₁ p)) → l₂ ≡ tabulate (length l₀) (inverse_mod m n (at t) (at l₀))
unfolding inverse_mod
inverted m n t l₀ {l₁} {l₂} size ex et e₁ e₂ =
    let ran = holds {d = 0} {l = l₁} e₁ in
    let scaled = holds {d = 0} {l = l₂} e₂ in
    let long = ran.long in
    listed (record { long = omega (arith, scaled.long, long, size); here = λ p h. scaled.here p (omega arith) ∙ rw (ran.here p (omega arith), ex, et) })

pub returns : goal.returns
returns c = inverted c.args.roots.modulus.value c.args.n c.args.roots.table.now c.args.buf.now c.requires.le_n.1 c.factor-by.ensures c.requires.le_n.2 c.by_thong.ensures.after c.scale.ensures

pub by_thong-requires-clause-sizes : goal.by_thong-requires-clause-sizes
by_thong-requires-clause-sizes c = sizes c.requires.le_n c.args.roots.few
