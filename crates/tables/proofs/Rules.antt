-- A place's link to those before it, and the sizes that a product asks for.
use Prim.Native.Nat.{ℕ, zero, suc, ◌-◌, ◌<◌}
use mathlib.Core.Path.{◌≡◌, refl}
use mathlib.Core.Logic.{⊎_elim}
use native.Mathlib.Nat.{eq-or-lt_of_le, not-suc-le-zero}
use native.Mathlib.Omega.{arith}
use Rattle.answer.specs.Search.{Passed}
use Rattle.points.specs.Steps.{Turn}
use Rattle.points.specs.declared.Point.{Point}
use Rattle.rules.specs.Pairs.{starts, follows}
use Rattle.tables.specs.Rules.{entry, linked, rule, passed_turn}

module _ (h : ℕ) (t : ℕ → Point) where
  pub linked-first : (i : ℕ) → i ≡ 0 → linked h t i ≡ starts (entry h t i)
  unfolding linked
  linked-first zero z = refl
  linked-first (suc i) z = absurd (omega arith)

  pub linked_later : (i : ℕ) → 0 < i → linked h t i ≡ follows (entry h t 1) (entry h t (i - 1)) (entry h t i)
  unfolding linked
  linked_later zero l = absurd (not-suc-le-zero l)
  linked_later (suc i) l = let z : suc i - 1 ≡ i = omega arith in rw z

  -- T[1] was passed, or it stands at this place.
  pub second_turn : (i : ℕ) → 0 < i → Passed (rule h t) i → Turn (entry h t i) → Turn (entry h t 1)
  second_turn i l r s = ⊎_elim (λ e. rw e s) (λ k. passed_turn h t r 1 k) (eq-or-lt_of_le l)
