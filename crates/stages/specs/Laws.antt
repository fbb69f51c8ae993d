-- What the stages ask of values that lie in a lent buffer of numbers, and of a step on two of them.
use Rattle.std.specs.Prelude.{ℕ, zero, suc, ◌+◌, ◌-◌, ◌*◌, ◌^◌, ◌<◌, ◌≤◌, ◌≡◌, refl, List, ◌∷◌, length, get_or, replicate}
use Rattle.std.proofs.Common.{ap}
use Rattle.answer.specs.Lists.{tabulate}
use borrow.Rule.Slice.PartMut.{mid_of, put_mid}
use Rattle.fourier.specs.Schedules.{Wing, Buffer}

-- What stands at the places of a list, and z behind its end.
abbrev pub held : {V : Type 0} → V → List V → Buffer V
held z l p = get_or l p z

-- Values lie one behind the other, `width` numbers each.
pub record PlacesLaws {N V : Type 0} (width : ℕ) (values : List N → List V) : Type 0 where
  pub long : (l : List N) (n : ℕ) → length l ≡ width * n → length (values l) ≡ n
  -- A part that is lent on, and the buffer when it has come back.
  pub part : (l : List N) (a k n : ℕ) → length l ≡ width * n → a + k ≤ n → values (mid_of (width * a) (width * k) l) ≡ mid_of a k (values l)
  pub back : (l part : List N) (a k n : ℕ) → length l ≡ width * n → a + k ≤ n → length part ≡ width * k → values (put_mid (width * a) (width * k) l part) ≡ put_mid a k (values l) (values part)

-- What may stand at a place after k stages, twelve at most, is ready for the next; and the step keeps it so.
pub record StepLaws {S V : Type 0} (zero : V) (wing : S → Wing V) (reach : S → ℕ) (Ready : S → V → Type 0) (Grown : S → ℕ → V → Type 0) : Type 0 where
  pub fits : (s : S) → reach s < 2 ^ 63
  pub ready : (s : S) (k : ℕ) (v : V) → k ≤ 12 → Grown s k v → Ready s v
  pub behind : (s : S) (k : ℕ) → Grown s k zero
  pub keeps : (s : S) (k x e : ℕ) (a b : V) → e < reach s → Grown s k a → Grown s k b → Grown s (suc k) (wing s x e a b)

-- The exponents of a stage begin with 0 and lie in the table.
pub record ExponentsLaws (of : ℕ → ℕ → ℕ → ℕ) : Type 0 where
  pub first : (n s : ℕ) → 0 ≡ of n s 0
  pub below : (n s k : ℕ) → s < n → k < 2 ^ (n - 1) → of n s k < 2 ^ (n - 1)

-- What schedule 3 asks of the buffer, and of a half that it comes to: 2^left places in L numbers, with `past` stages behind them and
-- `left` before them, twelve at most; where one is left, exponents that count `stride` times reach through the table.
pub record Halving (width stride reach L : ℕ) (Grown : ℕ → Type 0) : Type 0 where
  pub left : ℕ
  pub past : ℕ
  pub power : L ≡ width * 2 ^ left
  pub few : past + left ≤ 12
  pub some : 1 ≤ stride
  pub through : 1 ≤ left → stride * 2 ^ left ≡ reach + reach
  pub grown : Grown past

-- A list of n zeros: "scratch is all zeros after success".
abbrev pub zeros : {N : Type 0} → N → ℕ → List N
zeros z n = tabulate n (λ p. z)

pub zeros_replicate : {N : Type 0} (z : N) (n : ℕ) → replicate n z ≡ zeros z n
unfolding tabulate
zeros_replicate z zero = refl
zeros_replicate z (suc n) = ap (λ l. z ∷ l) (zeros_replicate z n)
