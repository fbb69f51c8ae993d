-- What is judged by 4 and 5: the first bad place of a table and of samples, and what it says that there is none.
use Rattle.std.specs.Prelude.{Option, None}
use Rattle.std.specs.Prelude.{ℕ, suc, ◌<◌, ◌≤◌, ◌≡◌, Bool, List, length, ltb}
use Rattle.std.proofs.Common.{ltb-true, lt-ltb}
use Rattle.answer.specs.Lists.{at, holds_self, holds_every}
use Rattle.answer.specs.Search.{first}
use Rattle.answer.proofs.Search.{first_passed, nowhere_passed}
use Rattle.fourier.specs.Table.{rule, Accepted}
use Rattle.fourier.proofs.Table.{entry-below}
use Rattle.residues.specs.Moduli.{Permitted}

-- ---- definitions

-- Every number of the list is below m. Behind the end `at` gives 0, which is below m too.
pub record Below (m : ℕ) (l : List ℕ) : Type 0 where
  pub each : (p : ℕ) → at l p < m

-- Whether the sample at place p is below m.
unfoldable pub below : ℕ → List ℕ → ℕ → Bool
below m l p = ltb (at l p) m

-- 4: the "first entry at which a rule fails, N/2 for the closing rule".
abbrev pub bad_entry : ℕ → List ℕ → Option ℕ
bad_entry m l = first (rule m (length l) (at l)) 0 (suc (length l))

-- 5: the first "sample at or above m".
abbrev pub bad_sample : ℕ → List ℕ → Option ℕ
bad_sample m l = first (below m l) 0 (length l)

-- What the judgement of modulus, table and data leaves to those who work on them: a table and data of residues, and no long table.
pub record Judged (m : ℕ) (t l : List ℕ) : Type 0 where
  pub modulus : Permitted m
  pub entries : Below m t
  pub values : Below m l
  pub small : length t ≤ 2048

-- ---- what an answer says

-- Below m as far as the list goes is below m.
pub entries_below : {m : ℕ} {l : List ℕ} → 0 < m → ((p : ℕ) → p < length l → at l p < m) → Below m l
entries_below {m} {l} pos e = record { each = holds_every (λ v. v < m) (holds_self l) pos e }

-- The entries of an accepted table are below m.
pub accepted_below : (m : ℕ) (l : List ℕ) → 0 < m → Accepted m (length l) (at l) → Below m l
accepted_below m l pos r = entries_below pos (entry-below m (length l) pos (at l) r)

-- There is no bad sample exactly when all are below m.
pub nowhere_below : (m : ℕ) (l : List ℕ) → 0 < m → bad_sample m l ≡ None → Below m l
unfolding below
nowhere_below m l pos e = entries_below pos (λ p h. ltb-true (at l p) m ((nowhere_passed (below m l) (length l) e).each p h))

pub below_nowhere : (m : ℕ) (l : List ℕ) → Below m l → bad_sample m l ≡ None
unfolding below
below_nowhere m l r = first_passed (record { each = λ p h. lt-ltb (at l p) m (r.each p) })
