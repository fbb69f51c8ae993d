-- The rules of a table in fixed point, place by place.
use Rattle.std.specs.Prelude.{ℕ, zero, suc, ◌/◌, ◌<◌, ◌≤◌, ◌≡◌, Bool, true, cond, ◌&&◌, Option, List, ltb, ℤ, pos, negsuc, length}
use Rattle.std.proofs.Common.{sym, ◌∙◌, ⊎_elim, arith, lt-ltb, le-ltb}
use Rattle.std.proofs.Math.Bool.{and-eq-true_iff}
use Rattle.answer.specs.Cases.{lt_or_ge}
use Rattle.answer.specs.Search.{first, Passed}
use Rattle.points.specs.Interleaved.{point}
use Rattle.points.specs.Steps.{Turn, Turns}
use Rattle.points.specs.declared.Point.{Point}
use Rattle.rules.specs.Pairs.{starts, sized, follows, sized-turn}

-- ---- document 01's rules, for a table t of h = N/2 pairs

-- (-16,384, 0).
abbrev pub half_turn : Point
half_turn = record { re = negsuc 16383; im = pos 0 }

-- "Call T[i] its pair i, and T[N/2] stands for (-16,384, 0)."
unfoldable pub entry : ℕ → (ℕ → Point) → ℕ → Point
entry h t i = cond (ltb i h) (t i) half_turn

-- "T[0] is (16,384, 0)"; "for i from 1 to N/2, T[i-1] times T[1] differs from 16,384 T[i] by at most 32,768 in each part".
unfoldable pub linked : ℕ → (ℕ → Point) → ℕ → Bool
linked h t zero = starts (entry h t 0)
linked h t (suc i) = follows (entry h t 1) (entry h t i) (entry h t (suc i))

-- Whether the rules hold at place i. At N/2 the sizes are those of (-16,384, 0), and the closing rule decides.
unfoldable pub rule : ℕ → (ℕ → Point) → ℕ → Bool
rule h t i = sized (entry h t i) && linked h t i

-- The table is accepted: the rules hold at every place, N/2 among them.
abbrev pub Accepted : ℕ → (ℕ → Point) → Type 0
Accepted h t = Passed (rule h t) (suc h)

-- 4: the "first .. pair at which a rule fails, N/2 for the closing rule".
abbrev pub bad_pair : List ℤ → Option ℕ
bad_pair l = first (rule (length l / 2) (point l)) 0 (suc (length l / 2))

-- ---- the pairs of a table

pub entry-pair : (h : ℕ) (t : ℕ → Point) {i : ℕ} → i < h → entry h t i ≡ t i
unfolding entry
entry-pair h t {i} l = rw (lt-ltb i h l)

pub entry_closing : (h : ℕ) (t : ℕ → Point) {i : ℕ} → h ≤ i → entry h t i ≡ half_turn
unfolding entry
entry_closing h t {i} l = rw (le-ltb i h l)

-- The two parts of the rule at a place.
pub rule_parts : (h : ℕ) (t : ℕ → Point) (i : ℕ) → rule h t i ≡ true → (sized (entry h t i) ≡ true) × (linked h t i ≡ true)
unfolding rule
rule_parts h t i e = (and-eq-true_iff (sized (entry h t i)) (linked h t i)).0 e

-- Tables with the same T[1], the same T[i-1] and the same T[i] have the same rule at i.
pub same-rule : (k h : ℕ) (s t : ℕ → Point) (i : ℕ) → entry k s 1 ≡ entry h t 1 → ((q : ℕ) → q ≤ i → entry k s q ≡ entry h t q) → rule k s i ≡ rule h t i
unfolding rule linked
same-rule k h s t zero one e = rw (e 0 (omega arith))
same-rule k h s t (suc i) one e = rw (one, e (suc i) (omega arith), e i (omega arith))

-- Tables with the same pairs are accepted together.
pub accepted_as : (h : ℕ) (s t : ℕ → Point) → ((i : ℕ) → i < h → s i ≡ t i) → Accepted h t → Accepted h s
accepted_as h s t same r = record { each = λ i l. same-rule h h s t i (entries 1) (λ q k. entries q) ∙ r.each i l }
  where
    entries : (i : ℕ) → entry h s i ≡ entry h t i
    entries i =
        ⊎_elim (λ l. entry-pair h s l ∙ same i l ∙ sym (entry-pair h t l)) (λ l. entry_closing h s l ∙ sym (entry_closing h t l)) (lt_or_ge i h)

-- ---- the sizes of an accepted table's pairs

-- The places that were passed have those sizes.
pub passed_turn : (h : ℕ) (t : ℕ → Point) {k : ℕ} → Passed (rule h t) k → (i : ℕ) → i < k → Turn (entry h t i)
passed_turn h t r i l = sized-turn _ (rule_parts h t i (r.each i l)).0

-- And so has every pair of an accepted table.
pub accepted_turns : (h : ℕ) (t : ℕ → Point) → Accepted h t → Turns t h
accepted_turns h t r = record { each = λ i l. rw (entry-pair h t l) at (passed_turn h t r i (omega arith)) }
