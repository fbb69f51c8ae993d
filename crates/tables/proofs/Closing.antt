-- A table's beginning taken for the shorter table, one of document 01's slips: of an accepted table it fails by the closing rule.
use Rattle.std.specs.Prelude.{ℕ, zero, suc, ◌<◌, ◌≤◌, ◌≡◌, refl, Bool, true, false, ◌&&◌, [], ◌∷◌, ℤ, pos, negsuc, nat_abs, ◌-ℤ◌, ◌*ℤ◌}
use Rattle.std.proofs.Common.{sym, ap, ◌∙◌, arith, leb-true}
use Rattle.std.proofs.Math.Bool.{and-eq-true_iff}
use Rattle.std.proofs.lemmas.Bool.{false≢true, lt-leb}
use Rattle.std.specs.Int.Signed.{non_neg}
use Rattle.algebra.specs.Integers.{integers, nat_abs-sub}
use Rattle.algebra.specs.Solver.{v, ◌:-◌, ring}
use Rattle.answer.specs.Search.{FailsFirst}
use Rattle.points.specs.Steps.{times}
use Rattle.points.specs.declared.Point.{Point}
use Rattle.rules.specs.Pairs.{sized, near, follows}
use Rattle.tables.specs.Rules.{half_turn, entry, linked, rule, Accepted, entry-pair, entry_closing, same-rule, rule_parts}

-- What is near 16,384 a, for an a that is not negative, is far from 16,384 times -16,384, the real part of T[N/2].
far : (off a : ℤ) → non_neg a ≡ true → near (off -ℤ pos 16384 *ℤ a) ≡ true → near (off -ℤ pos 16384 *ℤ half_turn.re) ≡ false
far off (pos a) some e =
    let y = pos 16384 *ℤ half_turn.re in
    let z = pos 16384 *ℤ pos a in
    let apart : off -ℤ y -ℤ (off -ℤ z) ≡ z -ℤ y = ring integers (off ∷ y ∷ z ∷ []) (v 0 :- v 1 :- (v 0 :- v 2)) (v 2 :- v 1) refl in
    let small = leb-true (nat_abs (off -ℤ z)) 32768 e in
    lt-leb (nat_abs (off -ℤ y)) 32768 (omega (arith, ap nat_abs apart, nat_abs-sub (off -ℤ y) (off -ℤ z)))
far off (negsuc a) some e = absurd (false≢true some)

not_followed : (x p q : Point) → non_neg q.re ≡ true → follows x p q ≡ true → follows x p half_turn ≡ false
unfolding follows
not_followed x p q some e = rw (far (times p x).re q.re some ((and-eq-true_iff (near ((times p x).re -ℤ pos 16384 *ℤ q.re)) _).0 e).0)

-- The first k pairs of an accepted table, two or more, where the real part of T[k] is not negative: only the closing rule fails.
pub beginning_fails : (h k : ℕ) (s t : ℕ → Point) → 2 ≤ k → k < h → ((i : ℕ) → i < k → s i ≡ t i) → Accepted h t → non_neg (t k).re ≡ true → FailsFirst (rule k s) (suc k) k
unfolding rule linked
beginning_fails h zero s t two less same r some = absurd (omega arith)
beginning_fails h (suc k) s t two less same r some = record {
  within = omega arith;
  fails = rw (entry_closing (suc k) s {i = suc k} (omega arith)) (closing (sized half_turn));
  before = record { each = λ i l. same-rule (suc k) h s t i (entries 1 (omega arith)) (λ q a. entries q (omega arith)) ∙ r.each i (omega arith) };
}
  where
    entries : (i : ℕ) → i < suc k → entry (suc k) s i ≡ entry h t i
    entries i l = entry-pair (suc k) s l ∙ same i l ∙ sym (entry-pair h t (omega arith))

    followed : follows (entry h t 1) (entry h t k) (t (suc k)) ≡ true
    followed = rw (entry-pair h t less) at (rule_parts h t (suc k) (r.each (suc k) (omega arith))).1

    closing : (b : Bool) → (b && follows (entry (suc k) s 1) (entry (suc k) s k) half_turn) ≡ false
    closing true = rw (entries 1 (omega arith), entries k (omega arith)) (not_followed (entry h t 1) (entry h t k) (t (suc k)) some followed)
    closing false = refl
