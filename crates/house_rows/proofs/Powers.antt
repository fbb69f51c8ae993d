-- What the test of a root says, fact by fact.
use Prim.Native.Nat.{ℕ, ◌-◌, ◌%◌, ◌^◌}
use Rattle.std.specs.Prelude.{◌≡◌, true}
use Rattle.std.proofs.Math.Bool.{and-eq-true_iff}
use borrow.Author.Tests.{ltb-true, eqb-true, lt-ltb, eq-eqb}
use Rattle.house_rows.specs.Powers.{Turns, turns}

pub turns_facts : (m x h : ℕ) → turns m x h ≡ true → Turns m x h
unfolding turns
turns_facts m x h e =
    let both = (and-eq-true_iff _ _).0 e in
    record { below = ltb-true _ _ both.0; turn = eqb-true _ _ both.1 }

pub facts_turns : (m x h : ℕ) → Turns m x h → turns m x h ≡ true
unfolding turns
facts_turns m x h r = rw (lt-ltb x m r.below, eq-eqb (x ^ h % m) (m - 1) r.turn)
