-- How the writer goes from byte to byte.
use Prim.Native.Nat.{ℕ, ◌+◌, ◌/◌, ◌%◌, ◌<◌, ◌≤◌}
use mathlib.Core.Path.{◌≡◌, ap, ◌∙◌}
use mathlib.Core.List.{List}
use native.Mathlib.Numerals.{add-one}
use native.Mathlib.Omega.{arith}
use lib.ListN.{length, set, length-set}
use lib.Seq.{sets}
use Rattle.std.proofs.Common.{Ok}
use Rattle.std.proofs.Math.Decide.{dec_lt}
use borrow.Author.Tests.{le-leb}
use Rattle.groups.specs.Groups.{bytes_of}
use Rattle.writer.specs.Outcomes.{PutOutcome}
use Rattle.groups.specs.Theorems.{bytes_one, bytes_more, bytes_few}

-- Of v, written from p on into out₀, the groups of rest are left to be written from q on into out.
pub record Writing (v p : ℕ) (out₀ out : List ℕ) (rest q : ℕ) : Type 0 where
  pub long : length out ≡ length out₀
  pub small : rest < 4294967296
  pub room : p + length (bytes_of v) ≤ length out₀
  pub ends : q + length (bytes_of rest) ≡ p + length (bytes_of v)
  pub left : sets out q (bytes_of rest) ≡ sets out₀ p (bytes_of v)

module _ {v p : ℕ} {out₀ out : List ℕ} {rest q : ℕ} (r : Writing v p out₀ out rest q) where
  pub inside : q < length out
  inside = omega (arith, r.long, r.room, r.ends, bytes_few rest)

  pub write_more : 128 ≤ rest → Writing v p out₀ (set out q (rest % 128 + 128)) (rest / 128) (q + 1)
  write_more h =
      let more = bytes_more rest h (omega (arith, r.small)) in
      record {
        long = length-set out q (rest % 128 + 128) ∙ r.long;
        small = omega (arith, r.small);
        room = r.room;
        ends = omega (arith, r.ends, ap length more);
        left = rw add-one (rw more at r.left);
      }

  -- A group is the last just where its byte is.
  pub low : q + 1 ≡ p + length (bytes_of v) → rest < 128
  low e = by (dec_lt rest 128)
    where
      by : Dec (rest < 128) → rest < 128
      by (yes l) = l
      by (no l) = let more = ap length (bytes_more rest (omega arith) (omega (arith, r.small))) in absurd (omega (arith, r.ends, bytes_few (rest / 128)))

  pub high : q + 1 < p + length (bytes_of v) → 128 ≤ rest
  high h = by (dec_lt rest 128)
    where
      by : Dec (rest < 128) → 128 ≤ rest
      by (yes l) = let one = ap length (bytes_one rest l) in absurd (omega (arith, r.ends))
      by (no l) = omega arith

  pub write_last : {last end : ℕ} → last ≡ q → end ≡ q + 1 → end ≡ p + length (bytes_of v) → PutOutcome v p out₀ (Ok end) (set out last rest)
  write_last e f g =
      let one = bytes_one rest (low (omega arith)) in
      let t = le-leb (p + length (bytes_of v)) (length out₀) r.room in
      record { answers = rw (t, g); leaves = rw (t, e) (rw one at r.left) }
