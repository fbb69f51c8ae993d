-- An input that is read piece by piece, and what is answered of the bytes that were read.
use Rattle.std.proofs.Common.{ℕ, ◌+◌, ◌<◌, ◌≤◌, ◌≡◌, List, ◌++◌, length, take, sym, ap, ◌∙◌, None, Some, IfSome, Result, Ok, Err, OnOk, refl, subst, arith, length-take-le, take_at, take_all}
use Rattle.std.proofs.Math.Decide.{dec_lt}
use Rattle.std.specs.declared.option.Option.{Option}
use Rattle.std.specs.Io.KnownBytes.{Consumes, Appends}
use Rattle.std.proofs.KnownBytes.{Consumes-trans}
use borrow.Rule.Slice.PartMut.{put_mid, post_of}
use lib.Seq.{take-append-le, take-add, drop_at}
use Rattle.reading.specs.Requests.{Printed, printed}
use Rattle.reading.specs.Theorems.{printed_begun}
use Rattle.line.specs.Lines.{line}

-- What a read gave into the rest of the buffer stands behind what stood there.
pub more_read : (a b c : Option (List ℕ)) (done n k : ℕ) (buf ys : List ℕ) → done ≤ length buf → n ≤ length ys → Consumes a b (take done buf) → Consumes b c (take n ys) →
    Consumes a c (take (done + n) (put_mid done k buf ys))
more_read a b c done n k buf ys within fits before read =
    let front = length-take-le done buf within in
    let after = ys ++ post_of done k buf in
    let all : take (done + n) (put_mid done k buf ys) ≡ take done buf ++ take n ys =
    take-add done n (put_mid done k buf ys) ∙ rw (take_at (take done buf) after done front, drop_at (take done buf) after done front, take-append-le n ys (post_of done k buf) fits) refl in
    subst (Consumes a c) (sym all) (Consumes-trans a b c _ _ before read)

-- The first 65,536 bytes are answered as all are.
printed_read : (xs : List ℕ) → printed (take 65536 xs) ≡ printed xs
printed_read xs = by (dec_lt (length xs) 65536)
  where
    by : Dec (length xs < 65536) → printed (take 65536 xs) ≡ printed xs
    by (yes l) = ap printed (take_all 65536 xs (omega arith))
    by (no l) = printed_begun xs 65536 (omega arith) (omega arith)

pub served : (a w w' : Option (List ℕ)) (n : ℕ) (buf : List ℕ) {T E : Type 0} (r : Result T E) → IfSome a (λ xs. take n buf ≡ take 65536 xs) →
    OnOk r (Appends w w' (line (printed (take n buf)))) → OnOk r (IfSome a (λ xs. Appends w w' (line (printed xs))))
served None w w' n buf (Ok x) h written = tt
served (Some xs) w w' n buf (Ok x) h written = subst (λ (r : Printed). Appends w w' (line r)) (ap printed h ∙ printed_read xs) written
served a w w' n buf (Err e) h written = tt
