-- The places at which schedules 1, 2, 4 and 5 hold Dijkstra's array: by columns, by rows, and in reversed order. That they hold it there
-- stands in proofs/.
use Rattle.std.specs.Prelude.{◌≤◌, ℕ, ◌+◌, ◌-◌, ◌*◌, ◌^◌, ◌<◌, ◌≡◌}
use Rattle.std.proofs.Common.{sym, ap, ◌∙◌, mul_comm, arith, pow-add}
use Rattle.std.proofs.Math.Arith.{digits_lt}
use Rattle.fourier.specs.Reverse.{rev}

-- ---- places

-- Column-wise (004, equation 5), row-wise (004, equation 6), and row-wise with rows and columns in reversed order.
abbrev pub column_wise : ℕ → ℕ → ℕ → ℕ → ℕ
column_wise n s i j = 2 ^ (n - s) * j + i

abbrev pub row_wise : ℕ → ℕ → ℕ → ℕ
row_wise s i j = 2 ^ s * i + j

abbrev pub reversed_wise : ℕ → ℕ → ℕ → ℕ → ℕ
reversed_wise n s i j = 2 ^ s * rev (n - s) i + rev s j

-- Samples in order, for schedules 1, 2, 3 and 5.
abbrev pub straight : ℕ → ℕ
straight p = p

-- They lie in the buffer.
pub column_room : (n s i j : ℕ) → s ≤ n → i < 2 ^ (n - s) → j < 2 ^ s → column_wise n s i j < 2 ^ n
column_room n s i j l hi hj =
    let whole : 2 ^ s * 2 ^ (n - s) ≡ 2 ^ n = (let e : n ≡ s + (n - s) = omega arith in sym (ap (λ (z : ℕ). 2 ^ z) e ∙ pow-add 2 s (n - s))) in
    rw (← whole, mul_comm (2 ^ (n - s)) j) (digits_lt hj hi)

pub row_room : (n s i j : ℕ) → s ≤ n → i < 2 ^ (n - s) → j < 2 ^ s → row_wise s i j < 2 ^ n
row_room n s i j l hi hj =
    let whole : 2 ^ (n - s) * 2 ^ s ≡ 2 ^ n = (let e : n ≡ n - s + s = omega arith in sym (ap (λ (z : ℕ). 2 ^ z) e ∙ pow-add 2 (n - s) s)) in
    rw (← whole, mul_comm (2 ^ s) i) (digits_lt hi hj)
