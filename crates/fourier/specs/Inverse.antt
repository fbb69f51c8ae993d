-- The inverse: T1 with x^(-e), and then the factor 1/N.
use Rattle.std.specs.Prelude.{ℕ}
use Rattle.algebra.specs.Ring.{Ring}
use Rattle.algebra.specs.Sum.{pow}
use Rattle.fourier.specs.Schedules.{Buffer, thong, run, in_time}
use Rattle.fourier.specs.Fourier.{arithmetic}

module _ {K : Type 0} (R : Ring K) where
  infixl 70 ◌⊗◌
  open R use {◌⊗◌}

  -- 1/N times T1 on the table u of the powers x^(-e); half is 1/2.
  abbrev pub inverse : (ℕ → K) → K → ℕ → Buffer K → Buffer K
  inverse u half n d p = pow R half n ⊗ run (in_time (arithmetic R) u) (thong n) n d p
