-- Scratch is as long as the data where a schedule works through it.
use Rattle.std.specs.Prelude.{ℕ, ◌≡◌, true}
use borrow.Author.Tests.{eqb-true}
use Rattle.modular_judgement.specs.Verdicts.{through_scratch, scratch_fits}

pub scratch_long : (schedule scratch N : ℕ) → through_scratch schedule ≡ true → scratch_fits schedule scratch N ≡ true → scratch ≡ N
unfolding scratch_fits
scratch_long schedule scratch N e h = eqb-true scratch N (rw e at h)
