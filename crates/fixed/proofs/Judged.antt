-- What was judged and not refused is ready for the schedules.
use Rattle.std.specs.Prelude.{ℕ, ◌+◌, ◌^◌, ◌≤◌, ◌≡◌, true, List, ℤ, length}
use Rattle.std.proofs.Common.{sym, ap}
use Rattle.answer.specs.Choice.{done}
use Rattle.answer.specs.declared.Answer.{Answer}
use Rattle.points.specs.Growth.{grow}
use Rattle.scan_stages.specs.Scans.{Scanned}
use Rattle.fixed_judgement.specs.Verdicts.{points_log, offers, scratch_fits, transform_verdict}
use Rattle.fixed_judgement.specs.Ready.{Ready, transform_ready, table-turns}

module _ (schedule : ℕ) (buf table : List ℤ) (scratch : ℕ) (e : done ≡ transform_verdict schedule buf table scratch) where
  judged : (offers schedule ≡ true) × (Ready buf table) × (scratch_fits schedule scratch (length buf) ≡ true)
  judged = transform_ready _ _ _ _ (ap (λ (a : Answer). a.number) (sym e))

  pub judged_scanned : Scanned (grow 0) table buf
  unfolding grow
  judged_scanned = record { turns = table-turns judged.1; each = judged.1.sized }

  pub judged_sizes : (n : ℕ) → n ≡ points_log (length buf) → (1 ≤ n) × (n ≤ 12) × (length buf ≡ 2 ^ n + 2 ^ n) × (length table ≡ 2 ^ n)
  judged_sizes n p = let r = judged.1 in rw p (r.points.some, r.points.few, r.points.whole, r.long)

  pub judged_scratch : scratch_fits schedule scratch (length buf) ≡ true
  judged_scratch = judged.2
