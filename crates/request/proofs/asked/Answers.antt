-- 7 and 1, then the rest; the results are handed over on success alone.
use Rattle.std.proofs.Common.{◌≡◌, refl, sym, ◌∙◌, take, arith, length-take-le}
use Rattle.std.proofs.lemmas.Result.{err_from_is_err_and}
use Rattle.answer.specs.declared.Refusal.TheVariants.{Length}
use Rattle.reading.proofs.Steps.{sets_front}
use Rattle.request.proofs.Giving.{length_permitted, length_refused, not_offered, not_permitted, permitted}
use Rattle.request.proofs.asked.Goals as goal

pub returns-in_err-try_from : goal.returns-in_err-try_from
returns-in_err-try_from c =
    let p = err_from_is_err_and c.from_residual.result c.from_residual.ensures.1 in
    let r = c.in_err-try_from.ensures in
    rw (p.1, p.2, r.1) (not_offered _ _ _ _ _ r.0, refl)

pub returns-in_err-ok_or : goal.returns-in_err-ok_or
returns-in_err-ok_or c =
    let p = err_from_is_err_and c.from_residual-in_err-ok_or.result c.from_residual-in_err-ok_or.ensures.1 in
    let n = length_refused c.args.n c.log_of.ensures c.in_err-ok_or.ensures.ok_part in
    let value = rw c.in_err-ok_or.ensures.ok_part at c.in_err-ok_or.ensures.value in
    let is : c.in_err-ok_or.field-0.0 ≡ Length = cc in
    rw (p.1, p.2, is) (not_permitted _ _ _ _ _ c.in_ok-try_from.ensures.0 n, refl)

pub within-requires : goal.within-requires
within-requires c =
    let n = length_permitted c.args.n _ c.log_of.ensures c.in_ok-ok_or.ensures.ok_part in
    record { schedule_value = (c.in_ok-try_from.ensures.0, n.0); n_in_bounds = (omega arith, omega arith, omega arith) }

pub returns-in_err-within : goal.returns-in_err-within
returns-in_err-within c =
    let p = err_from_is_err_and c.from_residual-in_err-within.result c.from_residual-in_err-within.ensures.1 in
    let n = length_permitted c.args.n _ c.log_of.ensures c.in_ok-ok_or.ensures.ok_part in
    rw (p.1, p.2) (permitted _ _ _ _ _ c.in_ok-try_from.ensures.0 n.0 ∙ c.in_err-within.ensures, refl)

pub slice_bounds-copy_from_slice-end : goal.slice_bounds-copy_from_slice-end
slice_bounds-copy_from_slice-end c =
    let n = length_permitted c.args.n _ c.log_of.ensures c.in_ok-ok_or.ensures.ok_part in
    omega (arith, n.1)

pub returns : goal.returns
returns c =
    let n = length_permitted c.args.n _ c.log_of.ensures c.in_ok-ok_or.ensures.ok_part in
    let long = length-take-le c.args.n c.within.new.samples (omega (arith, c.within.auto.samples)) in
    rw (permitted _ _ _ _ _ c.in_ok-try_from.ensures.0 n.0 ∙ c.in_ok-within.ensures)
    (refl, sym long, rw c.copy_from_slice.ensures.after (sym (sets_front c.args.results.now (take c.args.n c.within.new.samples) c.args.n long (omega arith))))
