-- The three numbers at the head, then the rest.
use Rattle.std.proofs.Common.{[], ◌∷◌, refl, sym}
use Rattle.std.proofs.lemmas.Result.{err_from_is_err_and}
use Rattle.request.proofs.Giving.{head_broken, head_whole}
use Rattle.request.proofs.request.Goals as goal

pub returns-in_err-p : goal.returns-in_err-p
returns-in_err-p c =
    let p = err_from_is_err_and c.from_residual.result c.from_residual.ensures.1 in
    rw (p.1, p.2) (head_broken _ (sym c.in_err-p.ensures.value), refl)

pub returns : goal.returns
returns c =
    let read = head_whole c.args.input.now (sym c.in_ok-p.ensures.value) (0 ∷ 0 ∷ 0 ∷ []) c.numbers.new.out refl c.numbers.ensures.out_after in
    rw read c.asked.ensures
