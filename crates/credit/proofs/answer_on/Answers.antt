-- `credit::answer_on` meets its contract: the record is judged before all else.
-- Assumes nothing.
use Rattle.std.proofs.lemmas.Result.{err_from_is_err_and}
use Rattle.credit.proofs.Sites.{lent_answers, stops}
use Rattle.credit.proofs.answer_on.Goals as goal

pub returns-in_err-walk : goal.returns-in_err-walk
returns-in_err-walk c =
    let p = err_from_is_err_and c.from_residual.result c.from_residual.ensures.1 in
    rw (p.1, p.2) (stops _ _ _ _ _ _ c.in_err-walk.ensures)

pub returns : goal.returns
returns c = lent_answers _ _ c.in_ok-walk.field-0 c.in_ok-walk.ensures _ _ _ _ _ _ c.on_sheet.ensures
