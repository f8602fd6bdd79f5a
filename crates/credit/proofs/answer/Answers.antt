-- `credit::answer` meets its contract: the record is judged before all else, then 4 is tried.
-- Assumes nothing.
use Rattle.std.proofs.lemmas.Result.{err_from_is_err_and}
use Rattle.credit.proofs.Sites.{table_answers, none_published, stops}
use Rattle.credit.proofs.answer.Goals as goal

pub returns-in_err-survey : goal.returns-in_err-survey
returns-in_err-survey c =
    let p = err_from_is_err_and c.from_residual.result c.from_residual.ensures.1 in
    rw (p.1, p.2) (stops _ _ _ _ _ _ c.in_err-survey.ensures)

pub returns-in_err-sheet : goal.returns-in_err-sheet
returns-in_err-sheet c =
    let p = err_from_is_err_and c.from_residual-in_err-sheet.result c.from_residual-in_err-sheet.ensures.1 in
    rw (p.1, p.2) (none_published _ _ c.in_ok-survey.survey c.in_ok-survey.ensures _ _ _ _ c.in_err-sheet.ensures)

pub returns : goal.returns
returns c = table_answers _ _ c.in_ok-survey.survey c.in_ok-survey.ensures _ _ _ _ c.in_ok-sheet.field-0 c.in_ok-sheet.ensures c.on_sheet.ensures
