-- `published::percent` meets its contract: the sheet is that of the practice, or there is none.
-- Assumes nothing.
use Rattle.std.proofs.lemmas.Result.{err_from_is_err_and}
use Rattle.published.proofs.Answering.{percent_found, percent_none}
use Rattle.published.proofs.percent.Goals as goal

pub returns-in_err-sheet : goal.returns-in_err-sheet
returns-in_err-sheet c =
    let p = err_from_is_err_and c.from_residual.result c.from_residual.ensures.1 in
    rw (p.1, p.2) (percent_none _ _ _ _ c.in_err-sheet.ensures _)

pub returns : goal.returns
returns c = percent_found _ _ _ _ c.in_ok-sheet.field-0 c.in_ok-sheet.ensures _ c.percent.ensures
