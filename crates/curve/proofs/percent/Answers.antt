-- `curve::percent` meets its contract: an admitted sheet is ready for every depth, and the depth is tried last.
-- Assumes nothing.
use Rattle.std.proofs.lemmas.Result.{err_from_is_err_and}
use Rattle.curve.proofs.Answering.{percent_refused, percent_deep, given_percent}
use Rattle.curve.proofs.percent.Goals as goal

pub returns-in_err-admitted : goal.returns-in_err-admitted
returns-in_err-admitted c =
    let p = err_from_is_err_and c.from_residual.result c.from_residual.ensures.1 in
    rw (p.1, p.2) (percent_refused _ _ _ _ _ c.in_err-admitted.ensures _)

pub returns-then-depth-gt-HIGHEST : goal.returns-then-depth-gt-HIGHEST
returns-then-depth-gt-HIGHEST c = percent_deep _ _ _ _ _ c.in_ok-admitted.ensures.1 _ c.if-depth-gt-HIGHEST.true

pub returns : goal.returns
returns c = given_percent c.in_ok-admitted.admitted _ _ _ c.in_ok-admitted.ensures _ c.if-depth-gt-HIGHEST.false c.percent_at.ensures c.basis_at.ensures
