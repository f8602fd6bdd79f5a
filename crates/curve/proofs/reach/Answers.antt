-- `curve::reach` meets its contract: an admitted sheet is ready for every depth, and the least depth is on the grid where the target is reached.
-- Assumes nothing.
use Rattle.std.proofs.lemmas.Result.{err_from_is_err_and}
use Rattle.curve.proofs.Answering.{reach_high, reach_refused, given_depth, given_none}
use Rattle.curve.proofs.reach.Goals as goal

pub returns-in_err-admitted : goal.returns-in_err-admitted
returns-in_err-admitted c =
    let p = err_from_is_err_and c.from_residual.result c.from_residual.ensures.1 in
    rw (p.1, p.2) (reach_refused _ _ _ _ _ c.in_err-admitted.ensures _)

pub returns-then-target-gt-MOST_PERCENT : goal.returns-then-target-gt-MOST_PERCENT
returns-then-target-gt-MOST_PERCENT c = reach_high _ _ _ _ _ c.in_ok-admitted.ensures.1 _ c.if-target-gt-MOST_PERCENT.true

pub returns-in-Some : goal.returns-in-Some
returns-in-Some c =
    given_depth c.in_ok-admitted.admitted _ _ _ c.in_ok-admitted.ensures _ c.if-target-gt-MOST_PERCENT.false c.in-Some.ensures c.basis_at.ensures

pub returns-in-None : goal.returns-in-None
returns-in-None c =
    given_none c.in_ok-admitted.admitted _ _ _ c.in_ok-admitted.ensures _ c.if-target-gt-MOST_PERCENT.false c.in-None.ensures
