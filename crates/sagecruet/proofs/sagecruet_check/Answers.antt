-- `sagecruet::sagecruet_check` meets its contract: no part stops before it starts, and that of a yes is empty at the end.
-- Assumes nothing.
use Rattle.review.proofs.Comparing.{told_onward}
use Rattle.sagecruet.proofs.Checks.{right_told, wrong_told}
use Rattle.sagecruet.proofs.sagecruet_check.Goals as goal

pub overflow_sub-result : goal.overflow_sub-result
overflow_sub-result c = told_onward _ _ c.check.ensures c.in-Err.is

pub returns-in-Ok : goal.returns-in-Ok
returns-in-Ok c = right_told _ _ c.check.ensures c.in-Ok.is

pub returns-in-Err : goal.returns-in-Err
returns-in-Err c = wrong_told _ _ c.check.ensures c.in-Err.is
