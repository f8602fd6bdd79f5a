-- `review::wrong_line` meets its contract: the part is the one that the check gives.
-- Assumes nothing.
use Rattle.review.proofs.Comparing.{right_part, wrong_part}
use Rattle.review.proofs.wrong_line.Goals as goal

pub returns-in-Ok : goal.returns-in-Ok
returns-in-Ok c = right_part _ _ _ c.check.ensures c.in-Ok.is c.part.ensures

pub returns-in-Err : goal.returns-in-Err
returns-in-Err c = wrong_part _ _ _ c.check.ensures c.in-Err.is c.part-in-Err.ensures
