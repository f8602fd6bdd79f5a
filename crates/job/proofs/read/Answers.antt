-- `job::read` meets its contract: the head is read, and then the areas.
-- Assumes nothing.
use native.Mathlib.Omega.{arith}
use Rattle.job.proofs.Whole.{reading_bad}
use Rattle.job.proofs.read.Goals as goal

pub returns-in_err-job : goal.returns-in_err-job
returns-in_err-job c = reading_bad _ (omega arith) c.read_head.ensures c.in_err-job.was c.from_residual.ensures.1
