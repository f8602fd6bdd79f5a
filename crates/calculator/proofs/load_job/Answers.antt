-- `calculator::load_job` meets its contract: what refuses the load refuses the job.
-- Assumes nothing.
use Rattle.calculator.proofs.Finding.{load_refused}
use Rattle.calculator.proofs.load_job.Goals as goal

pub returns-in_err-load : goal.returns-in_err-load
returns-in_err-load c = load_refused _ _ c.if-job-ne0.false c.load.ensures c.in_err-load.was c.from_residual.ensures.1
