-- `calculator::outcome_by` meets its contract: the text is read before all else.
-- Assumes nothing.
use borrow.Author.Rules.{rules}
use Rattle.calculator.proofs.Finding.{read_found, read_refused}
use Rattle.calculator.proofs.outcome_by.Goals as goal

pub returns-in_err-job : goal.returns-in_err-job
returns-in_err-job c = read_refused _ _ c.read.ensures (search rules) c.in_err-job.was c.from_residual.ensures.1

pub returns : goal.returns
returns c = read_found _ _ c.read.ensures (search rules) c.in_ok-job.was c.worked.ensures
