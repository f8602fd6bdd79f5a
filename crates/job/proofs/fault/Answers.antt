-- `job::fault` meets its contract: the part lies where its span says.
-- Assumes nothing.
use Rattle.job.proofs.fault.Goals as goal

pub returns : goal.returns
returns c = rw c.fault_span-span.ensures at c.part.ensures
