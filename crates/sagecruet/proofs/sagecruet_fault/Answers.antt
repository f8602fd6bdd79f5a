-- `sagecruet::sagecruet_fault` meets its contract: no part stops before it starts.
-- Assumes nothing.
use mathlib.Core.Path.{ap}
use Rattle.job.proofs.Faults.{fault_within}
use Rattle.sagecruet.specs.Numbers.{of_span}
use Rattle.sagecruet.proofs.sagecruet_fault.Goals as goal

pub overflow_sub-result : goal.overflow_sub-result
overflow_sub-result c = rw c.fault_span-span.ensures (fault_within _).0

pub returns : goal.returns
returns c = ap of_span c.fault_span-span.ensures
