-- `sheet::offending` meets its contract: it walks as far as every number is in step, and carries the number before.
-- Assumes nothing.
use Rattle.sheet.proofs.Carrying.{Carried}
use Rattle.sheet.proofs.offending.Given as goal

abbrev pub invariant-loop-k : goal.invariant-loop-k
invariant-loop-k l = Carried l.xs l.gap l.most l.low l.k
