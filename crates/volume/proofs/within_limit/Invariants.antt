-- `volume::within_limit` meets its contract: the loop's invariant says that the total so far, with what is left, is the whole total.
-- Assumes nothing.
use Rattle.volume.proofs.Limit.{Totalled}
use Rattle.volume.proofs.within_limit.Given as goal

abbrev pub invariant-loop-area : goal.invariant-loop-area
invariant-loop-area l = Totalled l.fn.areas.of l.area-index l.total
