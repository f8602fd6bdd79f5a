-- `volume::six_areas` meets its contract: the loop's invariant says that the six areas so far, with the sub-areas that are left,
-- come to those of the site. A sum fits, being at most the total area.
-- Assumes nothing.
use Rattle.std.proofs.Common.{rules}
use Rattle.volume.proofs.Placing.{none_placed, placed_next}
use Rattle.volume.proofs.six_areas.Goals as goal

pub loop-part-init : goal.loop-part-init
loop-part-init c = none_placed _

pub loop-part-preserved : goal.loop-part-preserved
loop-part-preserved c = search (placed_next, rules)
