-- `volume::six_areas` meets its contract: the loop's invariant says that the six areas so far, with the sub-areas that are left,
-- come to those of the site. A sum fits, being at most the total area.
-- Assumes nothing.
use Rattle.site.specs.Parts.{parts_of}
use Rattle.volume.proofs.Placing.{Placed}
use Rattle.volume.proofs.six_areas.Given as goal

abbrev pub invariant-loop-part : goal.invariant-loop-part
invariant-loop-part l = Placed (parts_of l.fn.site) l.part-index l.of
