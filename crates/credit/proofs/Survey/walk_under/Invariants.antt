-- `credit::Survey::walk_under` meets its contract: the loop's invariant says that the sub-areas so far passed, and have the total area,
-- the six areas and the load that are carried. All sums fit, since the total area is at most the largest.
-- Assumes nothing.
use Rattle.site.specs.Parts.{parts_of}
use Rattle.credit.proofs.Surveying.{Surveying}
use Rattle.credit.proofs.Survey.walk_under.Given as goal

abbrev pub invariant-loop-part : goal.invariant-loop-part
invariant-loop-part l = Surveying l.rates (parts_of l.fn.site) l.part-index l.total.0 l.load l.of
