-- `site::Site::judge` meets its contract: the loop's invariant says that what is left, with the total area so far, decides as all sub-areas
-- do.
-- Assumes nothing.
use Rattle.site.specs.Parts.{parts_of}
use Rattle.site.proofs.Trying.{Tried}
use Rattle.site.proofs.Site.judge.Given as goal

abbrev pub invariant-loop-part : goal.invariant-loop-part
invariant-loop-part l = Tried (parts_of l.fn.self) l.part-index l.total.0
