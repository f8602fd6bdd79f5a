-- `loads::load_under` meets its contract: a refused record stops it. Of a fine one the loop's invariant says that the sum so far, with what
-- is left, is the whole load, and that it stays small; then it is tried by 15.
-- Assumes nothing.
use Rattle.site.specs.Parts.{parts_of}
use Rattle.loads.proofs.Summing.{Loading}
use Rattle.loads.proofs.load_under.Given as goal

abbrev pub invariant-loop-part : goal.invariant-loop-part
invariant-loop-part l = Loading l.rates (parts_of l.fn.site) l.part-index l.sum
