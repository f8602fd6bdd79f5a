-- `credit::depth_in` meets its contract, case by case.
-- Assumes nothing.
use mathlib.Core.Path.{sym, ap}
use Rattle.credit.specs.Inner.{depth_in}
use Rattle.credit.proofs.depth_in.Goals as goal

pub returns-in-Err : goal.returns-in-Err
returns-in-Err c = ap depth_in (sym c.in-Err.is)
