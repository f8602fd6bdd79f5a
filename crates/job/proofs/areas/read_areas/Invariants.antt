-- `job::areas::read_areas` meets its contract: the lines from a place on, added to the site so far, decide the reading of all of them.
-- Assumes nothing.
use Prim.Native.Nat.{◌-◌}
use lib.ListN.{length}
use Rattle.job.proofs.Walking.{Walked}
use Rattle.job.proofs.areas.read_areas.Given as goal

abbrev pub invariant-loop-at : goal.invariant-loop-at
invariant-loop-at l = Walked l.job l.text l.from l.at l.line l.site l.total

abbrev pub decreases-loop-at : goal.decreases-loop-at
decreases-loop-at l = length l.text - l.at
