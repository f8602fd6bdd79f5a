-- `volume::Ground::depth_within` meets its contract: bisection, since V never falls with depth.
-- Assumes nothing.
use Rattle.volume.proofs.Reaching.{Closing}
use Rattle.volume.proofs.Ground.depth_within.Given as goal

abbrev pub invariant-loop-width : goal.invariant-loop-width
invariant-loop-width l = Closing l.self.areas.of l.volume.0 l.low l.width

abbrev pub decreases-loop-width : goal.decreases-loop-width
decreases-loop-width l = l.width
