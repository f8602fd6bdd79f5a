-- `volume::Ground::depth_within` meets its contract: bisection, since V never falls with depth.
-- Assumes nothing.
use Rattle.std.proofs.Common.{rules}
use Rattle.volume.proofs.Reaching.{closing_starts, closing_up, closing_down}
use Rattle.volume.proofs.Ground.depth_within.Goals.{then-found-volume, else-found-volume}
use Rattle.volume.proofs.Ground.depth_within.Goals as goal

pub loop-width-init : goal.loop-width-init
loop-width-init c = search (closing_starts, rules)

pub loop-width-preserved : goal.loop-width-preserved
loop-width-preserved c =
    elim c.if-found-volume.branch [
      | then-found-volume w ↦ rw w.low-is (closing_up _ _ _ _ c.loop-width.invariant c.loop-width-test.true _ c.volume_at-found.ensures w.if-found-volume.true)
      | else-found-volume w ↦ rw w.low-is (closing_down _ _ _ _ c.loop-width.invariant c.loop-width-test.true _ c.volume_at-found.ensures w.if-found-volume.false)
    ]
