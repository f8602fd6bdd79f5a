-- `volume::within_limit` meets its contract: the loop's invariant says that the total so far, with what is left, is the whole total.
-- Assumes nothing.
use Rattle.std.proofs.Common.{◌≡◌, length, arith}
use Rattle.volume.proofs.Limit.{total_within}
use Rattle.volume.proofs.within_limit.Goals as goal

pub returns : goal.returns
returns c = let len : length c.args.areas.of ≡ 6 = c.well_formed.0.1.1.0.1.0.1 in total_within _ _ _ c.loop-area.invariant (let l = c.loop-area-test.false in omega arith)
