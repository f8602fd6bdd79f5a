-- `volume::Ground::volume_at` meets its contract: the loop's invariant says that the sum so far, with the columns that are left, is the
-- whole sum, and that it stays small.
-- Assumes nothing.
use Rattle.volume.proofs.Evaluation.{Summing}
use Rattle.volume.proofs.Ground.volume_at.Given as goal

abbrev pub invariant-loop-soil : goal.invariant-loop-soil
invariant-loop-soil l = Summing l.fn.self.areas.of l.depth.0 l.soil l.sum
