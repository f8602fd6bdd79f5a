-- `curve::Admitted::least` meets its contract: the percents never fall with depth, so the grid is bisected; eight trials are enough for 201 depths.
-- Assumes nothing.
use Prim.Native.Nat.{◌-◌}
use Rattle.curve.proofs.Searching.{Searching}
use Rattle.curve.proofs.Admitted.least.Given as goal

abbrev pub invariant-loop : goal.invariant-loop
invariant-loop l =
    Searching l.self.sheet.depths.now l.self.sheet.percents.now l.self.curves l.target.0 (8 - l.counter) l.low l.high l.found
