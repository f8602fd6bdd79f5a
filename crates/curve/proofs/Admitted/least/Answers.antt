-- `curve::Admitted::least` meets its contract: the percents never fall with depth, so the grid is bisected; eight trials are enough for 201 depths.
-- Assumes nothing.
use native.Mathlib.Omega.{arith}
use Rattle.curve.proofs.Searching.{search_starts, search_up, search_down, search_out}
use Rattle.curve.proofs.Answering.{is_ready}
use Rattle.curve.proofs.Admitted.least.Goals as goal
use Rattle.curve.proofs.Admitted.least.Goals.{then-percent-target, else-percent-target}

pub loop-init : goal.loop-init
loop-init c = search_starts _ _ _ _

pub loop-preserved : goal.loop-preserved
loop-preserved c =
    elim c.if-percent-target.branch [
      | then-percent-target w ↦
          rw (w.low-is, w.high-is, w.found-is)
          (search_up _ _ _ _ _ _ _ _ _ c.loop.invariant c.loop-test.true c.if-high-low.false c.percent_at-percent.ensures (is_ready c.args.self)
          w.if-percent-target.true)
      | else-percent-target w ↦
          rw (w.low-is, w.high-is, w.found-is)
          (search_down _ (c.args.self).sheet.rates.now _ _ _ _ _ _ _ c.loop.invariant c.loop-test.true c.if-high-low.false c.percent_at-percent.ensures
          w.if-percent-target.false)
    ]

pub returns-after-loop : goal.returns-after-loop
returns-after-loop c = search_out _ _ _ _ _ _ _ _ c.loop.invariant (omega arith)
