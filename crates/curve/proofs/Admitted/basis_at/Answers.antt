-- `curve::Admitted::basis_at` meets its contract: the tests are the definition's, and a depth up to the last has a place in the sheet.
-- Assumes nothing.
use native.Mathlib.Omega.{arith}
use Rattle.curve.proofs.Bases.{basis_place}
use Rattle.curve.proofs.Answering.{is_ready}
use Rattle.curve.proofs.Admitted.basis_at.Goals as goal

pub bounds-depths-0 : goal.bounds-depths-0
bounds-depths-0 c = (is_ready c.args.self).rules.some_depths

pub overflow_sub-depths : goal.overflow_sub-depths
overflow_sub-depths c = (is_ready c.args.self).rules.some_depths

pub bounds-depths-depths : goal.bounds-depths-depths
bounds-depths-depths c =
    let h = (is_ready c.args.self).rules.some_depths in
    omega arith

pub bounds-depths-segment : goal.bounds-depths-segment
bounds-depths-segment c =
    basis_place c.args.self.sheet.depths.now c.args.depth.0 (is_ready c.args.self).rules.some_depths c.if-depths-depth.false c.segment.ensures

pub offset_bounds-depths-segment : goal.offset_bounds-depths-segment
offset_bounds-depths-segment c =
    let h = basis_place c.args.self.sheet.depths.now c.args.depth.0 (is_ready c.args.self).rules.some_depths c.if-depths-depth.false c.segment.ensures in
    omega arith
