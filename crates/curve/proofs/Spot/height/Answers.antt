-- `curve::Spot::height` meets its contract: the place is one of the sheet's percents, and the line's numbers are the sheet's.
-- Assumes nothing.
use native.Mathlib.Omega.{arith}
use Rattle.curve.proofs.Heights.{percent_place}
use Rattle.curve.proofs.Parts.{line_fits}
use Rattle.curve.proofs.Answering.{in_spot}
use Rattle.curve.proofs.Spot.height.Goals as goal

pub overflow_mul-i : goal.overflow_mul-i
overflow_mul-i c =
    let p = in_spot c.args.self in
    let h = percent_place p.rules c.requires p.within in
    omega arith

pub overflow_add-i : goal.overflow_add-i
overflow_add-i c =
    let p = in_spot c.args.self in
    let h = percent_place p.rules c.requires p.within in
    omega arith

pub offset_bounds-percents-i : goal.offset_bounds-percents-i
offset_bounds-percents-i c =
    let p = in_spot c.args.self in
    let h = percent_place p.rules c.requires p.within in
    omega arith

pub bounds-percents-i : goal.bounds-percents-i
bounds-percents-i c =
    let p = in_spot c.args.self in
    percent_place p.rules c.requires p.within

pub line-requires : goal.line-requires
line-requires c = line_fits _ (in_spot c.args.self) c.requires c.previous-x0.ensures c.previous-y0.ensures
