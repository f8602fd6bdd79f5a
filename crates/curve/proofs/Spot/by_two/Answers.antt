-- `curve::Spot::by_two` meets its contract: each part of the fraction fits.
-- Assumes nothing.
use native.Mathlib.Nat.{lt_of_le_of_lt}
use lib.Dec.{lit<}
use Rattle.curve.proofs.Parts.{mix_fits, under_fits}
use Rattle.curve.proofs.Answering.{in_spot}
use Rattle.curve.proofs.Spot.by_two.Goals as goal

pub line-requires : goal.line-requires
line-requires c = mix_fits (in_spot c.args.self) c.requires c.height-below.ensures c.height-above.ensures

pub overflow_mul-result : goal.overflow_mul-result
overflow_mul-result c =
    record { fits = lt_of_le_of_lt (under_fits (in_spot c.args.self) c.requires c.width.ensures) (lit< tt) }
