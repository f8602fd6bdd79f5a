-- `curve::Admitted::exact_at` meets its contract: the curves are the sheet's.
-- Assumes nothing.
use Rattle.curve.proofs.Choices.{neighbour_one, neighbour_two}
use Rattle.curve.proofs.Answering.{is_ready}
use Rattle.curve.proofs.Admitted.exact_at.Goals as goal

pub by_one-requires : goal.by_one-requires
by_one-requires c =
    rw c.spot-spot.ensures.sheet (neighbour_one c.args.self.sheet.rates.now c.in-One.is (is_ready c.args.self).curves)

pub by_two-requires : goal.by_two-requires
by_two-requires c =
    rw c.spot-spot.ensures.sheet (neighbour_two c.args.self.sheet.rates.now c.in-Two.is (is_ready c.args.self).curves)
