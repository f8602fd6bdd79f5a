-- `probe::Scale::of_float` meets its contract: what is not a number differs from itself, and any other float is what its bits stand for.
-- Assumes nothing.
use Rattle.probe.proofs.Patterns.{nan_refused, a_number, bits_stand}
use Rattle.probe.proofs.Scale.of_float.Goals as goal

pub returns-then-x : goal.returns-then-x
returns-then-x c = nan_refused _ _ c.args.x c.if-x.true

pub float_to_bits-x : goal.float_to_bits-x
float_to_bits-x c = a_number c.args.x c.if-x.false

pub returns : goal.returns
returns c = bits_stand _ _ c.args.x _ c.well_formed.1.0.1 c.of_bits.ensures
