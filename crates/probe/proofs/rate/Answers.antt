-- `probe::rate` meets its contract: each case hands its float on with its own unit.
-- Assumes nothing.
use Rattle.probe.proofs.rate.Goals as goal

pub returns-in-InchesPerHour : goal.returns-in-InchesPerHour
returns-in-InchesPerHour c = rw c.in-InchesPerHour.is c.of_float.ensures

pub returns-in-MillimetresPerHour : goal.returns-in-MillimetresPerHour
returns-in-MillimetresPerHour c = rw c.in-MillimetresPerHour.is c.of_float-in-MillimetresPerHour.ensures
