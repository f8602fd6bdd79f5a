-- `sagecruet::codes::part_of` meets its contract: each code gives its case.
-- Assumes nothing.
use Rattle.sagecruet.proofs.Words.{part_fine}
use Rattle.sagecruet.proofs.codes.part_of.Goals as goal

pub returns : goal.returns
returns c =
    part_fine c.args.land c.args.cover c.args.soil
    c.in_ok-coded.ensures
    c.in_ok-coded-2.ensures
    c.in_ok-coded-3.ensures
    c.args.area
