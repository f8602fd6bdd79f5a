-- `sagecruet::sagecruet_percent` meets its contract: the numbers are those of the percent, in the mode that was named.
-- Assumes nothing.
use Rattle.sagecruet.proofs.sagecruet_percent.Goals as goal

pub returns : goal.returns
returns c = rw (c.of_percent.ensures, c.percent.ensures, c.mode_of.ensures)
