-- `sagecruet::sagecruet_reading` meets its contract: the numbers are those of the rate, in the unit that was named.
-- Assumes nothing.
use Rattle.sagecruet.proofs.sagecruet_reading.Goals as goal

pub returns : goal.returns
returns c = rw (c.of_rate.ensures, c.rate.ensures, c.reading_in.ensures)
