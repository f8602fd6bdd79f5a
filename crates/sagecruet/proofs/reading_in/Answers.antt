-- `sagecruet::reading_in` meets its contract: the test picks the unit.
-- Assumes nothing.
use Rattle.sagecruet.proofs.reading_in.Goals as goal

pub returns-then-millimetres : goal.returns-then-millimetres
returns-then-millimetres c = rw c.if-millimetres.true

pub returns : goal.returns
returns c = rw c.if-millimetres.false
