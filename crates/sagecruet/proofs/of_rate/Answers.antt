-- `sagecruet::of_rate` meets its contract: each case gives the number and the values of its own.
-- Assumes nothing.
use Rattle.sagecruet.proofs.of_rate.Goals as goal

pub returns-in-Ok : goal.returns-in-Ok
returns-in-Ok c = rw c.in-Ok.is

pub returns-in-Err : goal.returns-in-Err
returns-in-Err c = rw (c.number.ensures, c.in-Err.is)
