-- `sagecruet::of_job` meets its contract: each case gives the number and the length of its own.
-- Assumes nothing.
use Rattle.sagecruet.proofs.of_job.Goals as goal

pub returns-in-Ok : goal.returns-in-Ok
returns-in-Ok c = rw c.in-Ok.is

pub returns-in-Err : goal.returns-in-Err
returns-in-Err c = rw (c.number.ensures, c.in-Err.is)
