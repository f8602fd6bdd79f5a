-- `sagecruet::codes::job_of` meets its contract: each code gives its case.
-- Assumes nothing.
use Rattle.sagecruet.proofs.Words.{job_fine}
use Rattle.sagecruet.proofs.codes.job_of.Goals as goal

pub returns : goal.returns
returns c =
    job_fine c.args.nutrient c.args.mode c.args.task
    c.in_ok-coded.ensures
    c.in_ok-coded-2.ensures
    c.in_ok-coded-3.ensures
    c.args.practice
    c.args.rate
    c.args.amount
