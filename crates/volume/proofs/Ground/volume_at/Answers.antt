-- `volume::Ground::volume_at` meets its contract: the sum so far, with the columns that are left, is the whole sum, and it stays small.
-- Assumes nothing.
use Rattle.std.proofs.Common.{rules}
use Rattle.volume.proofs.Evaluation.{term_fits, sum_fits, sum_next, sum_ends}
use Rattle.volume.proofs.Ground.volume_at.Goals as goal

pub overflow_mul-sum-in-loop-soil : goal.overflow_mul-sum-in-loop-soil
overflow_mul-sum-in-loop-soil c = search (term_fits, rules)

pub overflow_add-sum-in-loop-soil : goal.overflow_add-sum-in-loop-soil
overflow_add-sum-in-loop-soil c = search (sum_fits, rules)

pub loop-soil-preserved : goal.loop-soil-preserved
loop-soil-preserved c = search (sum_next, rules)

pub returns : goal.returns
returns c = search (sum_ends, rules)
