-- `sheet::offending` meets its contract: it walks as far as every number is in step, and carries the number before.
-- Assumes nothing.
use borrow.Author.Rules.{rules}
use Rattle.sheet.proofs.Carrying.{carry_start, carry_found, carry_on, carry_end}
use Rattle.sheet.proofs.offending.Goals as goal

pub loop-k-init : goal.loop-k-init
loop-k-init c = carry_start _ _ _

pub returns-then-not-in_step : goal.returns-then-not-in_step
returns-then-not-in_step c = search (carry_found, rules)

pub loop-k-preserved : goal.loop-k-preserved
loop-k-preserved c = search (carry_on, rules)

pub returns : goal.returns
returns c = search (carry_end, rules)
