-- `sagecruet::sagecruet_sheet` meets its contract: the numbers are those of the verdict.
-- Assumes nothing.
use mathlib.Core.Path.{◌∙◌, ap}
use Rattle.sagecruet.specs.Numbers.{of_verdict}
use Rattle.sagecruet.proofs.sagecruet_sheet.Goals as goal

pub returns : goal.returns
returns c = c.of_verdict.ensures ∙ ap of_verdict c.judge.ensures
