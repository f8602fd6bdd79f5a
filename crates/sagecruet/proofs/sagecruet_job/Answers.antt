-- `sagecruet::sagecruet_job` meets its contract: the text is the writer's, and its number and length are what was written.
-- Assumes nothing.
use mathlib.Core.Path.{◌∙◌, ap}
use Rattle.sagecruet.specs.Numbers.{of_job}
use Rattle.sagecruet.proofs.sagecruet_job.Goals as goal

pub returns : goal.returns
returns c = record { value = c.of_job.ensures ∙ ap of_job c.write.ensures.value; text_after = c.write.ensures.text_after }
