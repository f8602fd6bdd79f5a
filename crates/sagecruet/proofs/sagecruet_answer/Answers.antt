-- `sagecruet::sagecruet_answer` meets its contract: the text is the calculator's, and its length is what was written.
-- Assumes nothing.
use mathlib.Core.Path.{◌∙◌, ap}
use Rattle.sagecruet.specs.Numbers.{of_written}
use Rattle.sagecruet.proofs.sagecruet_answer.Goals as goal

pub returns : goal.returns
returns c = record { value = c.of_written.ensures ∙ ap of_written c.answer.ensures.value; buf_after = c.answer.ensures.buf_after }
