-- `sagecruet::sagecruet_answer_on` meets its contract, in the same way.
-- Assumes nothing.
use mathlib.Core.Path.{◌∙◌, ap}
use Rattle.sagecruet.specs.Numbers.{of_written}
use Rattle.sagecruet.proofs.sagecruet_answer_on.Goals as goal

pub returns : goal.returns
returns c = record { value = c.of_written.ensures ∙ ap of_written c.answer_on.ensures.value; buf_after = c.answer_on.ensures.buf_after }
