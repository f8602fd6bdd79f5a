-- `answer::put_basis` meets its contract: the word of a basis stands at its number.
-- Assumes nothing.
use Rattle.writing.specs.Lines.{line_with}
use Rattle.text.specs.Pieces.{joined, pieces}
use Rattle.answer.proofs.Texts.{word_told}
use Rattle.answer.proofs.put_basis.Goals as goal

pub returns-clause-value : goal.returns-clause-value
unfolding line_with pieces joined
returns-clause-value c = rw (word_told c.args.basis c.number-k.ensures) at c.word.ensures.value
