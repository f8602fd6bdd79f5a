-- `answer::basis_size` meets its contract: the word of a basis stands at its number, and none has more than seven bytes.
-- Assumes nothing.
use mathlib.Core.Path.{◌∙◌, ap}
use lib.ListN.{length}
use Rattle.text.specs.Pieces.{joined, pieces}
use Rattle.answer.proofs.Texts.{word_told, word_short}
use Rattle.answer.proofs.basis_size.Goals as goal

pub returns : goal.returns
unfolding pieces joined
returns c =
    let is = c.word_size.ensures ∙ ap length (word_told c.args.basis c.number.ensures) in
    (is, rw is (word_short c.args.basis))
