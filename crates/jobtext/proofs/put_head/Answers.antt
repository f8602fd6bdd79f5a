-- `jobtext::put_head` meets its contract: the word of a case stands at its place.
-- Assumes nothing.
use Rattle.text.specs.Pieces.{joined, pieces}
use Rattle.writing.specs.Lines.{line_with, word_at}
use Rattle.jobtext.proofs.put_head.Goals as goal

pub returns-clause-value : goal.returns-clause-value
unfolding line_with word_at pieces joined
returns-clause-value c =
    let nutrient = c.place-nutrient.ensures in
    let mode = c.place-mode.ensures in
    let task = c.place-task.ensures in
    cc
