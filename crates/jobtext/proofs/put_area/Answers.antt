-- `jobtext::put_area` meets its contract: the word of a case stands at its place.
-- Assumes nothing.
use Rattle.text.specs.Pieces.{joined, pieces}
use Rattle.writing.specs.Lines.{word_at}
use Rattle.jobtext.proofs.put_area.Goals as goal

pub returns-clause-value : goal.returns-clause-value
unfolding word_at pieces joined
returns-clause-value c =
    let land = c.place-land.ensures in
    let cover = c.place-cover.ensures in
    let soil = c.place-soil.ensures in
    cc
