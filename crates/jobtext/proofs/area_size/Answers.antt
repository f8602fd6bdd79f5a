-- `jobtext::area_size` meets its contract: the key, the commas, the line end and the letters of the cover are 12 bytes.
-- Assumes nothing.
use Rattle.text.specs.Pieces.{joined, pieces}
use Rattle.jobtext.proofs.Sizes.{area_sized}
use borrow.Author.Rules.{rules}
use Rattle.jobtext.proofs.area_size.Goals as goal

pub returns : goal.returns
unfolding pieces joined
returns c = search (area_sized, rules)
