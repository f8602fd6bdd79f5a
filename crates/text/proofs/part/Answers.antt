-- `text::part` meets its contract: the places that it cuts at are those that were asked for, drawn in to the text.
-- Assumes nothing.
use borrow.Author.Rules.{rules}
use Rattle.text.proofs.Parts.{part_drawn}
use Rattle.text.proofs.part.Goals as goal

pub returns : goal.returns
returns c = record { bytes = search (part_drawn, rules); block = search rules; start = search rules }
