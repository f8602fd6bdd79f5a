-- `jobtext::head_size` meets its contract: the keys, the line ends and the letter of the nutrient are 47 bytes.
-- Assumes nothing.
use Rattle.text.specs.Pieces.{joined, pieces}
use Rattle.jobtext.proofs.Sizes.{head_sized}
use borrow.Author.Rules.{rules}
use Rattle.jobtext.proofs.head_size.Goals as goal

pub returns : goal.returns
unfolding pieces joined
returns c = (search (head_sized, rules), search rules)
