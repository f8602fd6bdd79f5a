-- `curve::fastest` meets its contract: the rates not above the site rate are those below one more, and there is one.
-- Assumes nothing.
use Rattle.curve.proofs.Choices.{segment_some, fastest_is}
use borrow.Author.Rules.{rules}
use Rattle.curve.proofs.fastest.Goals as goal

pub overflow_sub-result : goal.overflow_sub-result
overflow_sub-result c = search (segment_some, rules)

pub returns : goal.returns
returns c = search (fastest_is, rules)
