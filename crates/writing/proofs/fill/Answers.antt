-- `writing::fill` meets its contract: each turn stores the last digit of what is left, and leaves the digits of its tenth.
-- Assumes nothing.
use borrow.Author.Rules.{rules}
use Rattle.writing.proofs.Digits.{spelled_next}
use Rattle.writing.proofs.fill.Goals as goal

pub loop-at-preserved : goal.loop-at-preserved
loop-at-preserved c = search (spelled_next, rules)
