-- `text::digits` meets its contract: the bytes that were passed are digits, and make the number so far. It has fewer than fourteen digits, so there is room for one more.
-- Assumes nothing.
use Rattle.text.proofs.Reading.{Made}
use Rattle.text.proofs.digits.Given as goal

abbrev pub invariant-loop-x : goal.invariant-loop-x
invariant-loop-x l = Made l.s l.v l.x-index
