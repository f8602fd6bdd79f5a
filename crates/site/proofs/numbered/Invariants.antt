-- `site::numbered` meets its contract: the loop's invariant says that what is left, with whether the numbers so far rise and the last of
-- them, decides as all of them do.
-- Assumes nothing.
use Rattle.site.proofs.Numbering.{Rising}
use Rattle.site.proofs.numbered.Given as goal

abbrev pub invariant-loop-number : goal.invariant-loop-number
invariant-loop-number l = Rising l.counter l.numbers l.rises l.low l.number-index
