-- `text::opens` meets its contract: the bytes that were passed are those of the word.
-- Assumes nothing.
use Rattle.text.proofs.Front.{Opening}
use Rattle.text.proofs.opens.Given as goal

abbrev pub invariant-loop-i : goal.invariant-loop-i
invariant-loop-i l = Opening l.word l.s l.i
