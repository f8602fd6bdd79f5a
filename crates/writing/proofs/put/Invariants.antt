-- `writing::put` meets its contract: with each turn one byte more of the text stands at its place.
-- Assumes nothing.
use Rattle.writing.proofs.Copying.{Copied}
use Rattle.writing.proofs.put.Given as goal

abbrev pub invariant-loop-at : goal.invariant-loop-at
invariant-loop-at l = Copied l.initial.buf l.s l.buf l.at
