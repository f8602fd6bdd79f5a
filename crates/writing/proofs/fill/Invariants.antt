-- `writing::fill` meets its contract: each turn stores the last digit of what is left, and leaves the digits of its tenth.
-- Assumes nothing.
use Rattle.writing.proofs.Digits.{Spelled}
use Rattle.writing.proofs.fill.Given as goal

abbrev pub invariant-loop-at : goal.invariant-loop-at
invariant-loop-at l = Spelled l.n l.part l.rest l.at
