-- `rewrite::write_c` meets its contract: with each turn one byte more is changed in its place.
-- Assumes nothing.
use Rattle.rewrite.proofs.Changing.{Changed}
use Rattle.rewrite.proofs.write_c.Given as goal

abbrev pub invariant-loop-byte : goal.invariant-loop-byte
invariant-loop-byte l = Changed l.initial.text l.text l.byte-index
