-- `sagecruet::codes::record_of` meets its contract: the sub-areas so far are stored, and with those that are left the record is whole.
-- Assumes nothing.
use Rattle.sagecruet.proofs.Reading.{Walked}
use Rattle.sagecruet.proofs.codes.record_of.Given as goal

abbrev pub invariant-loop-i : goal.invariant-loop-i
invariant-loop-i l = Walked l.count l.areas l.site l.i l.at
