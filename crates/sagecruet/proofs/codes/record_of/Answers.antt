-- `sagecruet::codes::record_of` meets its contract: the sub-areas so far are stored, and with those that are left the record is whole.
-- Assumes nothing.
use borrow.Author.Rules.{rules}
use Rattle.sagecruet.proofs.Reading.{walked_stops, walked_next, walked_all}
use Rattle.sagecruet.proofs.codes.record_of.Goals as goal

pub returns-in_err-part : goal.returns-in_err-part
returns-in_err-part c = search (walked_stops c.loop-i.invariant c.loop-i-test.true c.in_err-part.ensures, rules)

pub loop-i-preserved : goal.loop-i-preserved
loop-i-preserved c = walked_next c.loop-i.invariant c.loop-i-test.true c.in_ok-part.ensures

pub returns : goal.returns
returns c = walked_all c.loop-i.invariant c.loop-i-test.false
