-- `rewrite::write_c` meets its contract: with each turn one byte more is changed in its place.
-- Assumes nothing.
use borrow.Author.Rules.{rules}
use Rattle.rewrite.proofs.Changing.{changed_none, changed_next, changed_all}
use Rattle.rewrite.proofs.write_c.Goals as goal

pub loop-byte-init : goal.loop-byte-init
loop-byte-init c = search (changed_none, rules)

pub loop-byte-preserved : goal.loop-byte-preserved
loop-byte-preserved c = search (changed_next, rules)

pub returns : goal.returns
returns c = search (changed_all, rules)
