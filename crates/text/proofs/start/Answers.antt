-- `text::start` meets its contract: once a piece runs to the end, all later ones start there.
-- Assumes nothing.
use Rattle.std.proofs.Common.{rules}
use Rattle.text.proofs.Splitting.{start_ends}
use Rattle.text.proofs.start.Goals as goal

pub returns-then-s-at : goal.returns-then-s-at
returns-then-s-at c = start_ends _ _ _ _ c.loop.invariant (search rules) c.next-at.ensures c.if-s-at.true
