-- `text::next` meets its contract: it adds to the place what the search in the rest of the text finds.
-- Assumes nothing.
use native.Mathlib.Omega.{arith}
use Rattle.text.proofs.Splitting.{next_within}
use Rattle.text.proofs.next.Goals as goal

pub overflow_add-result : goal.overflow_add-result
overflow_add-result c = let a = c.args in let e = rw c.part.ensures.bytes at c.first.ensures in omega (arith, next_within a.b a.s.now a.from)

pub returns : goal.returns
returns c = rw (c.first.ensures, c.part.ensures.bytes)
