-- `text::word_at` meets its contract: the words that were looked at do not stand there, so the search among all of them is that among the rest.
-- Assumes nothing.
use native.Mathlib.Omega.{arith}
use borrow.Author.Rules.{rules}
use Rattle.text.proofs.Listed.{sought_all, sought_fits, sought_found, sought_next}
use Rattle.text.proofs.word_at.Goals as goal

pub overflow_add-result : goal.overflow_add-result
overflow_add-result c =
    let fits = sought_fits c.args.s.now _ c.args.at c.args.end c.ends.ensures c.if-ends.true in
    omega arith

pub overflow_add-result-then-ends : goal.overflow_add-result-then-ends
overflow_add-result-then-ends c =
    let fits = sought_fits c.args.s.now _ c.args.at c.args.end c.ends.ensures c.if-ends.true in
    omega arith

pub returns-then-ends : goal.returns-then-ends
returns-then-ends c = sought_found _ c.loop-k.invariant c.loop-k-test.true c.ends.ensures c.if-ends.true

pub loop-k-preserved : goal.loop-k-preserved
loop-k-preserved c = sought_next _ c.loop-k.invariant c.loop-k-test.true c.ends.ensures c.if-ends.false

pub returns : goal.returns
returns c = sought_all c.loop-k.invariant (search rules) c.unread.ensures
