-- `text::ends` meets its contract: the word stands there, and then the byte behind it is looked at.
-- Assumes nothing.
use native.Mathlib.Omega.{arith}
use Rattle.text.proofs.Front.{stands_within, opens_there, ends_not, ends_there}
use borrow.Author.Rules.{rules}
use Rattle.text.proofs.ends.Goals as goal

pub overflow_add-at : goal.overflow_add-at
overflow_add-at c =
    let a = c.args in
    let there = opens_there a.s.now a.word.now a.at c.part.ensures.bytes c.opens.ensures in
    let n = stands_within a.s.now a.word.now a.at there c.if-opens.true in
    omega arith

pub returns-then-opens : goal.returns-then-opens
returns-then-opens c =
    let a = c.args in
    let there = opens_there a.s.now a.word.now a.at c.part.ensures.bytes c.opens.ensures in
    ends_there a.s.now a.word.now a.at a.end there c.get.result _ c.if-opens.true c.get.ensures.lookup c.eq.ensures (search rules)

pub returns-else-opens : goal.returns-else-opens
returns-else-opens c =
    let a = c.args in
    let there = opens_there a.s.now a.word.now a.at c.part.ensures.bytes c.opens.ensures in
    ends_not a.s.now a.word.now a.at a.end there c.if-opens.false
