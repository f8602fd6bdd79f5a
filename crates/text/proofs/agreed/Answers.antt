-- `text::agreed` meets its contract: the pairs of bytes that are the same from the start on are what the texts have in common.
-- Assumes nothing.
use Prim.Native.Nat.{ℕ}
use lib.Dec.{eqb}
use lib.ListN.{take}
use borrow.Author.Rules.{rules}
use borrow.Author.Tests.{tests}
use Rattle.std.proofs.lemmas.Iterator.{YieldsList-from_slice, YieldsList-from_zip}
use Rattle.std.proofs.lemmas.Iterator.Search.{YieldsList-from_take_while}
use Rattle.std.proofs.lemmas.Iterator.Consumers.{count_from_yields_List, YieldsList-at}
use Rattle.text.proofs.Alike.{agreed_taken, taken_within}
use Rattle.text.proofs.agreed.Goals as goal

pub returns : goal.returns
returns c =
    let both = c.min-both.result in
    agreed_taken c.args.s.now c.args.t.now
    (taken_within c.args.s.now c.args.t.now c.min-both.ensures
    (count_from_yields_List c.take_while.result _ c.count.ensures.ran
    (YieldsList-from_take_while _ (λ (p : ℕ × ℕ). eqb p.0 p.1)
    (YieldsList-at (c.take_while.ensures.source) (YieldsList-from_zip (YieldsList-from_slice (take both c.args.s.now) (cc)) (YieldsList-from_slice (take both c.args.t.now) (cc))))
    c.take_while.ensures.closure c.take_while.ensures.done (λ x b q k. search (rules, tests)))))
