-- `curve::segment` meets its contract: the numbers below x are taken from the front on.
-- Assumes nothing.
use borrow.Author.Rules.{rules}
use borrow.Author.Tests.{tests}
use Rattle.std.proofs.Common.{◌∙◌, ltb}
use Rattle.std.proofs.lemmas.Iterator.{YieldsList-from_slice}
use Rattle.std.proofs.lemmas.Iterator.Consumers.{count_from_yields_List}
use Rattle.std.proofs.lemmas.Iterator.Search.{YieldsList-from_take_while}
use Rattle.std.proofs.lemmas.List.Folds.{length-prefix_len}
use Rattle.curve.proofs.Segments.{taken_while}
use Rattle.curve.proofs.segment.Goals as goal

pub returns : goal.returns
returns c =
    count_from_yields_List c.take_while.result _ c.count.ensures.ran
    (YieldsList-from_take_while _ (λ y. ltb y c.args.x) (YieldsList-from_slice c.args.numbers.now cc) c.take_while.ensures.closure c.take_while.ensures.done (λ y b q k. search (rules, tests)))
    ∙ length-prefix_len (λ y. ltb y c.args.x) c.args.numbers.now
    ∙ taken_while c.args.numbers.now c.args.x
