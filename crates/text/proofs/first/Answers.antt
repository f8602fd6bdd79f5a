-- `text::first` meets its contract: what the library's search finds is the place of the first b.
-- Assumes nothing.
use lib.Dec.{eqb}
use borrow.Author.Rules.{rules}
use borrow.Author.Tests.{tests}
use Rattle.std.proofs.lemmas.Iterator.{YieldsList-from_slice}
use Rattle.std.proofs.lemmas.Iterator.Search.{position_from_yields_List}
use Rattle.text.proofs.Splitting.{first_found}
use Rattle.text.proofs.first.Goals as goal

pub returns : goal.returns
returns c =
    first_found c.args.b c.args.s.now c.unwrap_or.ensures
    (position_from_yields_List (λ x. eqb x c.args.b) _ _ c.position.result c.position.ensures.ran (YieldsList-from_slice c.args.s.now (cc)) (λ x b q k. search (rules, tests)))
