-- `answer::granted_too_short` meets its contract: no text is longer than the longest.
-- Assumes nothing.
use mathlib.Core.Path.{ap}
use borrow.Author.Rules.{rules}
use lib.Dec.{ltb}
use Rattle.answer.proofs.Texts.{granted_long_enough}
use Rattle.answer.proofs.granted_too_short.Goals as goal

pub returns-then-len-ge-LONGEST : goal.returns-then-len-ge-LONGEST
returns-then-len-ge-LONGEST c = search (granted_long_enough, rules)

pub returns : goal.returns
returns c = ap (ltb c.args.len) c.granted_size.ensures
