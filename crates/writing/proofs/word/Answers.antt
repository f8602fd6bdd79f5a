-- `writing::word` meets its contract: the word is looked up.
-- Assumes nothing.
use mathlib.Core.Path.{refl}
use Rattle.writing.proofs.Words.{word_told}
use Rattle.writing.proofs.word.Goals as goal

pub returns : goal.returns
returns c = word_told c.args.words.now c.args.k _ _ c.get.ensures.lookup c.copied.ensures c.unwrap_or.ensures refl
