-- `text::word_at` meets its contract: the words that were looked at do not stand there, so the search among all of them is that among the rest.
-- Assumes nothing.
use Rattle.text.proofs.Listed.{Sought}
use Rattle.text.proofs.word_at.Given as goal

abbrev pub invariant-loop-k : goal.invariant-loop-k
invariant-loop-k l = Sought (λ w. w.now) l.words l.end l.s l.at l.k
