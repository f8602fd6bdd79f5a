-- `text::start` meets its contract: each turn goes from the start of a piece to the start of the next; once a piece runs to the end, all later ones start there.
-- Assumes nothing.
use mathlib.Core.Path.{◌≡◌}
use Rattle.text.specs.Pieces.{start_of}
use Rattle.text.proofs.start.Given as goal

abbrev pub invariant-loop : goal.invariant-loop
invariant-loop l = l.from ≡ start_of l.b l.s l.counter
