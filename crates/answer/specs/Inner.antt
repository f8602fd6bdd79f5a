-- What only private functions say: the lines of an outcome, in their order.
-- Assumes nothing.
use Rattle.std.specs.Prelude.{ℕ, List, Ok, Err}
use Rattle.answer.specs.Outcomes.{Outcome}
use Rattle.answer.specs.declared.Failure.TheVariants.{Refused, BadSheet}
use Rattle.answer.specs.Outcomes.{given}
use Rattle.answer.specs.Lines.{granted_lines, refused_lines}

abbrev pub lines_of : Outcome → List (List ℕ)
lines_of (Ok f) = granted_lines (given (Ok f))
lines_of (Err (Refused why line)) = refused_lines (given (Err (Refused why line))) line
lines_of (Err (BadSheet list place)) = refused_lines (given (Err (BadSheet list place))) 0
