-- What only private functions ask of one another: nobody need read it to believe the promises.
-- Assumes nothing.
use Rattle.std.specs.Prelude.{ℕ, List, length}
use Rattle.text.specs.Part.{part_of}
use Rattle.text.specs.Pieces.{line_feed, pieces}
use Rattle.review.specs.declared.WrongLine.{WrongLine}
use Rattle.review.specs.Checking.{wrong_at}

-- the line of the claimed text that is wrong, where so many of its bytes are right
abbrev pub wrong_behind : List ℕ → ℕ → WrongLine
wrong_behind claimed agreed = wrong_at claimed (length (pieces line_feed (part_of claimed 0 agreed)))
