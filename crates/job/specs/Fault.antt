-- Rules, "The numbers given back": refusal 1 also returns the offending line as that part of the caller's own text without its LF.
-- Assumes nothing.
use Rattle.std.specs.Prelude.{ℕ, zero, suc, cond, List, length, eqb}
use Rattle.refusal.specs.declared.Refusal.TheVariants.{MalformedText}
use Rattle.refusal.specs.Refusal.{number_of}
use Rattle.text.specs.Pieces.{line_feed, start_of, end_of}
use Rattle.job.specs.declared.Span.{Span}
use Rattle.job.specs.Reading.{reading_of, given}

-- an empty part at the end of the text
abbrev pub at_the_end : List ℕ → Span
at_the_end s = record { from = length s; to = length s }

-- Line k of a text, counted from 1: it is empty, at the end, where the line is missing. Line 0 is that of a text that is too long: an empty part at the start.
unfoldable pub line_span : List ℕ → ℕ → Span
line_span s zero = record { from = 0; to = 0 }
line_span s (suc k) = record { from = start_of line_feed s k; to = end_of line_feed s k }

-- the offending line under refusal 1, by the number and the line that are given back
unfoldable pub fault_in : List ℕ → ℕ × ℕ → Span
fault_in s (number, k) = cond (eqb number (number_of MalformedText)) (line_span s k) (at_the_end s)

abbrev pub fault_of : List ℕ → Span
fault_of s = fault_in s (given (reading_of s))
