-- Rules, "Checking an answer": a yes exactly when an answer text that somebody else made is what the rules give for the job, or else
-- its first wrong line, as a part of their own text without its LF.
-- Assumes nothing.
use Rattle.std.specs.Prelude.{ℕ, cond, List, length, Result, Ok, Err}
use Rattle.text.specs.Pieces.{line_feed, pieces}
use Rattle.text.specs.Words.{same_of, agreed_of}
use Rattle.job.specs.declared.Span.{Span}
use Rattle.job.specs.Fault.{at_the_end, line_span}
use Rattle.answer.specs.Lines.{answer_text}
use Rattle.calculator.specs.Outcome.{by_tables, outcome_of}
use Rattle.review.specs.declared.WrongLine.{WrongLine}

-- the number of the line in which two texts part, counted from 1: one more than the line feeds in what they have in common from their
-- start, which is the number of its pieces between line feeds
abbrev pub wrong_line : List ℕ → List ℕ → ℕ
wrong_line ours claimed = length (pieces line_feed (agreed_of ours claimed))

-- a line of the claimed text, by its number, with its place
abbrev pub wrong_at : List ℕ → ℕ → WrongLine
wrong_at claimed k = record { line = k; from = (line_span claimed k).from; to = (line_span claimed k).to }

-- a claimed text against ours: right where they are the same, byte for byte, and else wrong in the line of theirs in which they part
unfoldable pub checked_of : List ℕ → List ℕ → Result (Unit {0}) WrongLine
checked_of ours claimed = cond (same_of ours claimed) (Ok tt) (Err (wrong_at claimed (wrong_line ours claimed)))

-- the text that the rules give for a job
abbrev pub answer_for : List ℕ → List ℕ
answer_for job = answer_text (outcome_of by_tables job)

-- a claimed text against what the rules give for a job
abbrev pub check_of : List ℕ → List ℕ → Result (Unit {0}) WrongLine
check_of job claimed = checked_of (answer_for job) claimed

-- the number of the wrong line and its place in the claimed text; for a yes the number is 0 and the place an empty part at the end
abbrev pub given : List ℕ → Result (Unit {0}) WrongLine → ℕ × Span
given claimed (Ok done) = (0, at_the_end claimed)
given claimed (Err wrong) = (wrong.line, record { from = wrong.from; to = wrong.to })

-- the place of the first wrong line of a claimed text for a job: an empty part at the end where the text is right
abbrev pub wrong_span : List ℕ → List ℕ → Span
wrong_span job claimed = (given claimed (check_of job claimed)).1
