-- Rules, "Checking an answer": what is promised of a check, for every job text and every claimed text. Where a statement is about any
-- text `ours`, that is, for a check, the text that the rules give for its job. That the part which is handed back lies in their own text
-- is the contract of `wrong_line`; that a check always tells one or the other is its type. Proved in proofs/Promises.antt.
-- Assumes nothing.
use Rattle.std.specs.Prelude.{ℕ, suc, ◌-◌, ◌≤◌, ◌<◌, ◌⊎◌, ◌↔◌, ◌≡◌, cond, eqb, length, get_or, take, Ok}
use mathlib.Core.List.{List, [], ◌∷◌, ◌++◌, flatten}
use Rattle.laws.specs.Text.{bytes}
use Rattle.refusal.specs.Refusal.{granted}
use Rattle.text.specs.Part.{part_of}
use Rattle.text.specs.Pieces.{line_feed, before_of}
use Rattle.job.specs.declared.Span.{Span}
use Rattle.job.specs.Fault.{at_the_end}
use Rattle.answer.specs.Outcomes.{Outcome}
use Rattle.answer.specs.Outcomes.{given as outcome_given, fault_line}
use Rattle.answer.specs.Lines.{granted_lines, refused_lines, answer_text}
use Rattle.writing.specs.Lines.{line_of}
use Rattle.writing.specs.Writing.{written_of, buffer_of, written_given}
use Rattle.calculator.specs.Outcome.{by_tables}
use Rattle.calculator.specs.Promises.{Answered, FaultLine}
use Rattle.review.specs.Checking.{checked_of, answer_for, check_of, given}
use Rattle.review.specs.Lines.{full_lines, Ended}

-- A yes exactly when the answer text is what the rules give for the job: a yes by the case `Ok`, and by the number 0.
abbrev pub YesExactly : Type 0
YesExactly =
    (job claimed : List ℕ)
    → ((check_of job claimed ≡ Ok tt) ↔ (claimed ≡ answer_for job))
    × (((given claimed (check_of job claimed)).0 ≡ 0) ↔ (claimed ≡ answer_for job))

-- Line k + 1 of the claimed text is its first wrong line:
pub record FirstWrongLine (ours claimed : List ℕ) (k : ℕ) : Type 0 where
  -- the k lines before it are ended, and are the first k of ours,
  pub ended : (i : ℕ) → i < k → Ended (get_or (full_lines claimed) i [])
  pub same : take k (full_lines claimed) ≡ take k (full_lines ours)
  -- and it is not line k + 1 of ours, each with its LF if it has one, and empty where it is missing.
  pub wrong : get_or (full_lines claimed) k [] ≡ get_or (full_lines ours) k [] → ⊥

-- A place is that of line k + 1 of a text, without its LF:
pub record LineLiesAt (text : List ℕ) (k : ℕ) (place : Span) : Type 0 where
  -- it begins behind the k lines before it, and its bytes are those of the line before its LF;
  pub begins : place.from ≡ length (flatten (take k (full_lines text)))
  pub line : part_of text place.from place.to ≡ before_of line_feed (get_or (full_lines text) k [])
  -- it runs on from there to that LF or to the end of the text, and holds no LF.
  pub onward : place.from ≤ place.to
  pub ends : ((place.to < length text) × (get_or text place.to 0 ≡ line_feed)) ⊎ (place.to ≡ length text)
  pub free : (i : ℕ) → place.from ≤ i → i < place.to → get_or text i 0 ≡ line_feed → ⊥

-- Otherwise the first wrong line: what is given back is line k + 1 and a place exactly when that is the first wrong line, and lies there.
abbrev pub FirstWrong : Type 0
FirstWrong =
    (ours claimed : List ℕ) (k : ℕ) (place : Span)
    → (given claimed (checked_of ours claimed) ≡ (suc k, place)) ↔ (FirstWrongLine ours claimed k × LineLiesAt claimed k place)

-- Line k + 1 with an empty part at the end exactly where their text stops after whole right lines: k lines of ours, and not all.
abbrev pub StopsEarly : Type 0
StopsEarly =
    (ours claimed : List ℕ) (k : ℕ)
    → (given claimed (checked_of ours claimed) ≡ (suc k, at_the_end claimed))
    ↔ ((k < length (full_lines ours)) × (claimed ≡ flatten (take k (full_lines ours))))

-- An unended line is wrong: where their text goes on behind k whole right lines with one byte or more, of which none is LF, line k + 1
-- is wrong, and these bytes are the part.
abbrev pub UnendedIsWrong : Type 0
UnendedIsWrong =
    (job rest : List ℕ) (k : ℕ)
    → k ≤ length (full_lines (answer_for job))
    → 0 < length rest
    → ((i : ℕ) → i < length rest → get_or rest i 0 ≡ line_feed → ⊥)
    → let right = flatten (take k (full_lines (answer_for job))) in
    given (right ++ rest) (check_of job (right ++ rest)) ≡ (suc k, record { from = length right; to = length (right ++ rest) })

-- No text with such a line at its end is right,
abbrev pub RightIsEnded : Type 0
RightIsEnded = (job claimed : List ℕ) → check_of job claimed ≡ Ok tt → Ended claimed

-- and where nothing but the last LF of ours is missing, the part is the whole last line.
abbrev pub LastUnended : Type 0
LastUnended =
    (ours claimed : List ℕ)
    → ours ≡ claimed ++ (line_feed ∷ [])
    → let lines = full_lines ours in
    given claimed (checked_of ours claimed)
    ≡ (length lines, record { from = length (flatten (take (length lines - 1) lines)); to = length claimed })

-- Bytes past a right answer make the wrong line begin there, numbered one more than the right answer has lines.
abbrev pub PastTheEnd : Type 0
PastTheEnd =
    (job : List ℕ) (x : ℕ) (more : List ℕ)
    → let claimed = answer_for job ++ (x ∷ more) in
    ((given claimed (check_of job claimed)).0 ≡ suc (length (full_lines (answer_for job))))
    × ((given claimed (check_of job claimed)).1.from ≡ length (answer_for job))

-- The lines of ours that are counted are those that the rules list.
abbrev pub LinesOfTheRules : Type 0
LinesOfTheRules =
    (o : Outcome)
    → full_lines (answer_text o)
    ≡ cond (eqb (outcome_given o).answer granted) (granted_lines (outcome_given o)) (refused_lines (outcome_given o) (fault_line o))

-- A job that is itself refused is checked against its two refusal lines.
abbrev pub RefusedChecked : Type 0
RefusedChecked =
    (job claimed : List ℕ)
    → ((Answered by_tables job).answer ≡ granted → ⊥)
    → check_of job claimed
    ≡ checked_of (line_of (bytes "answer=") (Answered by_tables job).answer ++ line_of (bytes "line=") (FaultLine by_tables job)) claimed

-- What our writer writes for a job, into any buffer that it fits, is right for it;
abbrev pub OurOwn : Type 0
OurOwn =
    (job buf : List ℕ) (n : ℕ)
    → written_given (written_of buf (answer_for job)) ≡ (granted, n)
    → check_of job (take n (buffer_of buf (answer_for job))) ≡ Ok tt

-- and one text that is right for two jobs says that their answers are the same.
abbrev pub OneAnswer : Type 0
OneAnswer = (job other claimed : List ℕ) → check_of job claimed ≡ Ok tt → check_of other claimed ≡ Ok tt → answer_for job ≡ answer_for other
