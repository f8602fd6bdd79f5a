-- Rules, "Job and answer text" and "The numbers given back": what is promised of the answer text and of its writing, as statements that
-- proofs/Promises.antt proves.
-- Assumes nothing.
use Rattle.std.specs.Prelude.{ℕ, ◌-◌, ◌≤◌, ◌<◌, ◌^◌, ◌≡◌, List, ◌↔◌, length, take, drop, Ok, Err}
use Rattle.refusal.specs.declared.Refusal.{Refusal}
use Rattle.refusal.specs.declared.Refusal.TheVariants.{BufferTooShort}
use Rattle.refusal.specs.Refusal.{number_of, granted}
use Rattle.curve.specs.declared.Basis.TheVariants.{Between}
use Rattle.credit.specs.Credit.{figures}
use Rattle.answer.specs.Outcomes.{Outcome}
use Rattle.answer.specs.declared.Failure.TheVariants.{Refused}
use Rattle.answer.specs.Outcomes.{given, fault_line}
use Rattle.answer.specs.Lines.{answer_text, longest, longest_refused}
use Rattle.writing.specs.Writing.{written_of, buffer_of, written_given}

-- an outcome in memory: its line and its figures are numbers of 64 bits
pub record Wide (o : Outcome) : Type 0 where
  pub line : fault_line o < 2 ^ 64
  pub load : (given o).load < 2 ^ 64
  pub depth : (given o).depth < 2 ^ 64
  pub percent : (given o).percent < 2 ^ 64
  pub volume : (given o).volume < 2 ^ 64
  pub removed : (given o).removed < 2 ^ 64

-- No text is longer than the longest; that of a refusal with a line is at most its own longest.
abbrev pub NeverLonger : Type 0
NeverLonger = (o : Outcome) → Wide o → length (answer_text o) ≤ longest

abbrev pub RefusedShorter : Type 0
RefusedShorter = (why : Refusal) (k : ℕ) → k < 2 ^ 64 → length (answer_text (Err (Refused why k))) ≤ longest_refused

-- The longest length is reached, by the largest numbers of 64 bits and a percent that was found between two depths.
abbrev pub LongestReached : Type 0
LongestReached = let most = 2 ^ 64 - 1 in length (answer_text (Ok (figures most most most Between most most))) ≡ longest

-- Writing gives 13 exactly when the buffer is shorter than the text, and else 0 and the text's length: it has no other refusal.
abbrev pub OnlyTooShort : Type 0
OnlyTooShort =
    (buf text : List ℕ)
    → ((written_given (written_of buf text) ≡ (number_of BufferTooShort, 0)) ↔ (length buf < length text))
    × ((written_given (written_of buf text) ≡ (granted, length text)) ↔ (length text ≤ length buf))

-- A buffer of the longest text's length is never refused.
abbrev pub LongestSuffices : Type 0
LongestSuffices =
    (o : Outcome) (buf : List ℕ)
    → Wide o
    → longest ≤ length buf
    → written_given (written_of buf (answer_text o)) ≡ (granted, length (answer_text o))

-- A refused writing leaves every byte of the buffer as it was.
abbrev pub RefusedKeeps : Type 0
RefusedKeeps = (buf text : List ℕ) → length buf < length text → buffer_of buf text ≡ buf

-- A granted one puts the text at the start of the buffer, and every byte after the text is as it was.
abbrev pub GrantedHolds : Type 0
GrantedHolds =
    (buf text : List ℕ)
    → length text ≤ length buf
    → (take (length text) (buffer_of buf text) ≡ text)
    × (drop (length text) (buffer_of buf text) ≡ drop (length text) buf)
    × (length (buffer_of buf text) ≡ length buf)
