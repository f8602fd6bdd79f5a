-- Rules, "Job and answer text": the answer text, lines `key=value`, each ended by LF.
-- Assumes nothing.
use Rattle.std.specs.Prelude.{ℕ, ◌+◌, ◌*◌, cond, eqb, length, get_or}
use mathlib.Core.List.{List, [], ◌∷◌, flatten}
use Rattle.laws.specs.Text.{bytes}
use Rattle.refusal.specs.Refusal.{granted}
use Rattle.text.specs.Pieces.{space, pieces}
use Rattle.curve.specs.declared.Basis.{Basis}
use Rattle.curve.specs.Basis.{basis_number, basis_words}
use Rattle.credit.specs.Answers.{Given}
use Rattle.writing.specs.Lines.{line_with, line_of}
use Rattle.answer.specs.Outcomes.{Outcome}
use Rattle.answer.specs.Outcomes.{given, fault_line}

-- the word of a basis
abbrev pub basis_word : Basis → List ℕ
basis_word b = get_or (pieces space basis_words) (basis_number b) []

-- a granted outcome prints its figures, and behind the percent its basis
abbrev pub granted_lines : Given → List (List ℕ)
granted_lines g =
    line_of (bytes "answer=") g.answer
    ∷ line_of (bytes "load=") g.load
    ∷ line_of (bytes "depth=") g.depth
    ∷ line_of (bytes "credit=") g.percent
    ∷ line_with (bytes "basis=") (basis_word g.basis)
    ∷ line_of (bytes "volume=") g.volume
    ∷ line_of (bytes "removed=") g.removed
    ∷ []

-- a refused one prints the job's line
abbrev pub refused_lines : Given → ℕ → List (List ℕ)
refused_lines g line = line_of (bytes "answer=") g.answer ∷ line_of (bytes "line=") line ∷ []

-- the text of a finished outcome
unfoldable pub answer_text : Outcome → List ℕ
answer_text o = flatten (cond (eqb (given o).answer granted) (granted_lines (given o)) (refused_lines (given o) (fault_line o)))

-- the most digits that a number of 64 bits has
abbrev pub widest : ℕ
widest = 20

-- the length of the longest text of a granted outcome, whose five numbers have the most digits beside one of the longest words: no
-- text is longer
abbrev pub longest : ℕ
longest = length (bytes "answer=0\nload=\ndepth=\ncredit=\nbasis=between\nvolume=\nremoved=\n") + 5 * widest

-- the length of the longest text of a refused outcome
abbrev pub longest_refused : ℕ
longest_refused = length (bytes "answer=17\nline=\n") + widest
