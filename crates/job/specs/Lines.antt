-- Rules, "Job and answer text": lines `key=value`, each ended by LF.
-- Assumes nothing.
use Rattle.std.specs.Prelude.{ℕ, cond, List, [], ◌∷◌, length}
use Rattle.text.specs.Part.{part_of}
use Rattle.text.specs.Pieces.{line_feed, pieces}
use Rattle.text.specs.Words.{opens_of}

-- the pieces of a text between its line feeds: its ended lines, and then what stands after the last line feed
abbrev pub lines_of : List ℕ → List (List ℕ)
lines_of s = pieces line_feed s

-- The value of the first of some lines, where it opens with the key; nothing where it does not, is not ended or is missing.
-- No word and no number is empty, so nothing is what no line can say.
unfoldable pub value_of : List ℕ → List (List ℕ) → List ℕ
value_of key [] = []
value_of key (unended ∷ []) = []
value_of key (line ∷ next ∷ others) = cond (opens_of key line) (part_of line (length key) (length line)) []
