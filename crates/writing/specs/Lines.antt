-- Rules, "Job and answer text": a line `key=value`, ended by LF, whose value is a number or a word of a list.
-- Assumes nothing.
use Rattle.std.specs.Prelude.{ℕ, List, [], ◌∷◌, ◌++◌, get_or}
use Rattle.text.specs.Pieces.{line_feed}
use Rattle.text.specs.Numbers.{decimal_of}

-- a line: its key, its value, LF
unfoldable pub line_with : List ℕ → List ℕ → List ℕ
line_with key value = key ++ value ++ (line_feed ∷ [])

-- one with the digits of a number
abbrev pub line_of : List ℕ → ℕ → List ℕ
line_of key n = line_with key (decimal_of n)

-- the word at a place, counted from 0, of a list of words: nothing where there is none
unfoldable pub word_at : List (List ℕ) → ℕ → List ℕ
word_at words k = get_or words k []
