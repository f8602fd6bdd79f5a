-- Rules, "Checking an answer": the lines of a text, each with its LF, as the promises speak of them.
-- Assumes nothing.
use Rattle.std.specs.Prelude.{ℕ, ◌-◌, cond, List, [], ◌∷◌, ◌≡◌, eqb, length, get_or}
use Rattle.text.specs.Pieces.{line_feed, joined}

-- the lines of a text, each with the LF that ends it; what stands behind the last LF, if anything does, is one more line, without LF
unfoldable pub full_lines : List ℕ → List (List ℕ)
full_lines [] = []
full_lines (x ∷ s) = cond (eqb x line_feed) ((x ∷ []) ∷ full_lines s) (joined x (full_lines s))

-- a line, or a text, is ended: its last byte is LF
abbrev pub Ended : List ℕ → Type 0
Ended line = get_or line (length line - 1) 0 ≡ line_feed
