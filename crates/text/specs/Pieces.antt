-- The pieces of a text between a byte: lines between line feeds, fields between commas, words between spaces.
-- Assumes nothing.
use Rattle.std.specs.Prelude.{ℕ, zero, suc, ◌+◌, min, cond, List, [], ◌∷◌, length, eqb}
use Prim.Native.Char.{code}
use Rattle.text.specs.Part.{part_of}

abbrev pub line_feed : ℕ
line_feed = code "\n"

abbrev pub comma : ℕ
comma = code ","

abbrev pub space : ℕ
space = code " "

-- the place of the first b in s, or the length of s where there is none
unfoldable pub index_of : ℕ → List ℕ → ℕ
index_of b [] = 0
index_of b (x ∷ s) = cond (eqb x b) 0 (suc (index_of b s))

-- what stands before the first b: all of s where there is none
abbrev pub before_of : ℕ → List ℕ → List ℕ
before_of b s = part_of s 0 (index_of b s)

-- what stands after the first b: nothing where there is none
abbrev pub after_of : ℕ → List ℕ → List ℕ
after_of b s = part_of s (index_of b s + 1) (length s)

-- a byte put in front of the first of some pieces, or by itself where there is none
unfoldable pub joined : ℕ → List (List ℕ) → List (List ℕ)
joined x [] = (x ∷ []) ∷ []
joined x (p ∷ ps) = (x ∷ p) ∷ ps

-- the pieces of s between b: one more than s holds bytes b, empty ones among them
unfoldable pub pieces : ℕ → List ℕ → List (List ℕ)
pieces b [] = [] ∷ []
pieces b (x ∷ s) = cond (eqb x b) ([] ∷ pieces b s) (joined x (pieces b s))

-- the place of the first b at a place or behind it, or the end of s where there is none; a place behind the end itself
abbrev pub next_of : ℕ → List ℕ → ℕ → ℕ
next_of b s from = from + index_of b (part_of s from (length s))

-- the place at which piece k begins, counted from 0: behind the b that ends the piece before it, or the end of s where there is none
unfoldable pub start_of : ℕ → List ℕ → ℕ → ℕ
start_of b s zero = 0
start_of b s (suc k) = min (next_of b s (start_of b s k) + 1) (length s)

-- the place at which piece k ends: at the b that follows it, or at the end of s
abbrev pub end_of : ℕ → List ℕ → ℕ → ℕ
end_of b s k = next_of b s (start_of b s k)
