-- Texts compared, and a word's place in a list of words.
-- Assumes nothing.
use Rattle.std.specs.Prelude.{ℕ, ◌+◌, Bool, true, false, cond, ◌&&◌, List, [], ◌∷◌, ◌++◌, length, drop, eqb, Option, Some, None}
use Rattle.text.specs.declared.WordStep.{WordStep}
use Rattle.text.specs.Part.{part_of}
use Rattle.text.specs.Pieces.{pieces, space}

-- two texts are the same, byte for byte
unfoldable pub same_of : List ℕ → List ℕ → Bool
same_of [] [] = true
same_of [] (y ∷ t) = false
same_of (x ∷ s) [] = false
same_of (x ∷ s) (y ∷ t) = eqb x y && same_of s t

-- what two texts have in common from their start
unfoldable pub agreed_of : List ℕ → List ℕ → List ℕ
agreed_of [] t = []
agreed_of (x ∷ s) [] = []
agreed_of (x ∷ s) (y ∷ t) = cond (eqb x y) (x ∷ agreed_of s t) []

-- s opens with the key
abbrev pub opens_of : List ℕ → List ℕ → Bool
opens_of key s = same_of (part_of s 0 (length key)) key

-- the place behind the key that stands in s at a place: the end of s where it does not stand there
abbrev pub behind_of : List ℕ → List ℕ → ℕ → ℕ
behind_of key s at = cond (opens_of key (drop at s)) (at + length key) (length s)

-- the place of the first of some words that is s, the words' places counted from k
unfoldable pub place_from : List (List ℕ) → List ℕ → ℕ → Option ℕ
place_from [] s k = None
place_from (w ∷ ws) s k = cond (same_of w s) (Some k) (place_from ws s (k + 1))

-- the place of s in a list of words with a space between each two, counted from 0
abbrev pub place_of : List ℕ → List ℕ → Option ℕ
place_of words s = place_from (pieces space words) s 0

-- no word: what would stand behind it is the end of the text
abbrev pub unread : List ℕ → WordStep
unread s = record { place = None; next = length s }

-- the first of some words, their places counted from k, that stands at a place of s with the byte b behind it, and the place behind both
unfoldable pub word_from : List (List ℕ) → ℕ → List ℕ → ℕ → ℕ → WordStep
word_from [] b s at k = unread s
word_from (w ∷ ws) b s at k =
    cond (opens_of (w ++ (b ∷ [])) (drop at s))
    (record { place = Some k; next = at + length (w ++ (b ∷ [])) })
    (word_from ws b s at (k + 1))
