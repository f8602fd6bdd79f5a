-- The lines of a text with C for U: a line whose value stays stays and says what it said, and the word of a soil becomes that of its C.
-- Assumes nothing.
use Rattle.std.specs.Prelude.{Some, None}
use Prim.Native.Nat.{ℕ}
use mathlib.Core.Bool.{true, cond}
use mathlib.Core.List.{List, [], ◌∷◌, ◌++◌, map, map-append}
use mathlib.Core.Path.{◌≡◌, refl, sym, ◌∙◌, ap}
use lib.ListN.{length, get_or}
use Rattle.laws.specs.Text.{bytes}
use Rattle.text.specs.Part.{part_of}
use Rattle.text.specs.Pieces.{space, joined, pieces}
use Rattle.text.specs.Words.{same_of, opens_of, place_from, place_of}
use Rattle.text.proofs.Front.{free, all_free}
use Rattle.job.specs.Words.{practice_words, nutrient_words, mode_words, task_words, land_words, cover_words, soil_words, soil_at}
use Rattle.job.specs.Lines.{value_of}
use Rattle.rewrite.specs.Rewriting.{letter_u, c_for_u}
use Rattle.rewrite.specs.Promises.{on_c}
use Rattle.job.proofs.Telling.{keyed_line, Each, found_word}
use Rattle.rewrite.proofs.Texts.{free_stays}

abbrev pub lines_on_c : List (List ℕ) → List (List ℕ)
lines_on_c = map (map c_for_u)

-- no key of a job holds a U, and no word but a soil's
pub keys_free : (free letter_u (bytes "practice=") ≡ true) × (free letter_u (bytes "nutrient=") ≡ true) × (free letter_u (bytes "mode=") ≡ true) × (free letter_u (bytes "rate=") ≡ true) × (free letter_u (bytes "task=") ≡ true) × (free letter_u (bytes "amount=") ≡ true) × (free letter_u (bytes "area=") ≡ true)
unfolding free
keys_free = (refl, refl, refl, refl, refl, refl, refl)

pub words_free : (all_free letter_u (pieces space practice_words) ≡ true) × (all_free letter_u (pieces space nutrient_words) ≡ true) × (all_free letter_u (pieces space mode_words) ≡ true) × (all_free letter_u (pieces space task_words) ≡ true) × (all_free letter_u (pieces space land_words) ≡ true) × (all_free letter_u (pieces space cover_words) ≡ true)
unfolding free all_free pieces joined
words_free = (refl, refl, refl, refl, refl, refl)

-- no word is empty
pub none_empty : (place_of practice_words [] ≡ None) × (place_of nutrient_words [] ≡ None) × (place_of mode_words [] ≡ None) × (place_of task_words [] ≡ None) × (place_of land_words [] ≡ None) × (place_of cover_words [] ≡ None) × (place_of soil_words [] ≡ None)
unfolding place_from same_of pieces joined
none_empty = (refl, refl, refl, refl, refl, refl, refl)

-- A line whose value stays and is something stays, where its key holds no U,
pub line_stays : (key : List ℕ) (lines : List (List ℕ)) → free letter_u key ≡ true → map c_for_u (value_of key lines) ≡ value_of key lines → (value_of key lines ≡ [] → ⊥)
    → map c_for_u (get_or lines 0 []) ≡ get_or lines 0 []
line_stays key lines f v some =
    let e = keyed_line key lines some in
    ap (map c_for_u) e ∙ map-append c_for_u key (value_of key lines) ∙ (λ i. free_stays key f i ++ v i) ∙ sym e

-- and a line that stays says what it said.
pub value_stays : (key : List ℕ) (lines : List (List ℕ)) → map c_for_u (get_or lines 0 []) ≡ get_or lines 0 [] → value_of key (lines_on_c lines) ≡ value_of key lines
unfolding value_of
value_stays key [] e = refl
value_stays key (unended ∷ []) e = refl
value_stays key (line ∷ next ∷ others) e = ap (λ (l : List ℕ). cond (opens_of key l) (part_of l (length key) (length l)) []) e

-- Each word of a soil, with C for U, is the word of that soil on C.
abbrev OnC : List ℕ → ℕ → Type 0
OnC w k = (i : ℕ) × (place_of soil_words (map c_for_u w) ≡ Some i) × (soil_at i ≡ on_c (soil_at k))

each_soil : Each OnC (pieces space soil_words) 0
unfolding Each place_from same_of pieces joined
each_soil =
    ((0, refl, refl), ((1, refl, refl), ((2, refl, refl), ((3, refl, refl), ((4, refl, refl), ((2, refl, refl), ((6, refl, refl), tt)))))))

pub soil_on_c : (s : List ℕ) (k : ℕ) → place_of soil_words s ≡ Some k → OnC s k
soil_on_c s k e = found_word OnC (pieces space soil_words) s 0 each_soil e
