-- What only private functions ask of one another: nobody need read it to believe the promises.
-- Assumes nothing.
use Rattle.std.specs.Prelude.{ℕ, Bool, true, ◌&&◌, leb, length, sum_by}
use mathlib.Core.List.{List, [], ◌∷◌, ◌++◌, flatten, map}
use Rattle.laws.specs.Text.{bytes}
use Rattle.site.specs.declared.SubArea.{SubArea}
use Rattle.site.specs.Parts.{area_of}
use Rattle.text.specs.Numbers.{decimal_of}
use Rattle.job.specs.declared.Job.{Job}
use Rattle.job.specs.Words.{practice_words, land_words, cover_words, soil_words}
use Rattle.job.specs.Words.{land_place, cover_place, soil_place}
use Rattle.jobtext.specs.Text.{word_at, has_word, field_of, area_text, head_texts, few_digits}

-- the first six lines as one text, and those of the sub-areas
unfoldable pub head_text : Job → List ℕ
head_text j = flatten (head_texts j)

unfoldable pub areas_text : List SubArea → List ℕ
areas_text ps = flatten (map area_text ps)

-- the length of the lines of some sub-areas
abbrev pub areas_length : List SubArea → ℕ
areas_length ps = sum_by (λ (p : SubArea). length (area_text p)) ps

-- no word of some has more than n bytes
abbrev pub all_short : ℕ → List (List ℕ) → Bool
all_short n [] = true
all_short n (w ∷ ws) = leb (length w) n && all_short n ws

-- the tests that follow those of the record, all of which pass
abbrev pub passes : Job → ℕ → Bool
passes j count = leb 1 count && has_word practice_words j.practice && few_digits j.rate.0 && few_digits j.amount

-- the line of a sub-area in the pieces in which it is put, one field in each
abbrev pub area_fields : SubArea → List (List ℕ)
area_fields p =
    (bytes "area=" ++ field_of (word_at land_words (land_place p.land)))
    ∷ field_of (word_at cover_words (cover_place p.cover))
    ∷ field_of (word_at soil_words (soil_place p.soil))
    ∷ (decimal_of (area_of p) ++ bytes "\n")
    ∷ []

abbrev pub areas_fields : List SubArea → List (List ℕ)
areas_fields [] = []
areas_fields (p ∷ ps) = area_fields p ++ areas_fields ps

-- and so the whole text
abbrev pub job_pieces : Job → List SubArea → List (List ℕ)
job_pieces j ps = head_texts j ++ areas_fields ps
