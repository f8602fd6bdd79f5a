-- Rules, "Job and answer text" and "Writing a job": a job and its sub-areas as a job text, and the writing of that text into a lent
-- buffer.
-- Assumes nothing.
use Rattle.std.specs.Prelude.{ℕ, ◌+◌, ◌*◌, ◌^◌, Bool, leb, ltb, length, get_or, Result, Err}
use mathlib.Core.List.{List, [], ◌∷◌, ◌++◌, flatten, map}
use Rattle.laws.specs.Text.{bytes}
use Rattle.laws.specs.Turn.{in_turn}
use Rattle.refusal.specs.declared.Refusal.{Refusal}
use Rattle.refusal.specs.declared.Refusal.TheVariants.{MalformedText}
use Rattle.site.specs.declared.SubArea.{SubArea}
use Rattle.site.specs.declared.Site.{Site}
use Rattle.site.specs.Parts.{most_parts, parts_of, area_of}
use Rattle.site.specs.Judging.{judged, after_judging}
use Rattle.text.specs.Pieces.{space, pieces}
use Rattle.text.specs.Numbers.{most_digits, decimal_of}
use Rattle.job.specs.declared.Job.{Job}
use Rattle.job.specs.Words.{practice_words, nutrient_words, mode_words, task_words, land_words, cover_words, soil_words}
use Rattle.job.specs.Words.{nutrient_place, mode_place, task_place, land_place, cover_place, soil_place}
use Rattle.writing.specs.Writing.{written_of, buffer_of}
use Rattle.writing.specs.Lines.{line_with, line_of}

-- the word at place k of a list of words with a space between each two, counted from 0
abbrev pub word_at : List ℕ → ℕ → List ℕ
word_at words k = get_or (pieces space words) k []

-- a place at which the list has a word
abbrev pub has_word : List ℕ → ℕ → Bool
has_word words k = ltb k (length (pieces space words))

-- a field with the comma that follows it
abbrev pub field_of : List ℕ → List ℕ
field_of value = value ++ bytes ","

-- the line of a sub-area: area=USE,COVER,SOIL,AREA
unfoldable pub area_text : SubArea → List ℕ
area_text p =
    line_with (bytes "area=")
    (field_of (word_at land_words (land_place p.land))
    ++ field_of (word_at cover_words (cover_place p.cover))
    ++ field_of (word_at soil_words (soil_place p.soil))
    ++ decimal_of (area_of p))

-- the first six lines: practice, nutrient, mode, rate, task and amount, in this order
abbrev pub head_texts : Job → List (List ℕ)
head_texts j =
    line_with (bytes "practice=") (word_at practice_words j.practice)
    ∷ line_with (bytes "nutrient=") (word_at nutrient_words (nutrient_place j.nutrient))
    ∷ line_with (bytes "mode=") (word_at mode_words (mode_place j.mode))
    ∷ line_of (bytes "rate=") j.rate.0
    ∷ line_with (bytes "task=") (word_at task_words (task_place j.task))
    ∷ line_of (bytes "amount=") j.amount
    ∷ []

-- and then a line for each sub-area
abbrev pub job_lines : Job → List SubArea → List (List ℕ)
job_lines j ps = head_texts j ++ map area_text ps

-- The text of a job with its sub-areas. It is one of every job and every list: what is refused is told by the tests below.
unfoldable pub job_text : Job → List SubArea → List ℕ
job_text j ps = flatten (job_lines j ps)

-- a number that has at most 14 digits
abbrev pub few_digits : ℕ → Bool
few_digits n = ltb n (10 ^ most_digits)

-- what is tried in turn of a job and a record that is judged fine, with 1 for each: an empty site, a practice that has no word, a
-- rate of more than 14 digits, an amount of more
abbrev pub writable : Job → Site → List (Bool × Refusal)
writable j s =
    (leb 1 s.count, MalformedText)
    ∷ (has_word practice_words j.practice, MalformedText)
    ∷ (few_digits j.rate.0, MalformedText)
    ∷ (few_digits j.amount, MalformedText)
    ∷ []

-- What writing answers: the record's refusal, then 1, and then the length of the text or 13.
unfoldable pub job_written : List ℕ → Job → Site → Result ℕ Refusal
job_written buf j s =
    after_judging Err (λ total. in_turn Err (written_of buf (job_text j (parts_of s))) (writable j s)) (judged s)

-- What the buffer holds afterwards: the text at its start, or, where any of these refuses, what it held.
unfoldable pub job_buffer : List ℕ → Job → Site → List ℕ
job_buffer buf j s =
    after_judging (λ why. buf) (λ total. in_turn (λ why. buf) (buffer_of buf (job_text j (parts_of s))) (writable j s)) (judged s)

-- the length of the longest text: one of the longest words in each place, rate and amount of the most digits, and 32 sub-areas whose
-- areas have the most digits that numbers of at most 1,000,000 together can have, seven of six digits and twenty-five of five
abbrev pub longest : ℕ
longest =
    length (bytes "practice=biofilter\nnutrient=P\nmode=step\nrate=\ntask=credit\namount=\n")
    + 2 * most_digits
    + most_parts * length (bytes "area=open,per,CD,\n")
    + (7 * 6 + 25 * 5)
