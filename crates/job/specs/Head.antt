-- Rules, "Job and answer text": the first six lines, practice, nutrient, mode, rate, task and amount, in this order.
-- Assumes nothing.
use Rattle.job.specs.declared.Job.{Job}
use Rattle.std.specs.Prelude.{ℕ, List, drop, Result, Ok, Err, Option, Some, None}
use Rattle.laws.specs.Text.{bytes}
use Rattle.text.specs.Words.{place_of}
use Rattle.text.specs.Numbers.{numeral_of}
use Rattle.job.specs.Words.{practice_words, nutrient_words, mode_words, task_words, nutrient_at, mode_at, task_at}
use Rattle.job.specs.Lines.{value_of}

-- what the line behind k others says: the place of a word, or a number
abbrev pub word_in : List (List ℕ) → ℕ → List ℕ → List ℕ → Option ℕ
word_in lines k key words = place_of words (value_of key (drop k lines))

abbrev pub number_in : List (List ℕ) → ℕ → List ℕ → Option ℕ
number_in lines k key = numeral_of (value_of key (drop k lines))

-- the first line that says nothing is the bad one
unfoldable pub head_from : Option ℕ → Option ℕ → Option ℕ → Option ℕ → Option ℕ → Option ℕ → Result Job ℕ
head_from None nutrient mode rate task amount = Err 1
head_from (Some p) None mode rate task amount = Err 2
head_from (Some p) (Some n) None rate task amount = Err 3
head_from (Some p) (Some n) (Some m) None task amount = Err 4
head_from (Some p) (Some n) (Some m) (Some r) None amount = Err 5
head_from (Some p) (Some n) (Some m) (Some r) (Some t) None = Err 6
head_from (Some p) (Some n) (Some m) (Some r) (Some t) (Some a) =
    Ok (record { practice = p; nutrient = nutrient_at n; mode = mode_at m; rate = record { 0 = r }; task = task_at t; amount = a })

unfoldable pub head_of : List (List ℕ) → Result Job ℕ
head_of lines =
    head_from
    (word_in lines 0 (bytes "practice=") practice_words)
    (word_in lines 1 (bytes "nutrient=") nutrient_words)
    (word_in lines 2 (bytes "mode=") mode_words)
    (number_in lines 3 (bytes "rate="))
    (word_in lines 4 (bytes "task=") task_words)
    (number_in lines 5 (bytes "amount="))
