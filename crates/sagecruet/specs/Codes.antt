-- Rules, "Writing a job": a job told by numbers. The code of a word is its place in its list, counted from 0, and a sub-area is four
-- numbers: land use, cover, soil, area.
-- Assumes nothing.
use Rattle.std.specs.Prelude.{ℕ, zero, suc, ◌/◌, ◌%◌, Bool, true, ◌&&◌, List, [], ◌∷◌, eqb, leb, length, get_or, drop, Result, Err}
use Rattle.laws.specs.Turn.{in_turn}
use Rattle.refusal.specs.declared.Refusal.{Refusal}
use Rattle.refusal.specs.declared.Refusal.TheVariants.{MalformedText, SiteFull}
use Rattle.site.specs.declared.SubArea.{SubArea}
use Rattle.site.specs.Parts.{most_parts}
use Rattle.job.specs.declared.Job.{Job}
use Rattle.job.specs.Words.{nutrient_words, mode_words, task_words, land_words, cover_words, soil_words, nutrient_at, mode_at, task_at, land_at, cover_at, soil_at}
use Rattle.jobtext.specs.Text.{has_word, job_written, job_buffer}
use Rattle.jobtext.specs.Records.{site_of}

-- the numbers of a job
pub record Codes : Type 0 where
  pub practice : ℕ
  pub nutrient : ℕ
  pub mode : ℕ
  pub rate : ℕ
  pub task : ℕ
  pub amount : ℕ
  pub areas : List ℕ

abbrev pub told : ℕ → ℕ → ℕ → ℕ → ℕ → ℕ → List ℕ → Codes
told practice nutrient mode rate task amount areas =
    record { practice = practice; nutrient = nutrient; mode = mode; rate = rate; task = task; amount = amount; areas = areas }

-- how many sub-areas a list has, four numbers for each
abbrev pub count_in : List ℕ → ℕ
count_in areas = length areas / 4

-- a sub-area of four numbers, and whether its codes have words
abbrev pub part_in : ℕ → ℕ → ℕ → ℕ → SubArea
part_in land cover soil area = record { land = land_at land; cover = cover_at cover; soil = soil_at soil; area = record { 0 = area } }

abbrev pub worded : ℕ → ℕ → ℕ → Bool
worded land cover soil = has_word land_words land && has_word cover_words cover && has_word soil_words soil

-- the first n sub-areas of a list, and whether the codes of each have words
unfoldable pub parts_in : ℕ → List ℕ → List SubArea
parts_in zero xs = []
parts_in (suc n) xs = part_in (get_or xs 0 0) (get_or xs 1 0) (get_or xs 2 0) (get_or xs 3 0) ∷ parts_in n (drop 4 xs)

unfoldable pub all_worded : ℕ → List ℕ → Bool
all_worded zero xs = true
all_worded (suc n) xs = worded (get_or xs 0 0) (get_or xs 1 0) (get_or xs 2 0) && all_worded n (drop 4 xs)

-- the job that the codes say, and its sub-areas
abbrev pub job_in : Codes → Job
job_in c =
    record {
      practice = c.practice;
      nutrient = nutrient_at c.nutrient;
      mode = mode_at c.mode;
      rate = record { 0 = c.rate };
      task = task_at c.task;
      amount = c.amount;
    }

abbrev pub areas_in : Codes → List SubArea
areas_in c = parts_in (count_in c.areas) c.areas

-- whether the codes of a job's words have words, those of its sub-areas left out
abbrev pub head_worded : ℕ → ℕ → ℕ → Bool
head_worded nutrient mode task = has_word nutrient_words nutrient && has_word mode_words mode && has_word task_words task

-- what is tried in turn before there is a record to be judged: a list that ends inside a sub-area, more sub-areas than a site holds, a
-- code without a word. The practice is a number of the job, and tried with it.
abbrev pub code_tests : Codes → List (Bool × Refusal)
code_tests c =
    (eqb (length c.areas % 4) 0, MalformedText)
    ∷ (leb (count_in c.areas) most_parts, SiteFull)
    ∷ (head_worded c.nutrient c.mode c.task, MalformedText)
    ∷ (all_worded (count_in c.areas) c.areas, MalformedText)
    ∷ []

-- What writing a job from its codes answers, and what the buffer holds afterwards: behind those tests, what writing the job with the
-- record of its sub-areas does.
unfoldable pub codes_written : List ℕ → Codes → Result ℕ Refusal
codes_written buf c = in_turn Err (job_written buf (job_in c) (site_of (areas_in c))) (code_tests c)

unfoldable pub codes_buffer : List ℕ → Codes → List ℕ
codes_buffer buf c = in_turn (λ why. buf) (job_buffer buf (job_in c) (site_of (areas_in c))) (code_tests c)
