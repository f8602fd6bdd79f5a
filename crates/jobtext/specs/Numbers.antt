-- Rules, "Writing a job": numbers of written jobs: a text, its length and others, and what writing answers. Proved in proofs/Numbers.antt.
-- Assumes nothing.
use Rattle.std.specs.Prelude.{ℕ, ◌^◌, List, [], ◌∷◌, ◌++◌, ◌≡◌, length, replicate}
use Rattle.laws.specs.Text.{bytes}
use Rattle.units.specs.declared.Nutrient.TheVariants.{P, N}
use Rattle.site.specs.declared.LandUse.{LandUse}
use Rattle.site.specs.declared.LandUse.TheVariants.{Com, Ind, For, Open, Ag}
use Rattle.site.specs.declared.Cover.{Cover}
use Rattle.site.specs.declared.Cover.TheVariants.{Imp, Per}
use Rattle.site.specs.declared.Soil.{Soil}
use Rattle.site.specs.declared.Soil.TheVariants.{C, CD, NoSoil}
use Rattle.site.specs.declared.SubArea.{SubArea}
use Rattle.site.specs.declared.Site.{Site}
use Rattle.site.specs.Parts.{parts_of, empty_site}
use Rattle.curve.specs.declared.Mode.TheVariants.{Step, Mix}
use Rattle.job.specs.declared.Task.TheVariants.{Load, Credit}
use Rattle.job.specs.declared.Job.{Job}
use Rattle.writing.specs.Writing.{written_given}
use Rattle.jobtext.specs.Text.{job_text, job_written, job_buffer, longest}
use Rattle.jobtext.specs.Records.{site_of}

abbrev part : LandUse → Cover → Soil → ℕ → SubArea
part land cover soil area = record { land = land; cover = cover; soil = soil; area = record { 0 = area } }

-- a load job with a practice, a rate and an amount
abbrev load : ℕ → ℕ → ℕ → Job
load practice rate amount =
    record { practice = practice; nutrient = N; mode = Step; rate = record { 0 = rate }; task = Load; amount = amount }

-- jobs/sample.job as a job and a site, and its text
abbrev pub sample_job : Job
sample_job = load 1 0 0

abbrev pub sample_site : Site
sample_site = site_of (part Ind Imp NoSoil 1_013 ∷ part Com Per C 185 ∷ part For Per C 89 ∷ [])

abbrev pub sample_text : List ℕ
sample_text =
    bytes
    "practice=basin\nnutrient=N\nmode=step\nrate=0\ntask=load\namount=0\narea=ind,imp,-,1013\narea=com,per,C,185\narea=for,per,C,89\n"

abbrev pub SampleWritten : Type 0
SampleWritten = job_text sample_job (parts_of sample_site) ≡ sample_text

-- one of the longest texts, and one of the shortest
abbrev pub longest_job : Job
longest_job =
    record { practice = 2; nutrient = P; mode = Step; rate = record { 0 = 99_999_999_999_999 }; task = Credit; amount = 99_999_999_999_999 }

abbrev pub longest_site : Site
longest_site = site_of (replicate 7 (part Open Per CD 100_000) ++ replicate 25 (part Open Per CD 10_000))

abbrev pub shortest_job : Job
shortest_job = record { practice = 4; nutrient = P; mode = Mix; rate = record { 0 = 0 }; task = Load; amount = 0 }

abbrev pub shortest_site : Site
shortest_site = site_of (part Ag Imp NoSoil 1 ∷ [])

abbrev pub Lengths : Type 0
Lengths =
    longest
    ∷ length (job_text longest_job (parts_of longest_site))
    ∷ length (job_text sample_job (parts_of sample_site))
    ∷ length (job_text shortest_job (parts_of shortest_site))
    ∷ []
    ≡ 837 ∷ 837 ∷ 119 ∷ 75 ∷ []

-- a buffer of so many bytes, none of which is written in a job
abbrev blanks : ℕ → List ℕ
blanks n = replicate n 0

-- the number and the length that writing answers, and what the buffer holds
abbrev writing : ℕ → Job → Site → (ℕ × ℕ) × List ℕ
writing room j s = (written_given (job_written (blanks room) j s), job_buffer (blanks room) j s)

-- A practice without a word, a rate and an amount of 15 digits, an empty site, also in a buffer of 0 bytes; then the sample in a byte
-- too few, in as many as it has, and in one more.
abbrev pub WrittenOrNot : Type 0
WrittenOrNot =
    writing 119 (load 9 0 0) sample_site
    ∷ writing 119 (load 1 (10 ^ 14) 0) sample_site
    ∷ writing 119 (load 1 0 (10 ^ 14)) sample_site
    ∷ writing 119 sample_job empty_site
    ∷ writing 0 sample_job empty_site
    ∷ writing 118 sample_job sample_site
    ∷ writing 119 sample_job sample_site
    ∷ writing 120 sample_job sample_site
    ∷ []
    ≡ ((1, 0), blanks 119)
    ∷ ((1, 0), blanks 119)
    ∷ ((1, 0), blanks 119)
    ∷ ((1, 0), blanks 119)
    ∷ ((1, 0), blanks 0)
    ∷ ((13, 0), blanks 118)
    ∷ ((0, 119), sample_text)
    ∷ ((0, 119), sample_text ++ blanks 1)
    ∷ []
