-- Rules, "A soil that is not known": what is promised of rewritten jobs, for every text, on the tables and on every lent sheet.
-- Proved in proofs/Promises.antt and, of V and of what is given back, in proofs/Volumes.antt and proofs/Before.antt.
-- Assumes nothing.
use Rattle.std.specs.Prelude.{ℕ, suc, ◌≤◌, ◌<◌, List, [], ◌∷◌, map, ◌≡◌, length, get_or, take}
use Rattle.refusal.specs.Refusal.{granted}
use Rattle.units.specs.Limits.{highest_depth}
use Rattle.site.specs.declared.Soil.{Soil}
use Rattle.site.specs.declared.Soil.TheVariants.{A, B, C, CD, D, U, NoSoil}
use Rattle.site.specs.declared.SubArea.{SubArea}
use Rattle.site.specs.declared.Site.{Site}
use Rattle.text.specs.Pieces.{comma, pieces}
use Rattle.volume.specs.Volume.{volume_of}
use Rattle.credit.specs.Answers.{Sheet, Given}
use Rattle.job.specs.declared.Job.{Job}
use Rattle.job.specs.Lines.{lines_of}
use Rattle.job.specs.Reading.{head_lines, reading_of, given}
use Rattle.calculator.specs.Outcome.{outcome_of}
use Rattle.answer.specs.Outcomes.{given as outcome_given, fault_line}
use Rattle.calculator.specs.Promises.{Answered, FaultLine, Reads}
use Rattle.rewrite.specs.Rewriting.{c_for_u, rewritten_of}
use Rattle.rewrite.specs.OldRules.{old_volume_of, old_outcome_of}

-- Each rewritten job gets the answer that the old rules gave: for every text, one that is refused too, the outcome of its rewriting
-- is the outcome that it had. So its answer text is the old one as well.
abbrev pub KeepsTheOldAnswer : Type 0
KeepsTheOldAnswer = (sheet : ℕ → Sheet) (text : List ℕ) → outcome_of sheet (rewritten_of text) ≡ old_outcome_of sheet text

-- A text that does not read, and so is refused 1, 2, 3 or 14, is copied as it came.
abbrev pub CopiedAsItCame : Type 0
CopiedAsItCame = (text : List ℕ) → ((given (reading_of text)).0 ≡ granted → ⊥) → rewritten_of text ≡ text

-- C for U, and every other soil as it is
abbrev pub on_c : Soil → Soil
on_c A = A
on_c B = B
on_c C = C
on_c CD = CD
on_c D = D
on_c U = C
on_c NoSoil = NoSoil

-- a sub-area with C for U: the same land use, cover and area
abbrev pub part_on_c : SubArea → SubArea
part_on_c p = record { land = p.land; cover = p.cover; soil = on_c p.soil; area = p.area }

-- a site with C for U in each sub-area, and all else the same
abbrev pub site_on_c : Site → Site
site_on_c s = record { parts = map part_on_c s.parts; count = s.count; numbers = s.numbers; counter = s.counter }

-- Where a text reads, its rewriting reads as the same job, on the same site but for the soil C where U stood.
abbrev pub ReadsAsC : Type 0
ReadsAsC = (text : List ℕ) (j : Job) (s : Site) → Reads text j s → Reads (rewritten_of text) j (site_on_c s)

-- U to C in area lines only: where a text reads, the first six lines of its rewriting are its own, byte for byte,
abbrev pub HeadKept : Type 0
HeadKept =
    (text : List ℕ) (j : Job) (s : Site) → Reads text j s → take head_lines (lines_of (rewritten_of text)) ≡ take head_lines (lines_of text)

-- the fields of an area line and of its rewriting: the land use with its key, the cover and the area are the same, and the soil has C for U
pub record SoilAlone (line rewriting : List ℕ) : Type 0 where
  pub land : List ℕ
  pub cover : List ℕ
  pub soil : List ℕ
  pub area : List ℕ
  pub fields : pieces comma line ≡ land ∷ cover ∷ soil ∷ area ∷ []
  pub rewritten : pieces comma rewriting ≡ land ∷ cover ∷ map c_for_u soil ∷ area ∷ []

-- and each ended line behind them has the same fields in its rewriting but for the soil.
abbrev pub OnlyTheSoil : Type 0
OnlyTheSoil =
    (text : List ℕ) (j : Job) (s : Site)
    → Reads text j s
    → (k : ℕ)
    → head_lines ≤ k
    → suc k < length (lines_of text)
    → SoilAlone (get_or (lines_of text) k []) (get_or (lines_of (rewritten_of text)) k [])

-- A rewritten text has the length it had.
abbrev pub SameLength : Type 0
SameLength = (text : List ℕ) → length (rewritten_of text) ≡ length text

-- Nothing is left to be rewritten: on a rewritten text the old rules and the new agree, and rewriting it again changes nothing.
abbrev pub NothingLeft : Type 0
NothingLeft =
    (text : List ℕ)
    → ((sheet : ℕ → Sheet) → old_outcome_of sheet (rewritten_of text) ≡ outcome_of sheet (rewritten_of text))
    × (rewritten_of (rewritten_of text) ≡ rewritten_of text)

-- What reviewers asked for: V is nowhere below the old one, at any depth of the grid.
abbrev pub NeverSmaller : Type 0
NeverSmaller = (ps : List SubArea) (d : ℕ) → d ≤ highest_depth → old_volume_of ps d ≤ volume_of ps d

-- what is given back beside what was given: the same number, list, place and load, and a volume that is not smaller
pub record NotSmaller (before since : Given) : Type 0 where
  pub answer : before.answer ≡ since.answer
  pub list : before.list ≡ since.list
  pub place : before.place ≡ since.place
  pub load : before.load ≡ since.load
  pub volume : before.volume ≤ since.volume

-- Refusals as before, and nothing is sized smaller: every text, rewritten or not, gets the number and the line that the old rules gave,
-- with the same list, place and load, and a volume that is not smaller.
abbrev pub AsBefore : Type 0
AsBefore =
    (sheet : ℕ → Sheet) (text : List ℕ)
    → NotSmaller (outcome_given (old_outcome_of sheet text)) (Answered sheet text)
    × (fault_line (old_outcome_of sheet text) ≡ FaultLine sheet text)
