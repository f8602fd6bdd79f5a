-- Rules, "Job and answer text" and "The numbers given back": what is promised of a reading, as statements that proofs/Promises.antt
-- proves.
-- Assumes nothing.
use Rattle.std.specs.Prelude.{ℕ, suc, ◌+◌, ◌≤◌, ◌<◌, List, [], ◌⊎◌, ◌≡◌, length, get_or}
use Rattle.refusal.specs.declared.Refusal.TheVariants.{MalformedText, UnfitSubArea, TotalAreaPassed, SiteFull}
use Rattle.refusal.specs.Refusal.{number_of, granted}
use Rattle.site.specs.Parts.{numbers_of, empty_site}
use Rattle.site.specs.Judging.{judged, given as given_area}
use Rattle.site.specs.Runs.{up_from}
use Rattle.text.specs.Part.{part_of}
use Rattle.job.specs.Lines.{lines_of}
use Rattle.job.specs.Reading.{most_bytes, reading_of, given, site_read}
use Rattle.job.specs.Fault.{at_the_end, fault_of}

-- A site that is judged fine stands beside a job, the empty site beside a refusal.
abbrev pub SiteBeside : Type 0
SiteBeside =
    (s : List ℕ)
    → ((given (reading_of s)).0 ≡ granted → (given_area (judged (site_read (reading_of s)))).0 ≡ granted)
    × (((given (reading_of s)).0 ≡ granted → ⊥) → site_read (reading_of s) ≡ empty_site)

-- The n sub-areas of a job's site have the numbers 1 to n in their order, and its counter is n + 1.
abbrev pub NumberedInOrder : Type 0
NumberedInOrder =
    (s : List ℕ)
    → (given (reading_of s)).0 ≡ granted
    → (numbers_of (site_read (reading_of s)) ≡ up_from 1 (site_read (reading_of s)).count) × ((site_read (reading_of s)).counter ≡ (site_read (reading_of s)).count + 1)

-- A text that does not read is refused 1, 2, 3 or 14: 16 and 17 arise in no reading.
abbrev pub RefusedNumbers : Type 0
RefusedNumbers =
    (s : List ℕ)
    → ((given (reading_of s)).0 ≡ granted → ⊥)
    → ((given (reading_of s)).0 ≡ number_of MalformedText)
    ⊎ ((given (reading_of s)).0 ≡ number_of UnfitSubArea)
    ⊎ ((given (reading_of s)).0 ≡ number_of TotalAreaPassed)
    ⊎ ((given (reading_of s)).0 ≡ number_of SiteFull)

-- Its line is counted from 1; a text that is too long is refused 1 with line 0.
abbrev pub RefusedLines : Type 0
RefusedLines =
    (s : List ℕ)
    → (most_bytes < length s → given (reading_of s) ≡ (number_of MalformedText, 0))
    × (length s ≤ most_bytes → ((given (reading_of s)).0 ≡ granted → ⊥) → 1 ≤ (given (reading_of s)).1)

-- The offending part of a text that is refused 1 in a line is that line of the text, without its LF.
abbrev pub OffendingLine : Type 0
OffendingLine =
    (s : List ℕ) (k : ℕ)
    → given (reading_of s) ≡ (number_of MalformedText, suc k)
    → part_of s (fault_of s).from (fault_of s).to ≡ get_or (lines_of s) k []

-- Where nothing of the text is left for that line, which is missing, the part is empty and lies at the end.
abbrev pub MissingLine : Type 0
MissingLine =
    (s : List ℕ) (k : ℕ)
    → given (reading_of s) ≡ (number_of MalformedText, suc k)
    → length (lines_of s) ≤ suc k
    → get_or (lines_of s) k [] ≡ []
    → fault_of s ≡ at_the_end s

-- The part is empty at the end without refusal 1, and empty at the start where the text is too long.
abbrev pub EmptyPart : Type 0
EmptyPart =
    (s : List ℕ)
    → (((given (reading_of s)).0 ≡ number_of MalformedText → ⊥) → fault_of s ≡ at_the_end s)
    × (most_bytes < length s → fault_of s ≡ record { from = 0; to = 0 })
