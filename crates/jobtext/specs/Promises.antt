-- Rules, "Writing a job": what is promised of a written job, as statements that proofs/Promises.antt, Lengths.antt and RoundTrip.antt
-- prove.
-- Assumes nothing.
use Rattle.std.specs.Prelude.{ℕ, ◌≤◌, ◌<◌, ◌^◌, List, ◌↔◌, ◌≡◌, length, take, drop, Ok}
use Rattle.refusal.specs.declared.Refusal.TheVariants.{MalformedText, BufferTooShort}
use Rattle.refusal.specs.Refusal.{number_of, granted}
use Rattle.site.specs.declared.Site.{Site}
use Rattle.site.specs.Parts.{parts_of}
use Rattle.site.specs.Judging.{judged, given as given_area}
use Rattle.site.specs.Promises.{InMemory}
use Rattle.text.specs.Numbers.{most_digits}
use Rattle.job.specs.declared.Job.{Job}
use Rattle.job.specs.Reading.{most_bytes, reading_of, given}
use Rattle.writing.specs.Writing.{written_given}
use Rattle.jobtext.specs.Text.{job_text, job_written, job_buffer, longest}
use Rattle.jobtext.specs.Records.{site_of}

-- A job and a record in memory of which there is a text: the record is judged fine and holds a sub-area, the practice is one of the nine,
-- and rate and amount have at most 14 digits.
pub record Writable (j : Job) (s : Site) : Type 0 where
  pub memory : InMemory s
  pub fine : (given_area (judged s)).0 ≡ granted
  pub some : 1 ≤ s.count
  pub practice : j.practice ≤ 8
  pub rate : j.rate.0 < 10 ^ most_digits
  pub amount : j.amount < 10 ^ most_digits

-- What was written reads back as the job, and as the record of the sub-areas, which has the count and the sub-areas that it was
-- written from. (Their numbers are 1 to n there, the counter is n + 1, and past the count it holds what an empty site holds.)
abbrev pub ReadsBack : Type 0
ReadsBack =
    (j : Job) (s : Site)
    → Writable j s
    → (reading_of (job_text j (parts_of s)) ≡ Ok (record { job = j; site = site_of (parts_of s) }))
    × ((site_of (parts_of s)).count ≡ s.count)
    × (parts_of (site_of (parts_of s)) ≡ parts_of s)

-- A text that reads without refusal is written back byte for byte, from the job and the site that it reads as; neither is refused.
abbrev pub WritesBack : Type 0
WritesBack =
    (text : List ℕ) (j : Job) (s : Site)
    → reading_of text ≡ Ok (record { job = j; site = s })
    → (job_text j (parts_of s) ≡ text) × Writable j s

-- So the texts that read are the texts that are written.
abbrev pub WrittenTextsRead : Type 0
WrittenTextsRead =
    (text : List ℕ)
    → ((given (reading_of text)).0 ≡ granted) ↔ ((j : Job) × (s : Site) × Writable j s × (job_text j (parts_of s) ≡ text))

-- No text that is written is longer than the longest, and so none passes 4,096 bytes.
abbrev pub NeverTooLong : Type 0
NeverTooLong = ((j : Job) (s : Site) → Writable j s → length (job_text j (parts_of s)) ≤ longest) × (longest ≤ most_bytes)

-- The longest length is reached.
abbrev pub LongestReached : Type 0
LongestReached = (j : Job) × (s : Site) × Writable j s × (length (job_text j (parts_of s)) ≡ longest)

-- What is written of two jobs is the same only where they are the same job with the same sub-areas.
abbrev pub OneText : Type 0
OneText =
    (j k : Job) (s t : Site)
    → Writable j s
    → Writable k t
    → job_text j (parts_of s) ≡ job_text k (parts_of t)
    → (j ≡ k) × (parts_of s ≡ parts_of t)

-- What writing tries, in this order: the record; then 1, for an empty site, a practice without a word, or a number of more than 14
-- digits; then 13, for a buffer that is shorter than the text. Else the text is written, and its length is answered.
pub record WriteTries (buf : List ℕ) (j : Job) (s : Site) (answer : ℕ × ℕ) : Type 0 where
  pub refused : ((given_area (judged s)).0 ≡ granted → ⊥) → answer ≡ ((given_area (judged s)).0, 0)
  pub malformed : (given_area (judged s)).0 ≡ granted → (Writable j s → ⊥) → answer ≡ (number_of MalformedText, 0)
  pub short : Writable j s → length buf < length (job_text j (parts_of s)) → answer ≡ (number_of BufferTooShort, 0)
  pub written : Writable j s → length (job_text j (parts_of s)) ≤ length buf → answer ≡ (granted, length (job_text j (parts_of s)))

abbrev pub WriteOrder : Type 0
WriteOrder = (buf : List ℕ) (j : Job) (s : Site) → InMemory s → WriteTries buf j s (written_given (job_written buf j s))

-- So a text is written exactly of a job and a record of which there is one, where the buffer has room for it.
abbrev pub GrantedExactly : Type 0
GrantedExactly =
    (buf : List ℕ) (j : Job) (s : Site) (n : ℕ)
    → InMemory s
    → (written_given (job_written buf j s) ≡ (granted, n))
    ↔ (Writable j s × (length (job_text j (parts_of s)) ≡ n) × (n ≤ length buf))

-- A refused writing leaves every byte of the buffer as it was.
abbrev pub RefusedKeeps : Type 0
RefusedKeeps =
    (buf : List ℕ) (j : Job) (s : Site) → ((written_given (job_written buf j s)).0 ≡ granted → ⊥) → job_buffer buf j s ≡ buf

-- A granted one puts the text at the start of the buffer, and every byte after the text is as it was.
abbrev pub GrantedHolds : Type 0
GrantedHolds =
    (buf : List ℕ) (j : Job) (s : Site) (n : ℕ)
    → written_given (job_written buf j s) ≡ (granted, n)
    → (take n (job_buffer buf j s) ≡ job_text j (parts_of s))
    × (drop n (job_buffer buf j s) ≡ drop n buf)
    × (length (job_buffer buf j s) ≡ length buf)

-- A buffer of the longest text's length is never refused 13.
abbrev pub LongestSuffices : Type 0
LongestSuffices =
    (buf : List ℕ) (j : Job) (s : Site)
    → longest ≤ length buf
    → (written_given (job_written buf j s)).0 ≡ number_of BufferTooShort
    → ⊥
