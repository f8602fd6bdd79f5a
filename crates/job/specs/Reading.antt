-- Rules, "Job and answer text" and "The numbers given back": a job text read, or refused 1, 2, 3 or 14 with its line.
-- Assumes nothing.
use Rattle.job.specs.declared.Job.{Job}
use Rattle.std.specs.Prelude.{ℕ, ◌+◌, cond, List, length, drop, ltb, Result, Ok, Err}
use Rattle.refusal.specs.declared.Refusal.TheVariants.{MalformedText}
use Rattle.refusal.specs.Refusal.{number_of, granted}
use Rattle.site.specs.Parts.{empty_site}
use Rattle.job.specs.declared.Reading.{Reading}
use Rattle.job.specs.declared.Unread.{Unread}
use Rattle.site.specs.declared.Site.{Site}
use Rattle.job.specs.Lines.{lines_of}
use Rattle.job.specs.Head.{head_of}
use Rattle.job.specs.Areas.{refused_at, areas_from}

-- the longest job text, in bytes
abbrev pub most_bytes : ℕ
most_bytes = 4_096

-- the six lines of the head
abbrev pub head_lines : ℕ
head_lines = 6

-- behind a head that reads, the areas from line 7 on
unfoldable pub behind_head : Result Job ℕ → List (List ℕ) → Result Reading Unread
behind_head (Err k) lines = refused_at k MalformedText
behind_head (Ok job) lines = areas_from job (drop head_lines lines) (head_lines + 1) empty_site

-- the length first, then the lines, first to last
unfoldable pub reading_of : List ℕ → Result Reading Unread
reading_of s = cond (ltb most_bytes (length s)) (refused_at 0 MalformedText) (behind_head (head_of (lines_of s)) (lines_of s))

-- the rules' number and line of a reading: a refusal returns its number and its line, K
abbrev pub given : Result Reading Unread → ℕ × ℕ
given (Ok r) = (granted, 0)
given (Err u) = (number_of u.why, u.line)

-- the site that stands beside them: a refusal has the empty one
abbrev pub site_read : Result Reading Unread → Site
site_read (Ok r) = r.site
site_read (Err u) = empty_site
