-- What only private functions ask of one another: nobody need read it to believe the promises.
-- Assumes nothing.
use Rattle.std.specs.Prelude.{ℕ, ◌+◌, ◌≡◌, Bool, cond, List, length, drop, ltb, slice_get, Result, Ok, Err, Option, Some, None, option_map, option_and_then}
use Rattle.site.specs.declared.SubArea.{SubArea}
use Rattle.text.specs.declared.WordStep.{WordStep}
use Rattle.text.specs.Pieces.{line_feed, index_of, before_of, after_of}
use Rattle.text.specs.Numbers.{numeral_of}
use Rattle.refusal.specs.declared.Refusal.TheVariants.{MalformedText}
use Rattle.job.specs.declared.Job.{Job}
use Rattle.job.specs.declared.Unread.{Unread}
use Rattle.job.specs.Lines.{lines_of}
use Rattle.job.specs.Head.{head_of}
use Rattle.job.specs.Areas.{area_in}
use Rattle.job.specs.Reading.{head_lines}

-- the place of a word that is read in its list, with the place behind it
abbrev pub told_word : WordStep → Option (ℕ × ℕ)
told_word w = option_map (λ k. (k, w.next)) w.place

-- the case at that place, among some
abbrev pub told_case : {X : Type 0} → List X → WordStep → Option (X × ℕ)
told_case cases w = option_and_then (λ k. option_map (λ x. (x, w.next)) (slice_get cases k)) w.place

-- the line at the front of a text is ended
abbrev pub line_ends : List ℕ → Bool
line_ends t = ltb (index_of line_feed t) (length t)

-- the number that stands at a place of s with a line feed behind it, and the place behind both
unfoldable pub counted_at : List ℕ → ℕ → Option (ℕ × ℕ)
counted_at s at =
    let t = drop at s in
    cond (line_ends t) (option_map (λ n. (n, at + (index_of line_feed t + 1))) (numeral_of (before_of line_feed t))) None

-- What the area line at the front of a text says; a line that is not ended says nothing.
abbrev pub area_on : List ℕ → Option SubArea
area_on t = cond (line_ends t) (area_in (lines_of t)) None

-- an area line read at a place of s: what it says and, where it reads, the text behind it
pub record Lined (s : List ℕ) (at : ℕ) (r : Option (SubArea × ℕ)) : Type 0 where
  pub bad : r ≡ None → area_on (drop at s) ≡ None
  pub read : (p : SubArea) (next : ℕ) → r ≡ Some (p, next) → area_on (drop at s) ≡ Some p
  pub behind : (p : SubArea) (next : ℕ) → r ≡ Some (p, next) → drop next s ≡ after_of line_feed (drop at s)

-- a head read: what it says and, where it reads, the lines behind it
pub record Headed (s : List ℕ) (r : Result (Job × ℕ) Unread) : Type 0 where
  pub bad : (u : Unread) → r ≡ Err u → (head_of (lines_of s) ≡ Err u.line) × (u.why ≡ MalformedText)
  pub read : (job : Job) (next : ℕ) → r ≡ Ok (job, next) → head_of (lines_of s) ≡ Ok job
  pub behind : (job : Job) (next : ℕ) → r ≡ Ok (job, next) → lines_of (drop next s) ≡ drop head_lines (lines_of s)
