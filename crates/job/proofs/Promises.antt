-- The promises of a reading.
-- Assumes nothing.
use Rattle.std.specs.Prelude.{Result, Ok, Err, Option, Some, None, ℕ}
use Rattle.site.specs.declared.SubArea.{SubArea}
use Rattle.refusal.specs.declared.Refusal.{Refusal}
use Prim.Native.Nat.{ℕ, suc, ◌+◌}
use mathlib.Core.Bool.{Bool, true, false, cond, ◌&&◌}
use mathlib.Core.List.{List, [], ◌∷◌}
use mathlib.Core.Path.{◌≡◌, refl, ◌∙◌, ap}
use lib.Dec.{eqb, ltb, leb}
use lib.ListN.{length, drop}
use Rattle.refusal.specs.declared.Refusal.TheVariants.{MalformedText}
use Rattle.refusal.specs.Refusal.{number_of, granted}
use Rattle.refusal.proofs.Numbers.{refusal_not_granted}
use Rattle.units.specs.declared.Area.{Area}
use Rattle.site.specs.declared.Site.{Site}
use Rattle.site.specs.Parts.{numbers_of, empty_site}
use Rattle.site.specs.Judging.{judged, after_judging, given as given_area}
use Rattle.site.specs.Adding.{added}
use Rattle.site.specs.Runs.{up_from}
use Rattle.text.specs.Pieces.{line_feed, start_of, end_of}
use Rattle.text.proofs.Between.{piece_bytes, last_ends, empty_starts}
use Rattle.job.specs.declared.Job.{Job}
use Rattle.job.specs.declared.Reading.{Reading}
use Rattle.job.specs.declared.Unread.{Unread}
use Rattle.job.specs.Lines.{lines_of}
use Rattle.job.specs.Head.{head_of}
use Rattle.job.specs.Areas.{area_in, added_line, refused_at, ended_at, areas_from}
use Rattle.job.specs.Reading.{most_bytes, head_lines, behind_head, reading_of, given, site_read}
use Rattle.job.specs.Fault.{line_span, fault_in, fault_of}
use Rattle.job.specs.Promises.{SiteBeside, NumberedInOrder, OffendingLine, MissingLine}
use Rattle.job.proofs.Building.{Built, built_none, built_more}

-- a site that is built by granted adds stands beside a job
abbrev Sound : Result Reading Unread → Type 0
Sound (Ok r) = (total : Area) × Built r.site total
Sound (Err u) = Unit {0}

-- the areas end at a site that is built, or are refused
ended_sound : (job : Job) (rest : List ℕ) (k : ℕ) (s : Site) (total : Area) → Built s total → Sound (ended_at job rest k s)
ended_sound job rest k s total b = at (eqb (length rest) 0 && leb 1 s.count)
  where
    at : (e : Bool) → Sound (cond e (Ok (record { job = job; site = s })) (refused_at k MalformedText))
    at true = (total, b)
    at false = tt

step_sound : (job : Job) (ls : List (List ℕ)) (k : ℕ) (s : Site) (total : Area) (found : Option SubArea)
    → Built s total
    → ((t : Site) (more : Area) → Built t more → Sound (areas_from job ls (k + 1) t))
    → Sound (after_judging (refused_at k) (λ total. areas_from job ls (k + 1) (added_line s found).site) (added_line s found).answer)
unfolding added_line
step_sound job ls k s total None b later = tt
step_sound job ls k s total (Some p) b later = told (added s p).answer refl
  where
    told : (x : Result Area Refusal) → (added s p).answer ≡ x → Sound (after_judging (refused_at k) (λ total. areas_from job ls (k + 1) (added s p).site) x)
    told (Ok more) e = later (added s p).site more (built_more s total b p more e)
    told (Err why) e = tt

areas_sound : (job : Job) (ls : List (List ℕ)) (k : ℕ) (s : Site) (total : Area) → Built s total → Sound (areas_from job ls k s)
unfolding areas_from
areas_sound job [] k s total b = ended_sound job [] k s total b
areas_sound job (rest ∷ []) k s total b = ended_sound job rest k s total b
areas_sound job (line ∷ next ∷ others) k s total b =
    step_sound job (next ∷ others) k s total (area_in (line ∷ next ∷ others)) b
    (λ t more c. areas_sound job (next ∷ others) (k + 1) t more c)

head_sound : (lines : List (List ℕ)) (h : Result Job ℕ) → Sound (behind_head h lines)
unfolding behind_head
head_sound lines (Err k) = tt
head_sound lines (Ok job) = areas_sound job (drop head_lines lines) 7 empty_site (record { 0 = 0 }) built_none

beside : (s : List ℕ) → Sound (reading_of s)
unfolding reading_of
beside s = at (ltb most_bytes (length s))
  where
    at : (b : Bool) → Sound (cond b (refused_at 0 MalformedText) (behind_head (head_of (lines_of s)) (lines_of s)))
    at true = tt
    at false = head_sound (lines_of s) (head_of (lines_of s))

pub site_beside : SiteBeside
site_beside s = told (reading_of s) (beside s)
  where
    told : (x : Result Reading Unread) → Sound x → ((given x).0 ≡ granted → (given_area (judged (site_read x))).0 ≡ granted) × (((given x).0 ≡ granted → ⊥) → site_read x ≡ empty_site)
    told (Ok r) b = (λ e. ap (λ (a : Result Area Refusal). (given_area a).0) b.1.fine, λ no. absurd (no refl))
    told (Err u) b = (λ e. absurd (refusal_not_granted u.why e), λ no. refl)

pub numbered_in_order : NumberedInOrder
numbered_in_order s = told (reading_of s) (beside s)
  where
    told : (x : Result Reading Unread) → Sound x → (given x).0 ≡ granted → (numbers_of (site_read x) ≡ up_from 1 (site_read x).count) × ((site_read x).counter ≡ (site_read x).count + 1)
    told (Ok r) b e = (b.1.numbers, b.1.counter)
    told (Err u) b e = absurd (refusal_not_granted u.why e)

-- refusal 1 in a line points to that line
fault_span_lem : (s : List ℕ) (k : ℕ) → given (reading_of s) ≡ (number_of MalformedText, suc k) → fault_of s ≡ record { from = start_of line_feed s k; to = end_of line_feed s k }
unfolding fault_in line_span
fault_span_lem s k e = rw e

pub offending_line : OffendingLine
offending_line s k e = rw (fault_span_lem s k e) (piece_bytes line_feed s k)

pub missing_line : MissingLine
missing_line s k e last empty =
    let ends = last_ends line_feed s k last in
    let starts = empty_starts line_feed s k empty in
    fault_span_lem s k e ∙ (λ i. record { from = (starts ∙ ends) i; to = ends i })
