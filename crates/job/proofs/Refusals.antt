-- Which refusals a reading gives, with which lines, and where the offending part is empty.
-- Assumes nothing.
use Rattle.std.specs.Prelude.{Result, Ok, Err, Option, Some, None, ℕ}
use Rattle.refusal.specs.declared.Refusal.{Refusal}
use Prim.Native.Nat.{ℕ, ◌+◌, ◌≤◌, ◌<◌}
use mathlib.Core.Bool.{Bool, true, false, cond, ◌&&◌}
use mathlib.Core.List.{List, [], ◌∷◌}
use mathlib.Core.Logic.{◌⊎◌, inl, inr, ⊎_elim}
use mathlib.Core.Path.{◌≡◌, refl, ap}
use native.Mathlib.Omega.{arith}
use borrow.Author.Tests.{ne_eqb, lt-ltb, le-ltb}
use lib.Dec.{eqb, ltb, leb}
use lib.ListN.{length, drop}
use Rattle.laws.specs.Turn.{in_turn}
use Rattle.laws.proofs.Order.{lt_or_le}
use Rattle.refusal.specs.declared.Refusal.TheVariants.{MalformedText, UnfitSubArea, TotalAreaPassed, SiteFull, NumbersSpent}
use Rattle.refusal.specs.Refusal.{number_of, granted}
use Rattle.units.specs.declared.Area.{Area}
use Rattle.site.specs.declared.Site.{Site}
use Rattle.site.specs.declared.SubArea.{SubArea}
use Rattle.site.specs.Parts.{most_parts, area_of, empty_site}
use Rattle.site.specs.Judging.{fits, has_room, after_judging}
use Rattle.site.specs.Adding.{spent_at, add_answer, added}
use Rattle.site.proofs.Adding.{add_answers, add_agrees}
use Rattle.job.specs.declared.Job.{Job}
use Rattle.job.specs.declared.Reading.{Reading}
use Rattle.job.specs.declared.Unread.{Unread}
use Rattle.job.specs.Lines.{lines_of}
use Rattle.job.specs.Head.{head_from, head_of}
use Rattle.job.specs.Areas.{area_in, added_line, refused_at, ended_at, areas_from}
use Rattle.job.specs.Reading.{most_bytes, head_lines, behind_head, reading_of, given}
use Rattle.job.specs.Fault.{line_span, fault_in}
use Rattle.job.specs.Promises.{RefusedNumbers, RefusedLines, EmptyPart}
use Rattle.job.proofs.Building.{Built, built_none, built_unspent, built_more}

-- a text's refusals: 1, 2, 3 and 14
abbrev OfText : ℕ → Type 0
OfText n = (n ≡ number_of MalformedText) ⊎ (n ≡ number_of UnfitSubArea) ⊎ (n ≡ number_of TotalAreaPassed) ⊎ (n ≡ number_of SiteFull)

malformed : OfText (number_of MalformedText)
malformed = inl refl

unfit : OfText (number_of UnfitSubArea)
unfit = inr (inl refl)

passed : OfText (number_of TotalAreaPassed)
passed = inr (inr (inl refl))

full : OfText (number_of SiteFull)
full = inr (inr (inr refl))

-- a site's answer is granted, or one of them
abbrev Adds : Result Area Refusal → Type 0
Adds (Ok total) = Unit {0}
Adds (Err why) = OfText (number_of why)

answer_adds : (count counter total : ℕ) (p : SubArea) → counter < spent_at → Adds (add_answer count counter total p)
unfolding add_answer
answer_adds count counter total p h = rw (lt-ltb counter spent_at h) (pick (fits p) (ltb count most_parts) (has_room total (area_of p)))
  where
    pick : (b d e : Bool)
        → Adds (in_turn Err (Ok (record { 0 = total + area_of p })) ((b, UnfitSubArea) ∷ (d, SiteFull) ∷ (true, NumbersSpent) ∷ (e, TotalAreaPassed) ∷ []))
    pick true true true = tt
    pick true true false = passed
    pick true false e = full
    pick false d e = unfit

-- An add to a site that is built by granted adds finds neither a refused record nor a spent counter.
add_adds : (s : Site) (total : Area) (p : SubArea) → Built s total → Adds (added s p).answer
add_adds s total p b =
    rw (← add_agrees s p total b.fine, add_answers s total.0 p) (answer_adds s.count s.counter total.0 p (built_unspent s total b))

-- a reading is granted, or is one of them with a line that is counted from 1
abbrev Lined : Result Reading Unread → Type 0
Lined (Ok r) = Unit {0}
Lined (Err u) = (1 ≤ u.line) × OfText (number_of u.why)

ended_lined : (job : Job) (rest : List ℕ) (k : ℕ) (s : Site) → 1 ≤ k → Lined (ended_at job rest k s)
ended_lined job rest k s h = at (eqb (length rest) 0 && leb 1 s.count)
  where
    at : (b : Bool) → Lined (cond b (Ok (record { job = job; site = s })) (refused_at k MalformedText))
    at true = tt
    at false = (h, malformed)

step_lined : (job : Job) (ls : List (List ℕ)) (k : ℕ) (s : Site) (total : Area) (found : Option SubArea)
    → 1 ≤ k
    → Built s total
    → ((t : Site) (more : Area) → Built t more → Lined (areas_from job ls (k + 1) t))
    → Lined (after_judging (refused_at k) (λ total. areas_from job ls (k + 1) (added_line s found).site) (added_line s found).answer)
unfolding added_line
step_lined job ls k s total None h b later = (h, malformed)
step_lined job ls k s total (Some p) h b later = told (added s p).answer refl (add_adds s total p b)
  where
    told : (x : Result Area Refusal) → (added s p).answer ≡ x → Adds x → Lined (after_judging (refused_at k) (λ total. areas_from job ls (k + 1) (added s p).site) x)
    told (Ok more) e a = later (added s p).site more (built_more s total b p more e)
    told (Err why) e a = (h, a)

areas_lined : (job : Job) (ls : List (List ℕ)) (k : ℕ) (s : Site) (total : Area) → 1 ≤ k → Built s total → Lined (areas_from job ls k s)
unfolding areas_from
areas_lined job [] k s total h b = ended_lined job [] k s h
areas_lined job (rest ∷ []) k s total h b = ended_lined job rest k s h
areas_lined job (first ∷ next ∷ others) k s total h b =
    step_lined job (next ∷ others) k s total (area_in (first ∷ next ∷ others)) h b
    (λ t more c. areas_lined job (next ∷ others) (k + 1) t more (omega arith) c)

-- a bad line of the head is counted from 1
abbrev Counted : Result Job ℕ → Type 0
Counted (Ok job) = Unit {0}
Counted (Err k) = 1 ≤ k

head_counted : (p n m : Option ℕ) (r : Option ℕ) (t : Option ℕ) (a : Option ℕ) → Counted (head_from p n m r t a)
unfolding head_from
head_counted None n m r t a = omega arith
head_counted (Some i) None m r t a = omega arith
head_counted (Some i) (Some j) None r t a = omega arith
head_counted (Some i) (Some j) (Some k) None t a = omega arith
head_counted (Some i) (Some j) (Some k) (Some x) None a = omega arith
head_counted (Some i) (Some j) (Some k) (Some x) (Some l) None = omega arith
head_counted (Some i) (Some j) (Some k) (Some x) (Some l) (Some y) = tt

behind_lined : (lines : List (List ℕ)) (h : Result Job ℕ) → Counted h → Lined (behind_head h lines)
unfolding behind_head
behind_lined lines (Err k) h = (h, malformed)
behind_lined lines (Ok job) h = areas_lined job (drop head_lines lines) (head_lines + 1) empty_site (record { 0 = 0 }) (omega arith) built_none

short_lined : (s : List ℕ) → length s ≤ most_bytes → Lined (reading_of s)
unfolding reading_of head_of
short_lined s h = rw (le-ltb most_bytes (length s) h) (behind_lined (lines_of s) (head_of (lines_of s)) (head_counted _ _ _ _ _ _))

long_given : (s : List ℕ) → most_bytes < length s → given (reading_of s) ≡ (number_of MalformedText, 0)
unfolding reading_of
long_given s h = rw (lt-ltb most_bytes (length s) h)

pub refused_lines_lem : RefusedLines
refused_lines_lem s = (long_given s, λ h not. told (reading_of s) (short_lined s h) not)
  where
    told : (x : Result Reading Unread) → Lined x → ((given x).0 ≡ granted → ⊥) → 1 ≤ (given x).1
    told (Ok r) l not = absurd (not refl)
    told (Err u) l not = l.0

pub refused_numbers : RefusedNumbers
refused_numbers s not =
    ⊎_elim (λ (h : most_bytes < length s). inl (ap (λ (g : ℕ × ℕ). g.0) (long_given s h)))
    (λ (h : length s ≤ most_bytes). told (reading_of s) (short_lined s h) not)
    (lt_or_le most_bytes (length s))
  where
    told : (x : Result Reading Unread) → Lined x → ((given x).0 ≡ granted → ⊥) → OfText (given x).0
    told (Ok r) l not = absurd (not refl)
    told (Err u) l not = l.1

pub empty_part : EmptyPart
unfolding fault_in line_span
empty_part s = (
  λ other. rw (ne_eqb (given (reading_of s)).0 (number_of MalformedText) other),
  λ h. rw (long_given s h),
)
