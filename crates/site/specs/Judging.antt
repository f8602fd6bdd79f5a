-- Rules, "Site and load", "Numbers of sub-areas" and "The numbers given back": a site record handed to any call is judged before all
-- else.
-- Assumes nothing.
use Rattle.units.specs.declared.Area.{Area}
use Rattle.std.specs.Prelude.{ℕ, ◌+◌, Bool, ◌&&◌, List, [], ◌∷◌, ltb, leb, Result, Ok, Err}
use Rattle.laws.specs.Turn.{in_turn}
use Rattle.refusal.specs.declared.Refusal.{Refusal}
use Rattle.refusal.specs.declared.Refusal.TheVariants.{UnfitSubArea, TotalAreaPassed, SiteFull, NumberNotHeld}
use Rattle.refusal.specs.Refusal.{number_of, granted}
use Rattle.units.specs.Limits.{most_area}
use Rattle.site.specs.declared.SubArea.{SubArea}
use Rattle.site.specs.declared.Site.{Site}
use Rattle.site.specs.Soils.{suits}
use Rattle.site.specs.Parts.{most_parts, parts_of, numbers_of, area_of, impervious_area}

-- a sub-area that is not refused 2: its area is from 1 to 1,000,000, and its soil suits its cover
abbrev pub fits : SubArea → Bool
fits p = leb 1 (area_of p) && leb (area_of p) most_area && suits p.cover p.soil

-- an area that is not refused 3: with it the total is at most 1,000,000
abbrev pub has_room : ℕ → ℕ → Bool
has_room total area = leb (total + area) most_area

-- the sub-areas in turn, 2 before 3 at each, the total running; where all pass, the total area
unfoldable pub judged_from : ℕ → List SubArea → Result Area Refusal
judged_from total [] = Ok (record { 0 = total })
judged_from total (p ∷ ps) =
    in_turn Err (judged_from (total + area_of p) ps)
    ((fits p, UnfitSubArea) ∷ (has_room total (area_of p), TotalAreaPassed) ∷ [])

-- The record's refusal is the call's; a record that is judged fine goes on, with its total area.
module _ {A : Type 0} where
  abbrev pub after_judging : (Refusal → A) → (ℕ → A) → Result Area Refusal → A
  after_judging refused onward (Ok total) = onward total.0
  after_judging refused onward (Err why) = refused why

-- Numbers that rise strictly from above `low` and stay below the counter; where there are none, `low` is below it.
unfoldable pub rises_to : ℕ → ℕ → List ℕ → Bool
rises_to counter low [] = ltb low counter
rises_to counter low (k ∷ ks) = ltb low k && rises_to counter k ks

-- a record that is not refused 16: its counter is not 0, and its numbers rise strictly from at least 1 and stay below the counter
abbrev pub numbered : Site → Bool
numbered s = rises_to s.counter 0 (numbers_of s)

-- a total area that is granted where the numbers are fine, and 16 where they are not
abbrev pub with_numbers : Bool → ℕ → Result Area Refusal
with_numbers fine total = in_turn Err (Ok (record { 0 = total })) ((fine, NumberNotHeld) ∷ [])

-- a count above 32 answers 14, then its sub-areas are tried, then its numbers
unfoldable pub judged : Site → Result Area Refusal
judged s =
    in_turn Err (after_judging Err (with_numbers (numbered s)) (judged_from 0 (parts_of s)))
    ((leb s.count most_parts, SiteFull) ∷ [])

-- the impervious area of a site
unfoldable pub impervious : Site → Result Area Refusal
impervious s = after_judging Err (λ total. Ok (record { 0 = impervious_area (parts_of s) })) (judged s)

-- the rules' number and value: a refusal's value is 0
abbrev pub given : Result Area Refusal → ℕ × ℕ
given (Ok area) = (granted, area.0)
given (Err why) = (number_of why, 0)
