-- Rules, "Numbers of sub-areas": a removal by number frees the room of its sub-area, and the others close up in order.
-- Assumes nothing.
use Rattle.std.specs.Prelude.{ℕ, ◌-◌, Bool, not, List, [], ◌∷◌, ltb, eqb, length, get_or, Result, Ok, Err}
use Rattle.laws.specs.First.{first}
use Rattle.laws.specs.Turn.{in_turn}
use Rattle.laws.specs.ClosedUp.{closed_up}
use Rattle.refusal.specs.declared.Refusal.{Refusal}
use Rattle.refusal.specs.declared.Refusal.TheVariants.{NumberNotHeld}
use Rattle.units.specs.declared.Area.{Area}
use Rattle.site.specs.declared.Site.{Site}
use Rattle.site.specs.Parts.{parts_of, numbers_of, area_of, blank}
use Rattle.site.specs.Judging.{judged, after_judging, given}

-- the first place at which a number stands among some, or how many they are where it stands at none
abbrev pub place_of : ℕ → List ℕ → ℕ
place_of n ks = first (λ i. not (eqb (get_or ks i 0) n)) (length ks)

-- a number that is one of some
abbrev pub holds : ℕ → List ℕ → Bool
holds n ks = ltb (place_of n ks) (length ks)

-- The site without the sub-area at a place: those behind it and their numbers move up by one, the last place keeps what it held, as
-- all places past it do, and the counter stays, so that no number is given twice.
abbrev pub without : Site → ℕ → Site
without s i =
    record {
      parts = closed_up i (s.count - 1) s.parts;
      count = s.count - 1;
      numbers = closed_up i (s.count - 1) s.numbers;
      counter = s.counter;
    }

-- what a removal comes to: the new total area or the refusal, and the site that it leaves
pub record Removed : Type 0 where
  pub answer : Result Area Refusal
  pub site : Site

-- a refused removal hands back the site as it was, past the count too
abbrev pub untouched : Site → Refusal → Removed
untouched s why = record { answer = Err why; site = s }

-- a granted one hands back the site without the sub-area, and the total area without its area
abbrev pub taken_out : Site → ℕ → ℕ → Removed
taken_out s total i =
    record { answer = Ok (record { 0 = total - area_of (get_or (parts_of s) i blank) }); site = without s i }

-- removing a number from a site of the total area that is given: 16 where the number is not held
unfoldable pub removed_from : Site → ℕ → ℕ → Removed
removed_from s total n =
    in_turn (untouched s) (taken_out s total (place_of n (numbers_of s)))
    ((holds n (numbers_of s), NumberNotHeld) ∷ [])

-- removing a number from a site record, which is judged before all else
unfoldable pub removed : Site → ℕ → Removed
removed s n = after_judging (untouched s) (λ total. removed_from s total n) (judged s)

-- the rules' number and value, beside the site
abbrev pub handed_back : Removed → (ℕ × ℕ) × Site
handed_back r = (given r.answer, r.site)
