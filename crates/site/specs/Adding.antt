-- Rules, "Site and load", "Numbers of sub-areas" and "The numbers given back": adding a sub-area tries 2, 14, 17, 3, gives it a number
-- and hands the site back.
-- Assumes nothing.
use Rattle.std.specs.Prelude.{ℕ, ◌+◌, Bool, List, [], ◌∷◌, ltb, set, Result, Ok, Err}
use Rattle.laws.specs.Turn.{in_turn}
use Rattle.refusal.specs.declared.Refusal.{Refusal}
use Rattle.refusal.specs.declared.Refusal.TheVariants.{UnfitSubArea, TotalAreaPassed, SiteFull, NumbersSpent}
use Rattle.units.specs.declared.Area.{Area}
use Rattle.site.specs.declared.SubArea.{SubArea}
use Rattle.site.specs.declared.Site.{Site}
use Rattle.site.specs.declared.Placed.{Placed}
use Rattle.site.specs.Parts.{most_parts, area_of}
use Rattle.site.specs.Judging.{fits, has_room, judged, after_judging, given}

-- the counter at which all numbers are spent: the last one that is given is one less
abbrev pub spent_at : ℕ
spent_at = 1_000_000

-- what an add tries in turn, given the count, the counter and the total area of a site: 2, 14, 17, 3
abbrev pub add_tests : ℕ → ℕ → ℕ → SubArea → List (Bool × Refusal)
add_tests count counter total p =
    (fits p, UnfitSubArea)
    ∷ (ltb count most_parts, SiteFull)
    ∷ (ltb counter spent_at, NumbersSpent)
    ∷ (has_room total (area_of p), TotalAreaPassed)
    ∷ []

-- what an add answers: the new total area, where all pass
unfoldable pub add_answer : ℕ → ℕ → ℕ → SubArea → Result Area Refusal
add_answer count counter total p = in_turn Err (Ok (record { 0 = total + area_of p })) (add_tests count counter total p)

-- An add writes only the place at the count, the sub-area there and its number, which is the counter; count and counter rise by one.
abbrev pub stored : Site → SubArea → Site
stored s p =
    record {
      parts = set s.parts s.count p;
      count = s.count + 1;
      numbers = set s.numbers s.count s.counter;
      counter = s.counter + 1;
    }

-- What an add comes to: the new total area or the refusal, the site that it leaves, and the number that the sub-area got, 0 beside a
-- refusal.
pub record Added : Type 0 where
  pub answer : Result Area Refusal
  pub site : Site
  pub number : ℕ

-- a refused add hands back the site as it was, past the count too, and gives no number
abbrev pub kept : Site → Refusal → Added
kept s why = record { answer = Err why; site = s; number = 0 }

-- what goes with an answer: the site with the sub-area stored and the number that it got, or the site as it was
abbrev pub settled : Site → SubArea → Result Area Refusal → Added
settled s p (Ok total) = record { answer = Ok total; site = stored s p; number = s.counter }
settled s p (Err why) = kept s why

-- adding to a site of the total area that is given: the answer, and what goes with it
unfoldable pub added_to : Site → ℕ → SubArea → Added
added_to s total p = settled s p (add_answer s.count s.counter total p)

-- adding to a site record, which is judged before all else
unfoldable pub added : Site → SubArea → Added
added s p = after_judging (kept s) (λ total. added_to s total p) (judged s)

-- the rules' number and value, beside the site and the number that was given
abbrev pub given_back : Added → (ℕ × ℕ) × Site × ℕ
given_back a = (given a.answer, a.site, a.number)

-- what an add answers: the new total area beside the number that was given, or the refusal
abbrev pub with_number : ℕ → Result Area Refusal → Result Placed Refusal
with_number number (Ok total) = Ok (record { total = total; number = number })
with_number number (Err why) = Err why

abbrev pub placed : Added → Result Placed Refusal
placed a = with_number a.number a.answer
