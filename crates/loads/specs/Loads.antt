-- Rules, "Site and load" and "Curve sheets": the load of a site, and the removed load by equation 3-2.
-- Assumes nothing.
use Rattle.units.specs.declared.Load.{Load}
use Rattle.refusal.specs.declared.Refusal.{Refusal}
use Rattle.std.specs.Prelude.{ℕ, ◌*◌, ◌/◌, List, [], ◌∷◌, leb, get_or, Result, Ok, Err}
use Rattle.laws.specs.Sum.{sum_of}
use Rattle.laws.specs.Turn.{in_turn}
use Rattle.refusal.specs.declared.Refusal.TheVariants.{AmountOutOfRange, PastLargest}
use Rattle.refusal.specs.Refusal.{number_of, granted}
use Rattle.units.specs.declared.Nutrient.{Nutrient}
use Rattle.units.specs.Limits.{largest, most_percent}
use Rattle.site.specs.declared.SubArea.{SubArea}
use Rattle.site.specs.declared.Site.{Site}
use Rattle.site.specs.Parts.{parts_of, area_of}
use Rattle.site.specs.Judging.{judged, after_judging}
use Rattle.loads.specs.Rates.{export_rates, rate_place}

-- the load of a sub-area: its area times its rate
abbrev pub part_load : List ℕ → SubArea → ℕ
part_load rates p = area_of p * get_or rates (rate_place p) 0

-- The load is the sum of area times rate, with no rounding.
abbrev pub load_of : List ℕ → List SubArea → ℕ
load_of rates ps = sum_of (part_load rates) ps

-- a load past 10^13 is refused 15
abbrev pub within_largest : ℕ → Result Load Refusal
within_largest load = in_turn Err (Ok (record { 0 = load })) ((leb load largest, PastLargest) ∷ [])

-- the load of a site under a table of rates: the record is judged, then 15 is tried
unfoldable pub load_under : List ℕ → Site → Result Load Refusal
load_under rates s = after_judging Err (λ total. within_largest (load_of rates (parts_of s))) (judged s)

-- the load of a site under the permit's table
abbrev pub load_answer : Nutrient → Site → Result Load Refusal
load_answer nutrient s = load_under (export_rates nutrient) s

-- Removed load = load × percent / 100,000, rounded down (equation 3-2).
abbrev pub removed_of : ℕ → ℕ → ℕ
removed_of load percent = load * percent / most_percent

-- the removed load of a load and a percent, which may be anything: a percent above 100,000 is refused 9, a load past 10^13 15
unfoldable pub removed_answer : ℕ → ℕ → Result Load Refusal
removed_answer load percent =
    in_turn Err (Ok (record { 0 = removed_of load percent }))
    ((leb percent most_percent, AmountOutOfRange) ∷ (leb load largest, PastLargest) ∷ [])

-- the rules' number and value: a refusal's value is 0
abbrev pub given : Result Load Refusal → ℕ × ℕ
given (Ok load) = (granted, load.0)
given (Err why) = (number_of why, 0)
