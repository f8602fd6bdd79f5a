-- Rules, "Practices covered": the published sheet of a practice for a nutrient, and its percents.
-- Assumes nothing.
use Rattle.std.specs.Prelude.{ℕ, Bool, List, [], ◌∷◌, ltb, length, get_or, Result, Ok, Err}
use Rattle.laws.specs.Turn.{in_turn}
use Rattle.refusal.specs.declared.Refusal.{Refusal}
use Rattle.refusal.specs.declared.Refusal.TheVariants.{NoPublishedSheet}
use Rattle.refusal.specs.Refusal.{number_of, granted}
use Rattle.units.specs.declared.Nutrient.{Nutrient}
use Rattle.curve.specs.declared.Mode.{Mode}
use Rattle.sheet.specs.declared.Sheet.{Sheet}
use Rattle.curve.specs.Answers.{PercentAnswer, ReachAnswer, refused, percent_answer, reach_of}
use Rattle.published.specs.Tables.{depths, sheets}

-- the practices are numbered 0 to 8
abbrev pub last_practice : ℕ
last_practice = 8

-- the rates of a practice's sheet, and its percents rate by rate; none for a number above 8
unfoldable pub rates_of : ℕ → Nutrient → List ℕ
rates_of practice nutrient = (get_or (sheets nutrient) practice ([], [])).0

unfoldable pub percents_of : ℕ → Nutrient → List ℕ
percents_of practice nutrient = (get_or (sheets nutrient) practice ([], [])).1

-- there is a published column for the practice
abbrev pub is_published : ℕ → Nutrient → Bool
is_published practice nutrient = ltb 0 (length (rates_of practice nutrient))

-- the percent of a published practice, with its basis: 4, then as for a lent sheet
abbrev pub percent_published : ℕ → Nutrient → Mode → ℕ → ℕ → PercentAnswer
percent_published practice nutrient mode r d =
    in_turn refused (percent_answer depths (rates_of practice nutrient) (percents_of practice nutrient) mode r d)
    ((is_published practice nutrient, NoPublishedSheet) ∷ [])

-- the least grid depth whose percent is at least the target, with that percent and its basis: 4, then as for a lent sheet
abbrev pub reach_published : ℕ → Nutrient → Mode → ℕ → ℕ → ReachAnswer
reach_published practice nutrient mode r target =
    in_turn refused (reach_of depths (rates_of practice nutrient) (percents_of practice nutrient) mode r target)
    ((is_published practice nutrient, NoPublishedSheet) ∷ [])

-- a sheet's depths, its rates, and its percents rate by rate
abbrev pub Lists : Type 0
Lists = List ℕ × List ℕ × List ℕ

-- the depths of every table with a practice's rates and percents
abbrev pub with_depths : List ℕ × List ℕ → Lists
with_depths column = (depths, column.0, column.1)

-- the sheet of a practice, refused 4 where none is published
abbrev pub sheet_of : ℕ → Nutrient → Result Lists Refusal
sheet_of practice nutrient =
    in_turn Err (Ok (depths, rates_of practice nutrient, percents_of practice nutrient)) ((is_published practice nutrient, NoPublishedSheet) ∷ [])

-- the lists of a sheet that is lent
abbrev pub lent : Sheet → Lists
lent sheet = (sheet.depths.now, sheet.rates.now, sheet.percents.now)

abbrev pub lists_of : Result Sheet Refusal → Result Lists Refusal
lists_of (Ok sheet) = Ok (lent sheet)
lists_of (Err why) = Err why

-- the rules' number, and the lists: none for a refusal
abbrev pub given : Result Lists Refusal → ℕ × List ℕ × List ℕ × List ℕ
given (Ok (ds, rs, ps)) = (granted, ds, rs, ps)
given (Err why) = (number_of why, [], [], [])
