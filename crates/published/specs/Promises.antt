-- Rules, "Practices covered", and of their percents "How a percent was found": what is promised of the published sheets.
-- Assumes nothing.
use Rattle.std.specs.Prelude.{ℕ, ◌≤◌, ◌<◌, true, false, List, [], ◌⊎◌, ◌↔◌, ◌≡◌}
use Rattle.refusal.specs.declared.Refusal.TheVariants.{NoPublishedSheet}
use Rattle.refusal.specs.Refusal.{number_of, granted}
use Rattle.units.specs.declared.Nutrient.{Nutrient}
use Rattle.units.specs.Limits.{highest_depth}
use Rattle.sheet.specs.Sheet as sheet
use Rattle.curve.specs.declared.Mode.{Mode}
use Rattle.curve.specs.declared.Basis.TheVariants.{Held}
use Rattle.curve.specs.Basis.{basis_of}
use Rattle.curve.specs.Promises.{FasterIsNoLess}
use Rattle.published.specs.Tables.{depths}
use Rattle.published.specs.Published.{last_practice, rates_of, percents_of, is_published, sheet_of, given}

-- Every published sheet passes the test that lent sheets are put to.
abbrev pub EverySheetPasses : Type 0
EverySheetPasses =
    (practice : ℕ) (nutrient : Nutrient) → is_published practice nutrient ≡ true
    → sheet.given (sheet.verdict_of depths (rates_of practice nutrient) (percents_of practice nutrient)) ≡ (granted, 0, 0)

-- Every practice from 0 to 8 has a sheet for both nutrients: today no practice is without a column.
abbrev pub EveryPracticeHasOne : Type 0
EveryPracticeHasOne = (practice : ℕ) (nutrient : Nutrient) → practice ≤ last_practice → is_published practice nutrient ≡ true

-- In no published sheet does a percent fall as its rate rises: with this a faster soil never lowers the credit, which is asked by
-- Rules, "The three demands", the third.
abbrev pub NoneFallsWithRate : Type 0
NoneFallsWithRate =
    (practice : ℕ) (nutrient : Nutrient) → FasterIsNoLess depths (rates_of practice nutrient) (percents_of practice nutrient)

-- The last depth of every table is 200: no percent at a depth of the grid is held beyond it.
abbrev pub NeverHeld : Type 0
NeverHeld =
    (practice : ℕ) (nutrient : Nutrient) (mode : Mode) (r d : ℕ) → d ≤ highest_depth
    → basis_of depths (rates_of practice nutrient) mode r d ≡ Held → ⊥

-- What is given for a practice has the depths of every table, and the practice's rates and percents.
pub record Holds (practice : ℕ) (nutrient : Nutrient) (ds rs ps : List ℕ) : Type 0 where
  pub depths_there : ds ≡ depths
  pub rates_there : rs ≡ rates_of practice nutrient
  pub percents_there : ps ≡ percents_of practice nutrient

abbrev pub SheetStandsThere : Type 0
SheetStandsThere =
    (practice : ℕ) (nutrient : Nutrient) (ds rs ps : List ℕ) → given (sheet_of practice nutrient) ≡ (granted, ds, rs, ps)
    → Holds practice nutrient ds rs ps

-- 4 is given exactly for a practice number above 8, or without a published column;
abbrev pub FourExactly : Type 0
FourExactly =
    (practice : ℕ) (nutrient : Nutrient)
    → (given (sheet_of practice nutrient) ≡ (number_of NoPublishedSheet, [], [], [])) ↔ ((last_practice < practice) ⊎ (is_published practice nutrient ≡ false))

-- every other practice is granted its sheet.
abbrev pub GrantedElse : Type 0
GrantedElse = (practice : ℕ) (nutrient : Nutrient) → is_published practice nutrient ≡ true → (given (sheet_of practice nutrient)).0 ≡ granted
