-- Rules, "Curve sheets": what is promised of the verdict on every sheet that is lent.
-- Assumes nothing.
use Rattle.std.specs.Prelude.{ℕ, ◌≤◌, ◌<◌, true, false, List, ◌⊎◌, ◌↔◌, ◌≡◌, length}
use Rattle.refusal.specs.declared.Refusal.TheVariants.{UnfitSheet}
use Rattle.refusal.specs.Refusal.{number_of, granted}
use Rattle.units.specs.Limits.{most_rate, most_percent, highest_depth}
use Rattle.sheet.specs.Sheet.{lengths_fit, without_rates, verdict_of, given}
use Rattle.sheet.specs.Rules.{StepAt, InStep, Rules}

-- A sheet is judged fine exactly when it keeps the rules.
abbrev pub FineExactly : Type 0
FineExactly = (ds rs ps : List ℕ) → ((given (verdict_of ds rs ps)).0 ≡ granted) ↔ Rules ds rs ps

-- the place is the first of a list whose number is out of step
pub record FirstOut (xs : List ℕ) (n gap most place : ℕ) : Type 0 where
  pub within : place < length xs
  pub before : (k : ℕ) → k < place → StepAt xs n gap most k
  pub there : StepAt xs n gap most place → ⊥

-- 1 to 16 depths, 1 to 8 rates, and one percent for each rate at each depth
abbrev pub Fit : List ℕ → List ℕ → List ℕ → Type 0
Fit ds rs ps = lengths_fit (length ds) (length rs) (length ps) ≡ true

-- refused 5 with this list and place
abbrev pub UnfitAt : List ℕ → List ℕ → List ℕ → ℕ → ℕ → Type 0
UnfitAt ds rs ps list place = given (verdict_of ds rs ps) ≡ (number_of UnfitSheet, list, place)

-- List and place are the first that offend: 0 and 0 for wrong lengths, else 1 depths, 2 rates or 3 percents, where the lists before it
-- keep their rule. The single rate 0 offends nowhere.
pub record FirstOffending (ds rs ps : List ℕ) : Type 0 where
  pub lengths : (place : ℕ) → UnfitAt ds rs ps 0 place ↔ ((Fit ds rs ps → ⊥) × (place ≡ 0))
  pub depths : (place : ℕ) → UnfitAt ds rs ps 1 place ↔ (Fit ds rs ps × FirstOut ds (length ds) 1 highest_depth place)
  pub rates : (place : ℕ)
      → UnfitAt ds rs ps 2 place
      ↔ (Fit ds rs ps × InStep ds (length ds) 1 highest_depth × (without_rates rs ≡ false) × FirstOut rs (length rs) 1 most_rate place)
  pub percents : (place : ℕ)
      → UnfitAt ds rs ps 3 place
      ↔ (Fit ds rs ps × InStep ds (length ds) 1 highest_depth × ((without_rates rs ≡ true) ⊎ InStep rs (length rs) 1 most_rate) × FirstOut ps (length ds) 0 most_percent place)
  pub no_other : (list place : ℕ) → UnfitAt ds rs ps list place → list ≤ 3

abbrev pub RefusedExactly : Type 0
RefusedExactly = (ds rs ps : List ℕ) → FirstOffending ds rs ps
