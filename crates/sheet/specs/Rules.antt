-- Rules, "Curve sheets": what a sheet must keep, said of every depth, rate and percent.
-- Assumes nothing.
use Rattle.std.specs.Prelude.{ℕ, ◌+◌, ◌*◌, ◌≤◌, ◌<◌, true, List, ◌⊎◌, ◌≡◌, length, get_or}
use Rattle.units.specs.Limits.{most_rate, most_percent, highest_depth}
use Rattle.sheet.specs.Sheet.{most_depths, most_rates, previous, without_rates}

-- the number at place k, in rows of n, is at least `gap` above the one before it, 0 at the start of a row, and at most `most`
pub record StepAt (xs : List ℕ) (n gap most k : ℕ) : Type 0 where
  pub rises : previous xs n k + gap ≤ get_or xs k 0
  pub small : get_or xs k 0 ≤ most

-- every number of a list is
abbrev pub InStep : List ℕ → ℕ → ℕ → ℕ → Type 0
InStep xs n gap most = (k : ℕ) → k < length xs → StepAt xs n gap most k

pub record Rules (ds rs ps : List ℕ) : Type 0 where
  pub some_depths : 1 ≤ length ds
  pub few_depths : length ds ≤ most_depths
  pub some_rates : 1 ≤ length rs
  pub few_rates : length rs ≤ most_rates
  pub one_each : length ps ≡ length rs * length ds
  pub depths : InStep ds (length ds) 1 highest_depth
  pub rates : (without_rates rs ≡ true) ⊎ InStep rs (length rs) 1 most_rate
  pub percents : InStep ps (length ds) 0 most_percent
