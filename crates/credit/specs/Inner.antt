-- What only private functions ask of one another: nobody need read it to believe the promises.
-- Assumes nothing.
use Rattle.std.specs.Prelude.{ℕ, ◌≤◌, ◌≡◌, Bool, true, false, List, [], ◌∷◌, leb, Result, Ok, Err, Option, Some, None}
use Rattle.laws.specs.Turn.{in_turn}
use Rattle.refusal.specs.declared.Refusal.{Refusal}
use Rattle.refusal.specs.declared.Refusal.TheVariants.{TargetUnreachable}
use Rattle.units.specs.declared.Area.{Area}
use Rattle.units.specs.declared.Depth.{Depth}
use Rattle.units.specs.declared.Percent.{Percent}
use Rattle.units.specs.Limits.{largest, most_percent, lowest_depth, highest_depth}
use Rattle.site.specs.declared.Site.{Site}
use Rattle.site.specs.Parts.{parts_of}
use Rattle.site.specs.Judging.{judged}
use Rattle.loads.specs.Loads.{load_of}
use Rattle.volume.specs.Areas.{areas_of}
use Rattle.volume.specs.Inner.{Six}
use Rattle.curve.specs.declared.Basis.{Basis}
use Rattle.curve.specs.declared.Basis.TheVariants as basis
use Rattle.curve.specs.Answers.{refused}
use Rattle.credit.specs.Credit.{CreditAnswer, figures_of, tried}

-- the six areas of a site, with a load and a percent within their limits
pub record Work (xs : List Area) (load percent : ℕ) : Type 0 where
  pub areas : Six xs
  pub fits : load ≤ largest
  pub whole : percent ≤ most_percent

-- the depth of an answer, 0 where it is refused
abbrev pub depth_in : Result Depth Refusal → Depth
depth_in (Ok d) = d
depth_in (Err why) = record { 0 = lowest_depth }

-- a sizing at a depth that was found, with its percent and basis, or at any where the target is not reached
unfoldable pub sized_at : ℕ → ℕ → (ℕ → ℕ) → ℕ → ℕ → ℕ → Basis → Bool → CreditAnswer
sized_at load impervious volume_at target depth percent basis reached =
    in_turn refused (Ok (figures_of load depth percent basis (volume_at depth)))
    (tried load impervious volume_at (leb target most_percent) ((reached, TargetUnreachable) ∷ []))

-- a sizing at the depth that was found, or at none
abbrev pub sized_by : ℕ → ℕ → (ℕ → ℕ) → ℕ → Option (Depth × Percent × Basis) → CreditAnswer
sized_by load impervious volume_at target (Some (d, p, b)) = sized_at load impervious volume_at target d.0 p.0 b true
sized_by load impervious volume_at target None = sized_at load impervious volume_at target highest_depth 0 basis.None false

-- a depth that was found is on the grid, and its percent is at most 100 percent
abbrev pub Within : Option (Depth × Percent × Basis) → Type 0
Within (Some (d, p, b)) = (d.0 ≤ highest_depth) × (p.0 ≤ most_percent)
Within None = Unit {0}

-- what a walk over a record that is judged fine finds under a table of rates: the six areas and the load of its sub-areas
pub record Surveyed (rates : List ℕ) (s : Site) (xs : List Area) (load : ℕ) : Type 0 where
  pub total : Area
  pub fine : Ok total ≡ judged s
  pub areas : xs ≡ areas_of (parts_of s)
  pub loaded : load ≡ load_of rates (parts_of s)
