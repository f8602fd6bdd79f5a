-- What only private functions ask of one another, and what their proofs and those above say of a sheet: nobody need read it to believe
-- the promises.
-- Assumes nothing.
use Rattle.std.specs.Prelude.{ℕ, ◌+◌, ◌*◌, ◌≤◌, ◌<◌, List, ◌≡◌, length, get_or, Option, Some, None}
use Rattle.units.specs.declared.Depth.{Depth}
use Rattle.units.specs.declared.Percent.{Percent}
use Rattle.units.specs.Limits.{most_rate, most_percent, highest_depth}
use Rattle.sheet.specs.Sheet.{previous}
use Rattle.sheet.specs.Rules.{Rules}
use Rattle.curve.specs.declared.Curves.{Curves}
use Rattle.curve.specs.declared.Curves.TheVariants.{One, Two}
use Rattle.curve.specs.Curve.{percent_at, depth_reaching}

-- the largest height of a curve: the largest percent times the widest segment
abbrev pub most_height : ℕ
most_height = highest_depth * most_percent

-- a point x of a line between two points, whose numbers are those of depths and percents, or of rates and heights
pub record OnLine (x₀ y₀ x₁ y₁ x : ℕ) : Type 0 where
  pub from : x₀ ≤ x
  pub to : x ≤ x₁
  pub short : x₁ ≤ most_rate
  pub low : y₀ ≤ most_height
  pub high : y₁ ≤ most_height

-- a depth x of segment k, on an accepted sheet
pub record InSegment (ds rs ps : List ℕ) (k x : ℕ) : Type 0 where
  pub rules : Rules ds rs ps
  pub within : k < length ds
  pub from : previous ds (length ds) k ≤ x
  pub to : x ≤ get_or ds k 0

-- a sheet's rates hold a rate not above the site rate
pub record Rated (rs : List ℕ) (r : ℕ) : Type 0 where
  pub some_rates : 1 ≤ length rs
  pub slowest : get_or rs 0 0 ≤ r
  pub taken : r ≤ most_rate

-- the curves of a site rate: places of the sheet, and the rate between its neighbours
pub record Between (rs : List ℕ) (j slow fast r : ℕ) : Type 0 where
  pub next : j + 1 < length rs
  pub apart : slow < fast
  pub short : fast ≤ most_rate
  pub from : slow ≤ r
  pub to : r ≤ fast

abbrev pub Neighbours : List ℕ → Curves → Type 0
Neighbours rs (One j) = j < length rs
Neighbours rs (Two j slow fast r) = Between rs j slow.0 fast.0 r.0

-- an accepted sheet with the curves of a site rate
pub record Ready (ds rs ps : List ℕ) (c : Curves) : Type 0 where
  pub rules : Rules ds rs ps
  pub curves : Neighbours rs c

-- the least depth of the grid for a target, and its percent
pub record LeastWith (ds ps : List ℕ) (c : Curves) (target depth percent : ℕ) : Type 0 where
  pub on_grid : depth ≤ highest_depth
  pub least : depth ≡ depth_reaching (percent_at ds ps c) target
  pub there : percent ≡ percent_at ds ps c depth

-- what a search for a target finds: the least depth with its percent, or none on the grid
abbrev pub Reaching : List ℕ → List ℕ → Curves → ℕ → Option (Depth × Percent) → Type 0
Reaching ds ps c target None = highest_depth < depth_reaching (percent_at ds ps c) target
Reaching ds ps c target (Some (d, p)) = LeastWith ds ps c target d.0 p.0
