-- Rules, "Volume of a depth": V at a depth, and the depth of a volume.
-- Assumes nothing.
use Rattle.std.specs.Prelude.{ℕ, ◌+◌, ◌-◌, ◌*◌, List, leb}
use Rattle.laws.specs.First.{first}
use Rattle.laws.specs.Sum.{sum_of}
use Rattle.units.specs.Limits.{grid_depths}
use Rattle.runoff.specs.Runoff.{runoff_of}
use Rattle.site.specs.declared.Cover.{Cover}
use Rattle.site.specs.declared.Cover.TheVariants.{Imp, Per}
use Rattle.site.specs.declared.SubArea.{SubArea}
use Rattle.site.specs.Soils.{runoff_column}
use Rattle.site.specs.Parts.{area_of, impervious_area}

-- what counts of pervious sub-areas alone
abbrev pub if_pervious : Cover → ℕ → ℕ
if_pervious Imp n = 0
if_pervious Per n = n

-- area × runoff(d, soil) of a pervious sub-area
abbrev pub pervious_runoff : ℕ → SubArea → ℕ
pervious_runoff d p = if_pervious p.cover (area_of p * runoff_of (runoff_column p.soil) d)

-- V(d) = 121 × (300 × d × impervious area + sum over pervious sub-areas of area × runoff(d, soil))
unfoldable pub volume_of : List SubArea → ℕ → ℕ
volume_of ps d = 121 * (300 * d * impervious_area ps + sum_of (pervious_runoff d) ps)

-- the largest grid depth whose V is not above the volume, for any V: the one before the first whose V is above it
abbrev pub depth_within : (ℕ → ℕ) → ℕ → ℕ
depth_within volume_at v = first (λ d. leb (volume_at d) v) grid_depths - 1

-- the depth of a volume is the largest grid depth d with V(d) not above the volume
unfoldable pub depth_of : List SubArea → ℕ → ℕ
depth_of ps v = depth_within (volume_of ps) v
