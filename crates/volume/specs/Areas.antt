-- The six areas that V is worked out from: the impervious area and the pervious area of each soil column.
-- Assumes nothing.
use Rattle.std.specs.Prelude.{ℕ, suc, ◌+◌, ◌*◌, Bool, List, [], ◌∷◌, leb, get_or, set, replicate}
use Rattle.laws.specs.Sum.{sum_of}
use Rattle.units.specs.declared.Area.{Area}
use Rattle.units.specs.declared.Column.TheVariants.{A, B, C, CD, D}
use Rattle.units.specs.Columns.{column_place}
use Rattle.units.specs.Limits.{most_area}
use Rattle.runoff.specs.Runoff.{runoff_of}
use Rattle.site.specs.declared.Cover.{Cover}
use Rattle.site.specs.declared.Cover.TheVariants.{Imp, Per}
use Rattle.site.specs.declared.SubArea.{SubArea}
use Rattle.site.specs.Soils.{runoff_column}
use Rattle.site.specs.Parts.{area_of}

-- an area of nothing
abbrev pub no_area : Area
no_area = record { 0 = 0 }

-- the place of a sub-area's area among the six: the impervious one, or that of its soil column
abbrev pub area_place_under : Cover → ℕ → ℕ
area_place_under Imp column = 0
area_place_under Per column = suc column

abbrev pub area_place : SubArea → ℕ
area_place p = area_place_under p.cover (column_place (runoff_column p.soil))

-- the area at a place
abbrev pub area_at : List Area → ℕ → ℕ
area_at xs k = (get_or xs k no_area).0

-- a sub-area's area goes to what stands at its place
abbrev pub with_part : List Area → SubArea → List Area
with_part xs p = set xs (area_place p) (record { 0 = area_at xs (area_place p) + area_of p })

unfoldable pub gathered_from : List Area → List SubArea → List Area
gathered_from xs [] = xs
gathered_from xs (p ∷ ps) = gathered_from (with_part xs p) ps

-- six areas of nothing
abbrev pub no_areas : List Area
no_areas = replicate 6 no_area

-- the six areas of a list of sub-areas
abbrev pub areas_of : List SubArea → List Area
areas_of ps = gathered_from no_areas ps

abbrev pub total_of : List Area → ℕ
total_of = sum_of (λ x. x.0)

-- six areas are those of a site where their total is within the limit
abbrev pub within_limit : List Area → Bool
within_limit xs = leb (total_of xs) most_area

-- area × runoff, over the soil columns
abbrev pub soils_runoff : List Area → ℕ → ℕ
soils_runoff xs d =
    area_at xs 1 * runoff_of A d
    + area_at xs 2 * runoff_of B d
    + area_at xs 3 * runoff_of C d
    + area_at xs 4 * runoff_of CD d
    + area_at xs 5 * runoff_of D d

-- V from the six areas: six products
unfoldable pub volume_from : List Area → ℕ → ℕ
volume_from xs d = 121 * (300 * d * area_at xs 0 + soils_runoff xs d)
