-- Rules, "Site and load": the export rates of Tables 3-1 and 3-2, hundredths of a pound per acre and year, as one flat table of 16 for
-- each nutrient.
-- Assumes nothing.
use Rattle.std.specs.Prelude.{ℕ, ◌+◌, List, [], ◌∷◌}
use Rattle.units.specs.declared.Nutrient.{Nutrient}
use Rattle.units.specs.declared.Nutrient.TheVariants.{P, N}
use Rattle.units.specs.Columns.{column_place}
use Rattle.site.specs.declared.LandUse.{LandUse}
use Rattle.site.specs.declared.LandUse.TheVariants.{Com, Ind, Hdr, Mdr, Ldr, Hwy, For, Open, Ag}
use Rattle.site.specs.declared.Cover.{Cover}
use Rattle.site.specs.declared.Cover.TheVariants.{Imp, Per}
use Rattle.site.specs.declared.Soil.{Soil}
use Rattle.site.specs.declared.SubArea.{SubArea}
use Rattle.site.specs.Soils.{load_column}

-- Table 3-1: impervious com, ind, hdr, mdr, ldr, hwy, for, open, ag; pervious forest and agriculture; developed land by soil A, B, C, CD, D
abbrev pub phosphorus : List ℕ
phosphorus =
    178 ∷ 178 ∷ 232 ∷ 196 ∷ 152 ∷ 134 ∷ 152 ∷ 152 ∷ 152
    ∷ 13 ∷ 45
    ∷ 3 ∷ 12 ∷ 21 ∷ 29 ∷ 37
    ∷ []

-- Table 3-2, in the same order
abbrev pub nitrogen : List ℕ
nitrogen =
    1500 ∷ 1500 ∷ 1410 ∷ 1410 ∷ 1410 ∷ 1050 ∷ 1130 ∷ 1130 ∷ 1130
    ∷ 50 ∷ 260
    ∷ 30 ∷ 120 ∷ 240 ∷ 310 ∷ 360
    ∷ []

-- the largest rate that a table can hold
abbrev pub table_most : ℕ
table_most = 65_535

-- the permit's table of a nutrient
abbrev pub export_rates : Nutrient → List ℕ
export_rates P = phosphorus
export_rates N = nitrogen

-- the place of impervious land
abbrev pub impervious_place : LandUse → ℕ
impervious_place Com = 0
impervious_place Ind = 1
impervious_place Hdr = 2
impervious_place Mdr = 3
impervious_place Ldr = 4
impervious_place Hwy = 5
impervious_place For = 6
impervious_place Open = 7
impervious_place Ag = 8

-- the place of developed pervious land, by its soil
abbrev pub soil_place : Soil → ℕ
soil_place soil = 11 + column_place (load_column soil)

-- the place of pervious land: forest and agriculture have their own rates, all others go by soil
abbrev pub pervious_place : LandUse → ℕ → ℕ
pervious_place Com by_soil = by_soil
pervious_place Ind by_soil = by_soil
pervious_place Hdr by_soil = by_soil
pervious_place Mdr by_soil = by_soil
pervious_place Ldr by_soil = by_soil
pervious_place Hwy by_soil = by_soil
pervious_place For by_soil = 9
pervious_place Open by_soil = by_soil
pervious_place Ag by_soil = 10

abbrev pub rate_place_under : Cover → LandUse → Soil → ℕ
rate_place_under Imp land soil = impervious_place land
rate_place_under Per land soil = pervious_place land (soil_place soil)

-- the place of a sub-area in a table of rates
abbrev pub rate_place : SubArea → ℕ
rate_place p = rate_place_under p.cover p.land p.soil
