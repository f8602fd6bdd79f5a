-- Laws of the place of a sub-area in a table of rates.
-- Assumes nothing.
use Prim.Native.Nat.{ℕ, ◌+◌, ◌<◌}
use mathlib.Core.Path.{◌≡◌}
use lib.Dec.{lit<}
use native.Mathlib.Omega.{arith}
use mir.Syntax.{w64}
use mir.Val.{Fits}
use Rattle.units.specs.declared.Column.{Column}
use Rattle.units.specs.Columns.{column_place}
use Rattle.site.specs.declared.LandUse.{LandUse}
use Rattle.site.specs.declared.LandUse.TheVariants.{Com, Ind, Hdr, Mdr, Ldr, Hwy, For, Open, Ag}
use Rattle.site.specs.declared.Cover.{Cover}
use Rattle.site.specs.declared.Cover.TheVariants.{Imp, Per}
use Rattle.site.specs.declared.Soil.{Soil}
use Rattle.site.specs.declared.Soil.TheVariants.{A, B, C, CD, D, U, NoSoil}
use Rattle.site.specs.declared.SubArea.{SubArea}
use Rattle.site.specs.Soils.{load_column}
use Rattle.loads.specs.Rates.{impervious_place, soil_place, pervious_place, rate_place_under, rate_place}

soil_below : (soil : Soil) → soil_place soil < 16
soil_below A = lit< tt
soil_below B = lit< tt
soil_below C = lit< tt
soil_below CD = lit< tt
soil_below D = lit< tt
soil_below U = lit< tt
soil_below NoSoil = lit< tt

impervious_below : (land : LandUse) → impervious_place land < 16
impervious_below Com = lit< tt
impervious_below Ind = lit< tt
impervious_below Hdr = lit< tt
impervious_below Mdr = lit< tt
impervious_below Ldr = lit< tt
impervious_below Hwy = lit< tt
impervious_below For = lit< tt
impervious_below Open = lit< tt
impervious_below Ag = lit< tt

pervious_below : (land : LandUse) (n : ℕ) → n < 16 → pervious_place land n < 16
pervious_below Com n h = h
pervious_below Ind n h = h
pervious_below Hdr n h = h
pervious_below Mdr n h = h
pervious_below Ldr n h = h
pervious_below Hwy n h = h
pervious_below For n h = lit< tt
pervious_below Open n h = h
pervious_below Ag n h = lit< tt

under_below : (cover : Cover) (land : LandUse) (soil : Soil) → rate_place_under cover land soil < 16
under_below Imp land soil = impervious_below land
under_below Per land soil = pervious_below land (soil_place soil) (soil_below soil)

-- Each sub-area has its place among the sixteen.
pub place_below : (p : SubArea) {n : ℕ} → n ≡ rate_place p → n < 16
place_below p e = let h = under_below p.cover p.land p.soil in omega arith

-- The place under pervious cover is the land's, with the soil's where the land has none of its own.
pub pervious_is : (p : SubArea) {n : ℕ} → p.cover ≡ Per → n ≡ soil_place p.soil → pervious_place p.land n ≡ rate_place p
pervious_is p e f = rw (e, f)

-- the place of a soil's column, eleven further on
module _ (soil : Soil) {n : ℕ} {c : Column} (e : n ≡ column_place c) (f : c ≡ load_column soil) where
  pub soil_is : 11 + n ≡ soil_place soil
  soil_is = rw (e, f)

  pub soil_fits : Fits w64 (11 + n)
  soil_fits = let g = soil_is in let h = soil_below soil in record { fits = omega arith }
