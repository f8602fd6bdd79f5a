-- Rules, "Job and answer text": the land uses, covers and soils in the order of their words, and the place of each, counted from 0.
-- Assumes nothing.
use Rattle.std.specs.Prelude.{ℕ, List, [], ◌∷◌}
use Rattle.site.specs.declared.LandUse.{LandUse}
use Rattle.site.specs.declared.LandUse.TheVariants.{Com, Ind, Hdr, Mdr, Ldr, Hwy, For, Open, Ag}
use Rattle.site.specs.declared.Cover.{Cover}
use Rattle.site.specs.declared.Cover.TheVariants.{Imp, Per}
use Rattle.site.specs.declared.Soil.{Soil}
use Rattle.site.specs.declared.Soil.TheVariants as soil

abbrev pub land_uses : List LandUse
land_uses = Com ∷ Ind ∷ Hdr ∷ Mdr ∷ Ldr ∷ Hwy ∷ For ∷ Open ∷ Ag ∷ []

abbrev pub land_place : LandUse → ℕ
land_place Com = 0
land_place Ind = 1
land_place Hdr = 2
land_place Mdr = 3
land_place Ldr = 4
land_place Hwy = 5
land_place For = 6
land_place Open = 7
land_place Ag = 8

abbrev pub covers : List Cover
covers = Imp ∷ Per ∷ []

abbrev pub cover_place : Cover → ℕ
cover_place Imp = 0
cover_place Per = 1

abbrev pub soils : List Soil
soils = soil.A ∷ soil.B ∷ soil.C ∷ soil.CD ∷ soil.D ∷ soil.U ∷ soil.NoSoil ∷ []

abbrev pub soil_place : Soil → ℕ
soil_place soil.A = 0
soil_place soil.B = 1
soil_place soil.C = 2
soil_place soil.CD = 3
soil_place soil.D = 4
soil_place soil.U = 5
soil_place soil.NoSoil = 6
