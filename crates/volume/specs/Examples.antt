-- Rules, "Numbers to hold on to": the sub-areas whose volumes are shown.
-- Assumes nothing.
use Rattle.std.specs.Prelude.{List, [], ◌∷◌}
use Rattle.site.specs.declared.LandUse.TheVariants.{Com}
use Rattle.site.specs.declared.Cover.TheVariants.{Imp, Per}
use Rattle.site.specs.declared.Soil.TheVariants.{B, C, NoSoil}
use Rattle.site.specs.declared.SubArea.{SubArea}

-- impervious 257
abbrev pub lot : List SubArea
lot = record { land = Com; cover = Imp; soil = NoSoil; area = record { 0 = 257 } } ∷ []

-- impervious 400, pervious C 200 and B 150
abbrev pub yard : List SubArea
yard =
    record { land = Com; cover = Imp; soil = NoSoil; area = record { 0 = 400 } }
    ∷ record { land = Com; cover = Per; soil = C; area = record { 0 = 200 } }
    ∷ record { land = Com; cover = Per; soil = B; area = record { 0 = 150 } }
    ∷ []
