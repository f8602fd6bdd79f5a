-- Rules, "Site and load" and "Numbers of sub-areas": what a site holds, and its areas.
-- Assumes nothing.
use Rattle.std.specs.Prelude.{ℕ, List, take, replicate}
use Rattle.laws.specs.Sum.{sum_of}
use Rattle.site.specs.declared.LandUse.TheVariants.{Com}
use Rattle.site.specs.declared.Cover.{Cover}
use Rattle.site.specs.declared.Cover.TheVariants.{Imp, Per}
use Rattle.site.specs.declared.Soil.TheVariants.{A}
use Rattle.site.specs.declared.SubArea.{SubArea}
use Rattle.site.specs.declared.Site.{Site}

-- a site holds up to 32 sub-areas
abbrev pub most_parts : ℕ
most_parts = 32

-- The sub-areas of a site are those before its count; what stands past the count is none of them.
abbrev pub parts_of : Site → List SubArea
parts_of s = take s.count s.parts

-- the numbers of these sub-areas, in their order
abbrev pub numbers_of : Site → List ℕ
numbers_of s = take s.count s.numbers

-- the area of a sub-area, hundredths of an acre
abbrev pub area_of : SubArea → ℕ
area_of p = p.area.0

-- a sub-area's part in the impervious area: its area under impervious cover, nothing under pervious
abbrev pub under : Cover → ℕ → ℕ
under Imp area = area
under Per area = 0

abbrev pub impervious_of : SubArea → ℕ
impervious_of p = under p.cover (area_of p)

abbrev pub total_area : List SubArea → ℕ
total_area = sum_of area_of

abbrev pub impervious_area : List SubArea → ℕ
impervious_area = sum_of impervious_of

-- what a place of an empty site holds: it is read by no call
abbrev pub blank : SubArea
blank = record { land = Com; cover = Imp; soil = A; area = record { 0 = 0 } }

-- a site without sub-areas, whose first one gets the number 1
abbrev pub empty_site : Site
empty_site = record { parts = replicate most_parts blank; count = 0; numbers = replicate most_parts 0; counter = 1 }
