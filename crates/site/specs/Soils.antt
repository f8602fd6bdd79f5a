-- Rules, "Site and load" and "A soil that is not known": which soil suits which cover, and how each table reads a soil.
-- Assumes nothing.
use Rattle.std.specs.Prelude.{Bool, true, false, not}
use Rattle.units.specs.declared.Column.{Column}
use Rattle.units.specs.declared.Column.TheVariants as column
use Rattle.site.specs.declared.Cover.{Cover}
use Rattle.site.specs.declared.Cover.TheVariants.{Imp, Per}
use Rattle.site.specs.declared.Soil.{Soil}
use Rattle.site.specs.declared.Soil.TheVariants.{A, B, C, CD, D, U, NoSoil}

-- a soil is named: A, B, C, CD, D or U, and not `-`
abbrev pub named : Soil → Bool
named A = true
named B = true
named C = true
named CD = true
named D = true
named U = true
named NoSoil = false

-- Soil is A, B, C, CD, D or U for pervious cover and `-` for impervious.
abbrev pub suits : Cover → Soil → Bool
suits Imp soil = not (named soil)
suits Per soil = named soil

-- The column of a soil in a table that reads a soil that is not known in the column that is given. A pervious sub-area always
-- names its soil; `-` names none and is read as U is.
abbrev pub column_of : Column → Soil → Column
column_of unknown A = column.A
column_of unknown B = column.B
column_of unknown C = column.C
column_of unknown CD = column.CD
column_of unknown D = column.D
column_of unknown U = unknown
column_of unknown NoSoil = unknown

-- In Tables 3-1 and 3-2 U is read as C (their notes).
abbrev pub load_column : Soil → Column
load_column soil = column_of column.C soil

-- In Table 3-4 U is read as D, the soil that sheds most, so that nothing is sized too small where nobody dug a pit. The rule is ours:
-- the text on Table 3-4 reads it as C.
abbrev pub runoff_column : Soil → Column
runoff_column soil = column_of column.D soil
