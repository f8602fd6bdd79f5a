-- The soil columns that Tables 3-1, 3-2 and 3-4 share, in the order in which they stand there.
-- Assumes nothing.
use Rattle.std.specs.Prelude.{ℕ}
use Rattle.units.specs.declared.Column.{Column}
use Rattle.units.specs.declared.Column.TheVariants.{A, B, C, CD, D}

abbrev pub column_place : Column → ℕ
column_place A = 0
column_place B = 1
column_place C = 2
column_place CD = 3
column_place D = 4
