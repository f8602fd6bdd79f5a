-- Laws of the soil columns.
-- Assumes nothing.
use Prim.Native.Nat.{◌≤◌}
use lib.Dec.{lit≤}
use Rattle.units.specs.declared.Column.{Column}
use Rattle.units.specs.declared.Column.TheVariants.{A, B, C, CD, D}
use Rattle.units.specs.Columns.{column_place}

-- There are five columns.
pub place_most : (c : Column) → column_place c ≤ 4
place_most A = lit≤ tt
place_most B = lit≤ tt
place_most C = lit≤ tt
place_most CD = lit≤ tt
place_most D = lit≤ tt
