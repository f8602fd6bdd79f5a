-- `volume::area_place` meets its contract: the cover decides, and a column's place is at most 4.
-- Assumes nothing.
use borrow.Author.Rules.{rules}
use native.Mathlib.Omega.{arith}
use Rattle.units.proofs.Columns.{place_most}
use Rattle.volume.proofs.Gathering.{impervious_place_lem, pervious_place_lem, column_place_lem}
use Rattle.volume.proofs.area_place.Goals as goal

pub overflow_add-result : goal.overflow_add-result
overflow_add-result c =
    let p = place_most c.runoff_column.result in
    omega arith

pub returns-in-Imp : goal.returns-in-Imp
returns-in-Imp c = (search (impervious_place_lem, rules), search rules)

pub returns-in-Per : goal.returns-in-Per
returns-in-Per c = (search (pervious_place_lem, rules), search (column_place_lem, rules))
