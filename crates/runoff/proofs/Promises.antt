-- The promises of runoff, proved.
-- Assumes nothing.
use mathlib.Core.Path.{refl}
use borrow.Author.Tests.{le-leb, lt-leb}
use Rattle.laws.proofs.Table.{length_table}
use Rattle.units.specs.declared.Column.TheVariants.{A, B, C, CD, D}
use Rattle.units.specs.Limits.{highest_depth}
use Rattle.runoff.specs.Runoff.{from_row, by_rows, runoff_of, sheet_entry, sheet_length, runoff_sheet}
use Rattle.runoff.specs.Promises.{RowsHold, NoneBelowRows, GapsDivide, StraightBetween, SheetHolds, RunoffGrantedExactly, RunoffNumbers}
use Rattle.runoff.proofs.Rows.{straight, none_below}
use Rattle.runoff.proofs.LineRule.{sheet_at}

pub rows_hold : RowsHold
unfolding runoff_of by_rows from_row
rows_hold A = refl
rows_hold B = refl
rows_hold C = refl
rows_hold CD = refl
rows_hold D = refl

pub none_below_rows : NoneBelowRows
none_below_rows = none_below

pub gaps_divide : GapsDivide
gaps_divide = refl

pub straight_between : StraightBetween
straight_between = straight

pub sheet_holds : SheetHolds
unfolding runoff_sheet
sheet_holds = (length_table sheet_entry sheet_length, sheet_at)

pub runoff_granted_exactly : RunoffGrantedExactly
runoff_granted_exactly c d = (λ h. simp (le-leb d.0 highest_depth h), λ h. simp (lt-leb d.0 highest_depth h))

pub runoff_numbers : RunoffNumbers
unfolding runoff_of by_rows from_row
runoff_numbers = refl
