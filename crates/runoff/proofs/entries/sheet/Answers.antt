-- `runoff::sheet` meets its contract: one computed test finds the line rule at each of the 1,005 entries of the constant.
-- Assumes nothing.
use mathlib.Core.Path.{refl}
use Rattle.laws.proofs.Table.{is_table}
use Rattle.runoff.specs.Runoff.{by_rows, from_row, sheet_entry, sheet_length, runoff_sheet}
use Rattle.runoff.proofs.entries.sheet.Goals as goal

pub returns : goal.returns
unfolding by_rows from_row runoff_sheet
returns c = is_table sheet_entry sheet_length _ refl refl
