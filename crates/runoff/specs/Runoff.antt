-- Rules, "Pervious runoff": Table 3-4, straight between its rows, in thirty-thousandths of an inch.
-- Assumes nothing.
use Rattle.runoff.specs.declared.RunoffDepth.{RunoffDepth}
use Rattle.refusal.specs.declared.Refusal.{Refusal}
use Rattle.std.specs.Prelude.{ℕ, suc, ◌+◌, ◌-◌, ◌*◌, ◌/◌, ◌%◌, cond, List, [], ◌∷◌, ltb, leb, get_or, Result, Ok, Err}
use Rattle.laws.specs.Line.{line}
use Rattle.laws.specs.Table.{table_of}
use Rattle.refusal.specs.declared.Refusal.TheVariants.{AmountOutOfRange}
use Rattle.refusal.specs.Refusal.{number_of, granted}
use Rattle.units.specs.declared.Column.{Column}
use Rattle.units.specs.declared.Depth.{Depth}
use Rattle.units.specs.Columns.{column_place}
use Rattle.units.specs.Limits.{highest_depth, grid_depths}

-- Table 3-4, hundredths of an inch: rain, then the runoff on soils A, B, C, CD, D
abbrev pub rows : List (List ℕ)
rows =
    (10 ∷ 0 ∷ 0 ∷ 0 ∷ 0 ∷ 0 ∷ []) ∷
    (20 ∷ 0 ∷ 0 ∷ 1 ∷ 2 ∷ 2 ∷ []) ∷
    (40 ∷ 0 ∷ 0 ∷ 3 ∷ 5 ∷ 6 ∷ []) ∷
    (50 ∷ 0 ∷ 1 ∷ 5 ∷ 7 ∷ 9 ∷ []) ∷
    (60 ∷ 1 ∷ 2 ∷ 6 ∷ 9 ∷ 11 ∷ []) ∷
    (80 ∷ 2 ∷ 3 ∷ 9 ∷ 13 ∷ 16 ∷ []) ∷
    (100 ∷ 3 ∷ 4 ∷ 12 ∷ 17 ∷ 21 ∷ []) ∷
    (120 ∷ 4 ∷ 5 ∷ 14 ∷ 27 ∷ 39 ∷ []) ∷
    (150 ∷ 8 ∷ 11 ∷ 39 ∷ 55 ∷ 72 ∷ []) ∷
    (200 ∷ 14 ∷ 22 ∷ 69 ∷ 89 ∷ 108 ∷ []) ∷
    []

-- a row's rain
abbrev pub rain : List ℕ → ℕ
rain row = get_or row 0 0

-- a row's runoff on the soil column at a place, in thirty-thousandths of an inch
abbrev pub printed : List ℕ → ℕ → ℕ
printed row column = 300 * get_or row (suc column) 0

-- the straight line between two rows; every row gap divides 300, so nothing is rounded
abbrev pub between : List ℕ → List ℕ → ℕ → ℕ → ℕ
between low high column d = line (rain low) (printed low column) (rain high) (printed high column) d / (rain high - rain low)

-- the runoff at a depth that is not below the rain of the first row, by the rows that follow it
unfoldable pub from_row : List ℕ → List (List ℕ) → ℕ → ℕ → ℕ
from_row low [] column d = printed low column
from_row low (high ∷ rest) column d = cond (ltb d (rain high)) (between low high column d) (from_row high rest column d)

-- below the rain of the first row runoff is 0
unfoldable pub by_rows : List (List ℕ) → ℕ → ℕ → ℕ
by_rows [] column d = 0
by_rows (low ∷ rest) column d = cond (ltb d (rain low)) 0 (from_row low rest column d)

-- the runoff of a table column at a depth
unfoldable pub runoff_of : Column → ℕ → ℕ
runoff_of c d = by_rows rows (column_place c) d

-- the constant sheet: five soils by 201 depths
abbrev pub sheet_entry : ℕ → ℕ
sheet_entry k = by_rows rows (k / grid_depths) (k % grid_depths)

abbrev pub sheet_length : ℕ
sheet_length = 5 * grid_depths

unfoldable pub runoff_sheet : List ℕ
runoff_sheet = table_of sheet_entry sheet_length

-- where the entry of a column and a depth stands in the sheet
abbrev pub entry_place : Column → ℕ → ℕ
entry_place c d = column_place c * grid_depths + d

-- what a lent sheet has for a column at a depth, refused above the grid
abbrev pub entry_of : List ℕ → Column → Depth → Result RunoffDepth Refusal
entry_of sheet c d =
    cond (leb d.0 highest_depth) (Ok (record { 0 = get_or sheet (entry_place c d.0) 0 })) (Err AmountOutOfRange)

-- the public answer: the runoff, refused 9 above the grid
abbrev pub runoff_answer : Column → Depth → Result RunoffDepth Refusal
runoff_answer c d =
    cond (leb d.0 highest_depth) (Ok (record { 0 = runoff_of c d.0 })) (Err AmountOutOfRange)

-- the rules' number and value
abbrev pub given : Result RunoffDepth Refusal → ℕ × ℕ
given (Ok r) = (granted, r.0)
given (Err r) = (number_of r, 0)
