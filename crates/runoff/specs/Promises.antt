-- Rules, "Pervious runoff": what is promised of runoff, as statements that proofs/Promises.antt proves.
-- Assumes nothing.
use Rattle.std.specs.Prelude.{ℕ, suc, ◌-◌, ◌*◌, ◌%◌, ◌≤◌, ◌<◌, List, [], ◌∷◌, map, ◌≡◌, length, get_or, replicate}
use Rattle.laws.specs.Line.{line}
use Rattle.refusal.specs.declared.Refusal.TheVariants.{AmountOutOfRange}
use Rattle.refusal.specs.Refusal.{number_of, granted}
use Rattle.units.specs.declared.Column.{Column}
use Rattle.units.specs.declared.Column.TheVariants.{A, CD, D}
use Rattle.units.specs.declared.Depth.{Depth}
use Rattle.units.specs.Columns.{column_place}
use Rattle.units.specs.Limits.{highest_depth}
use Rattle.runoff.specs.Runoff.{rows, rain, printed, runoff_of, runoff_sheet, entry_place, runoff_answer, given}

-- Each row of Table 3-4 gives its printed runoff at its own depth.
abbrev pub RowsHold : Type 0
RowsHold = (c : Column) → map (λ row. runoff_of c (rain row)) rows ≡ map (λ row. printed row (column_place c)) rows

-- Below rain 10 runoff is 0.
abbrev pub NoneBelowRows : Type 0
NoneBelowRows = (c : Column) (d : ℕ) → d < 10 → runoff_of c d ≡ 0

-- the row at a place, counted from 0
abbrev pub row_at : ℕ → List ℕ
row_at k = get_or rows k []

-- the gap between the rains of a row and of the next
abbrev pub gap_at : ℕ → ℕ
gap_at k = rain (row_at (suc k)) - rain (row_at k)

-- Every row gap divides 300.
abbrev pub GapsDivide : Type 0
GapsDivide = map (λ k. 300 % gap_at k) (0 ∷ 1 ∷ 2 ∷ 3 ∷ 4 ∷ 5 ∷ 6 ∷ 7 ∷ 8 ∷ []) ≡ replicate 9 0

-- Between rows it is a straight line, and a whole number: the runoff times the gap is the line itself, with nothing rounded.
abbrev pub StraightBetween : Type 0
StraightBetween =
    (c : Column) (k d : ℕ)
    → suc k < length rows
    → rain (row_at k) ≤ d
    → d < rain (row_at (suc k))
    → runoff_of c d * gap_at k
    ≡ line (rain (row_at k)) (printed (row_at k) (column_place c)) (rain (row_at (suc k))) (printed (row_at (suc k)) (column_place c)) d

-- The sheet has 1,005 numbers, and each is the runoff of its soil at its depth, by the straight lines.
abbrev pub SheetHolds : Type 0
SheetHolds =
    (length runoff_sheet ≡ 1_005) × ((c : Column) (d : ℕ) → d ≤ highest_depth → get_or runoff_sheet (entry_place c d) 0 ≡ runoff_of c d)

-- A depth up to 200 has its runoff; one above 200 is refused 9.
abbrev pub RunoffGrantedExactly : Type 0
RunoffGrantedExactly =
    (c : Column) (d : Depth)
    → (d.0 ≤ highest_depth → given (runoff_answer c d) ≡ (granted, runoff_of c d.0))
    × (highest_depth < d.0 → given (runoff_answer c d) ≡ (number_of AmountOutOfRange, 0))

-- Rules, "Numbers to hold on to": A at 55 is 150, CD at 110 is 6600, D at 200 is 32400.
abbrev pub RunoffNumbers : Type 0
RunoffNumbers = (runoff_of A 55 ∷ runoff_of CD 110 ∷ runoff_of D 200 ∷ []) ≡ (150 ∷ 6600 ∷ 32400 ∷ [])
