-- Laws of the runoff sheet: the line rule at each entry, never falling with depth, at most 32,400.
-- Assumes nothing.
use Prim.Native.Nat.{ℕ, suc, ◌+◌, ◌*◌, ◌/◌, ◌%◌, ◌≤◌, ◌<◌}
use mathlib.Core.Bool.{Bool, true, false, cond}
use mathlib.Core.Path.{◌≡◌, refl, sym, ◌∙◌, ap}
use native.Mathlib.Nat.{mul-add-div_right, mul-add-mod_self_right, div-eq_of_lt, mod-eq_of_lt, add-zero, add-suc}
use native.Mathlib.Omega.{arith}
use lib.Dec.{eqb, leb, lit<}
use lib.ListN.{get_or}
use borrow.Author.Tests.{leb-true, ne_eqb}
use Rattle.laws.proofs.Table.{every, carry, rises, length_table, table_at}
use Rattle.laws.specs.Table.{values_from}
use Rattle.units.proofs.Columns.{place_most}
use Rattle.units.specs.declared.Column.{Column}
use Rattle.units.specs.Columns.{column_place}
use Rattle.units.specs.Limits.{highest_depth, grid_depths}
use Rattle.runoff.specs.Runoff.{by_rows, from_row, runoff_of, sheet_entry, sheet_length, runoff_sheet, entry_place}

-- The entry at a column and a depth of the grid is the line rule there.
entry_rule : (c : Column) (d : ℕ) → d ≤ highest_depth → sheet_entry (entry_place c d) ≡ runoff_of c d
unfolding runoff_of
entry_rule c d h =
    let q : entry_place c d / grid_depths ≡ column_place c =
    mul-add-div_right (lit< tt) (column_place c) d ∙ ap (λ (n : ℕ). column_place c + n) (div-eq_of_lt (omega arith)) ∙ add-zero (column_place c) in
    let r : entry_place c d % grid_depths ≡ d = mul-add-mod_self_right (column_place c) grid_depths d ∙ mod-eq_of_lt (omega arith) in
    rw (q, r)

-- Each column and depth of the grid has its place in the sheet.
pub place_in_sheet : (c : Column) (d : ℕ) → d ≤ highest_depth → entry_place c d < sheet_length
place_in_sheet c d h =
    let p = place_most c in
    omega arith

-- The sheet has the runoff of each column at each depth of the grid, by the line rule.
pub sheet_at : (c : Column) (d : ℕ) → d ≤ highest_depth → get_or runoff_sheet (entry_place c d) 0 ≡ runoff_of c d
unfolding runoff_sheet
sheet_at c d h = table_at sheet_entry sheet_length (entry_place c d) (place_in_sheet c d h) ∙ entry_rule c d h

-- A computed test of the whole sheet, carried to the entry of a column and a depth.
carried : (test : ℕ → ℕ → Bool) → every test runoff_sheet ≡ true → (c : Column) (d : ℕ) → d ≤ highest_depth → test (entry_place c d) (runoff_of c d) ≡ true
unfolding runoff_sheet
carried test t c d h =
    rw (sheet_at c d h) at
    (carry test runoff_sheet t (entry_place c d) (rw (length_table sheet_entry sheet_length) (place_in_sheet c d h)))

none_above : every (λ k x. leb x 32_400) runoff_sheet ≡ true
unfolding runoff_sheet values_from by_rows from_row
none_above = refl

-- Runoff is at most 32,400.
pub runoff_most : (c : Column) (d : ℕ) → d ≤ highest_depth → runoff_of c d ≤ 32_400
runoff_most c d h = leb-true _ _ (carried (λ k x. leb x 32_400) none_above c d h)

-- each entry but a column's last is at most the next
rising : ℕ → ℕ → Bool
rising k x = cond (eqb (k % grid_depths) highest_depth) true (leb x (sheet_entry (suc k)))

none_falls : every rising runoff_sheet ≡ true
unfolding runoff_sheet values_from by_rows from_row rising
none_falls = refl

next : (c : Column) (d : ℕ) → d < highest_depth → runoff_of c d ≤ runoff_of c (suc d)
unfolding rising
next c d h =
    let r : entry_place c d % grid_depths ≡ d = mul-add-mod_self_right (column_place c) grid_depths d ∙ mod-eq_of_lt (omega arith) in
    let l : eqb d highest_depth ≡ false = ne_eqb d highest_depth (λ e. omega arith) in
    let t : leb (runoff_of c d) (sheet_entry (suc (entry_place c d))) ≡ true =
    simp (r, l) at (carried rising none_falls c d (omega arith)) in
    let m : sheet_entry (suc (entry_place c d)) ≡ runoff_of c (suc d) =
    ap sheet_entry (sym (add-suc (column_place c * grid_depths) d)) ∙ entry_rule c (suc d) h in
    rw m at (leb-true (runoff_of c d) (sheet_entry (suc (entry_place c d))) t)

-- Runoff never falls with depth.
pub runoff_rises : (c : Column) (d e : ℕ) → d ≤ e → e ≤ highest_depth → runoff_of c d ≤ runoff_of c e
runoff_rises c d e h k = rises (runoff_of c) highest_depth (next c) d e h k
