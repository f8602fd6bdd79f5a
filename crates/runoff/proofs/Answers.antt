-- The answers of the look-up, case by case.
-- Assumes nothing.
use Rattle.std.specs.Prelude.{Result, Ok, Err}
use Rattle.runoff.specs.declared.RunoffDepth.{RunoffDepth}
use Rattle.refusal.specs.declared.Refusal.{Refusal}
use Prim.Native.Nat.{ℕ, ◌≤◌, ◌<◌}
use mathlib.Core.List.{List}
use mathlib.Core.Logic.{⊎_elim}
use mathlib.Core.Path.{◌≡◌, ◌∙◌}
use lib.ListN.{get_or}
use borrow.Author.Tests.{le-leb, lt-leb}
use Rattle.laws.proofs.Order.{lt_or_le}
use Rattle.refusal.specs.declared.Refusal.TheVariants.{AmountOutOfRange}
use Rattle.units.specs.declared.Column.{Column}
use Rattle.units.specs.declared.Depth.{Depth}
use Rattle.units.specs.Limits.{highest_depth}
use Rattle.runoff.specs.Runoff.{entry_place, entry_of, runoff_sheet, runoff_answer}
use Rattle.runoff.proofs.LineRule.{sheet_at}

pub entry_granted : (sheet : List ℕ) (c : Column) (d : Depth) (at x : ℕ) → d.0 ≤ highest_depth → at ≡ entry_place c d.0
    → x ≡ get_or sheet at 0 → Ok (record { 0 = x }) ≡ entry_of sheet c d
entry_granted sheet c d at x h p q = simp (le-leb d.0 highest_depth h, q, p)

pub entry_refused : (sheet : List ℕ) (c : Column) (d : Depth) → highest_depth < d.0 → Err AmountOutOfRange ≡ entry_of sheet c d
entry_refused sheet c d h = simp (lt-leb d.0 highest_depth h)

-- On the constant sheet the entry is the runoff by the line rule.
pub entry_of_sheet : (sheet : List ℕ) (c : Column) (d : Depth) (r : Result RunoffDepth Refusal) → sheet ≡ runoff_sheet → r ≡ entry_of sheet c d → r ≡ runoff_answer c d
entry_of_sheet sheet c d r e found =
    found ∙
    ⊎_elim
    (λ (h : highest_depth < d.0). simp (lt-leb d.0 highest_depth h))
    (λ (h : d.0 ≤ highest_depth). simp (le-leb d.0 highest_depth h, e, sheet_at c d.0 h))
    (lt_or_le highest_depth d.0)
