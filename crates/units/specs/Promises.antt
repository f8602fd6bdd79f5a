-- Rules, "Units, all whole numbers": what is promised of a depth.
-- Assumes nothing.
use Rattle.std.specs.Prelude.{ℕ, ◌≤◌, ◌<◌, ◌≡◌}
use Rattle.refusal.specs.declared.Refusal.TheVariants.{AmountOutOfRange}
use Rattle.refusal.specs.Refusal.{number_of, granted}
use Rattle.units.specs.Limits.{highest_depth}
use Rattle.units.specs.Depths.{on_grid, given}

-- Each number up to 200 is granted, as the depth that it is; a call that is given one above 200 answers 9.
abbrev pub OnGridExactly : Type 0
OnGridExactly =
    (h : ℕ)
    → (h ≤ highest_depth → given (on_grid h) ≡ (granted, h))
    × (highest_depth < h → given (on_grid h) ≡ (number_of AmountOutOfRange, 0))
