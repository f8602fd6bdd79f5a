-- Rules, "Units, all whole numbers": a depth is on the grid, whose lowest and highest are the type's own; one above 200 is refused 9.
-- Assumes nothing.
use Rattle.refusal.specs.declared.Refusal.{Refusal}
use Rattle.units.specs.declared.Depth.{Depth}
use Rattle.std.specs.Prelude.{ℕ, cond, leb, Result, Ok, Err}
use Rattle.refusal.specs.declared.Refusal.TheVariants.{AmountOutOfRange}
use Rattle.refusal.specs.Refusal.{number_of, granted}
use Rattle.units.specs.Limits.{highest_depth}

-- no whole number is below the lowest, so the highest alone is tested
abbrev pub on_grid : ℕ → Result Depth Refusal
on_grid h = cond (leb h highest_depth) (Ok (record { 0 = h })) (Err AmountOutOfRange)

-- the rules' number and value: a refusal's value is 0
abbrev pub given : Result Depth Refusal → ℕ × ℕ
given (Ok d) = (granted, d.0)
given (Err r) = (number_of r, 0)
