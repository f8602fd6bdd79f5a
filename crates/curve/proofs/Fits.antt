-- The numbers of a line fit.
-- Assumes nothing.
use Prim.Native.Nat.{ℕ, ◌-◌, ◌*◌, ◌≤◌}
use native.Mathlib.Nat.{mul-le-mul}
use native.Mathlib.Omega.{arith}
use Rattle.units.specs.Limits.{most_rate}
use Rattle.curve.specs.Inner.{most_height, OnLine}

module _ {x₀ y₀ x₁ y₁ x : ℕ} (p : OnLine x₀ y₀ x₁ y₁ x) where
  -- the largest height of a line: a width of rates times a height
  pub first_part : (x₁ - x) * y₀ ≤ most_rate * most_height
  first_part =
      let s = p.short in
      let w : x₁ - x ≤ most_rate = omega arith in
      mul-le-mul w p.low

  pub second_part : (x - x₀) * y₁ ≤ most_rate * most_height
  second_part =
      let s = p.short in
      let t = p.to in
      let w : x - x₀ ≤ most_rate = omega arith in
      mul-le-mul w p.high
