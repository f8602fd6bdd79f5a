-- A straight line between two points, in whole numbers.
-- Assumes nothing.
use Rattle.std.specs.Prelude.{ℕ, ◌+◌, ◌-◌, ◌*◌}

-- the height at x of the straight line from (x₀, y₀) to (x₁, y₁), times the width x₁ - x₀
abbrev pub line : ℕ → ℕ → ℕ → ℕ → ℕ → ℕ
line x₀ y₀ x₁ y₁ x = (x₁ - x) * y₀ + (x - x₀) * y₁
