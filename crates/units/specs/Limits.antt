-- Rules, "Units, all whole numbers": each limit by its name.
-- Assumes nothing.
use Rattle.std.specs.Prelude.{ℕ, ◌+◌, ◌^◌}

-- the largest volume and the largest load
abbrev pub largest : ℕ
largest = 10 ^ 13

-- the largest sub-area, and the largest total of a site
abbrev pub most_area : ℕ
most_area = 1_000_000

abbrev pub most_rate : ℕ
most_rate = 10_000

abbrev pub most_percent : ℕ
most_percent = 100_000

-- the grid of depths
abbrev pub lowest_depth : ℕ
lowest_depth = 0

abbrev pub highest_depth : ℕ
highest_depth = 200

-- how many depths the grid has
abbrev pub grid_depths : ℕ
grid_depths = highest_depth + 1
