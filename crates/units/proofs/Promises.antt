-- The promise of a depth, proved.
-- Assumes nothing.
use borrow.Author.Tests.{le-leb, lt-leb}
use Rattle.units.specs.Limits.{highest_depth}
use Rattle.units.specs.Promises.{OnGridExactly}

pub on_grid_exactly : OnGridExactly
on_grid_exactly h = (λ l. simp (le-leb h highest_depth l), λ l. simp (lt-leb h highest_depth l))
