-- What only proofs ask of one another: nobody need read it to believe the promises.
-- Assumes nothing.
use Rattle.std.specs.Prelude.{◌≤◌, List, ◌≡◌, length}
use Rattle.units.specs.declared.Area.{Area}
use Rattle.units.specs.Limits.{most_area}
use Rattle.volume.specs.Areas.{total_of}

-- What is known of the six areas of a site.
pub record Six (xs : List Area) : Type 0 where
  pub six : length xs ≡ 6
  pub small : total_of xs ≤ most_area
