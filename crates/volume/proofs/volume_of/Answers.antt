-- `volume::volume_of` meets its contract: the tests that led to each answer are the definition's.
-- Assumes nothing.
use Rattle.std.proofs.Common.{rules}
use Rattle.volume.proofs.Answered.{volume_crowded, volume_off_grid, volume_past, volume_granted}
use Rattle.volume.proofs.volume_of.Goals as goal

pub returns-then-not-within_limit : goal.returns-then-not-within_limit
returns-then-not-within_limit c = search (volume_crowded, rules)

pub returns-then-depth-gt-HIGHEST : goal.returns-then-depth-gt-HIGHEST
returns-then-depth-gt-HIGHEST c = search (volume_off_grid, rules)

pub returns-then-not-within_largest : goal.returns-then-not-within_largest
returns-then-not-within_largest c = search (volume_past, rules)

pub returns : goal.returns
returns c = search (volume_granted, rules)
