-- `volume::depth_of` meets its contract: the tests that led to each answer are the definition's.
-- Assumes nothing.
use Rattle.std.proofs.Common.{rules}
use Rattle.volume.proofs.Answered.{depth_crowded, depth_too_large, depth_past, depth_granted}
use Rattle.volume.proofs.depth_of.Goals as goal

pub returns-then-not-within_limit : goal.returns-then-not-within_limit
returns-then-not-within_limit c = search (depth_crowded, rules)

pub returns-then-volume-gt-LARGEST : goal.returns-then-volume-gt-LARGEST
returns-then-volume-gt-LARGEST c = search (depth_too_large, rules)

pub returns-then-not-within_largest : goal.returns-then-not-within_largest
returns-then-not-within_largest c = search (depth_past, rules)

pub returns : goal.returns
returns c = search (depth_granted, rules)
