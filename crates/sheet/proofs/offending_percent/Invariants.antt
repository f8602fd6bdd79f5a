-- `sheet::offending_percent` meets its contract: it walks over the rows as far as every number is in step.
-- Assumes nothing.
use Rattle.std.specs.Iterator.Adapters.{enumerate_source, enumerate_count}
use Rattle.std.specs.Slice.Iter.{chunks_exact_rest, chunks_exact_size}
use Rattle.std.proofs.Common.{◌≡◌}
use Rattle.units.specs.Limits.{most_percent}
use Rattle.sheet.proofs.Carrying.{Rowed}
use Rattle.sheet.proofs.offending_percent.Given as goal

abbrev pub invariant-loop-j : goal.invariant-loop-j
invariant-loop-j l =
    (goal.iterator-loop-j).can_next l.j-iterator × (goal.iterator-loop-j).is_finite l.j-iterator
    × (chunks_exact_size (enumerate_source l.j-iterator) ≡ l.n)
    × Rowed l.percents l.n 0 most_percent (enumerate_count l.j-iterator) (chunks_exact_rest (enumerate_source l.j-iterator))
