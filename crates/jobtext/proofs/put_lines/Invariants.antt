-- `jobtext::put_lines` meets its contract: behind the first six lines, with each turn the line of one sub-area more stands behind the others.
-- Assumes nothing.
use mathlib.Core.Path.{◌≡◌}
use lib.ListN.{take}
use Rattle.writing.specs.Writer.{so_far, all_added}
use Rattle.jobtext.specs.Inner.{areas_fields}
use Rattle.jobtext.proofs.put_lines.Given as goal

abbrev pub invariant-loop-part : goal.invariant-loop-part
invariant-loop-part l = record {
  same : l.out.buf.ghost_name ≡ l.initial.out.buf.ghost_name;
  value : so_far l.out ≡ all_added (so_far l.initial.out) (areas_fields (take l.part-index l.parts));
}
