-- `probe::within_most` meets its contract: its test is the definition's.
-- Assumes nothing.
use native.Mathlib.Omega.{arith}
use Rattle.probe.proofs.Parts.{refused_past}
use Rattle.probe.proofs.within_most.Goals as goal

pub returns : goal.returns
returns c = refused_past c.args.hundredths (omega arith)
