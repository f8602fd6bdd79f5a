-- `job::fault_span` meets its contract: the part is the one that the reading points to.
-- Assumes nothing.
use mathlib.Core.Path.{sym}
use borrow.Author.Rules.{rules}
use denote.Enum.Bare.{same_true, same_false}
use Rattle.refusal.specs.contracts.Refusal.{the_type}
use Rattle.job.proofs.Faults.{fault_other, fault_malformed}
use Rattle.job.proofs.fault_span.Goals as goal

pub returns-in-Err : goal.returns-in-Err
returns-in-Err c =
    let one = same_true the_type (search rules) _ _ (sym c.if-eq.ensures) in
    rw c.line_span.ensures (fault_malformed _ c.read.ensures c.in-Err.is one)

pub returns-in_default : goal.returns-in_default
returns-in_default c =
    fault_other _ c.read.ensures c.in-Err.is (same_false the_type _ _ (sym c.if-eq.ensures))
