-- `probe::rounded` meets its contract: its test is the definition's.
-- Assumes nothing.
use native.Mathlib.Nat.{le_of_lt, mod-lt}
use native.Mathlib.Omega.{arith}
use borrow.Author.Rules.{rules}
use Rattle.probe.proofs.Rounding.{goes_up, stays_down, next_fits}
use Rattle.probe.proofs.rounded.Goals as goal

pub overflow_sub-d : goal.overflow_sub-d
overflow_sub-d c = search (le_of_lt, mod-lt, rules)

pub overflow_add-result : goal.overflow_add-result
overflow_add-result c = next_fits c.ranges.n c.requires (omega arith)

pub returns-then-d-rest : goal.returns-then-d-rest
returns-then-d-rest c = goes_up c.args.n c.args.d (omega arith)

pub returns : goal.returns
returns c = stays_down c.args.n c.args.d (omega arith)
