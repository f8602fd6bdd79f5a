-- `probe::Scale::of_parts` meets its contract: each answer is a law on the power of two that led there.
-- Assumes nothing.
use native.Mathlib.Omega.{arith}
use Rattle.probe.proofs.Parts.{scaled, too_fast, too_faint, product_fits, shifted_positive, counted}
use Rattle.probe.proofs.Scale.of_parts.Goals as goal

pub returns-then-twos-ge-FINEST : goal.returns-then-twos-ge-FINEST
returns-then-twos-ge-FINEST c = too_fast (scaled c.args.self) c.requires (omega arith)

pub returns-then-halvings-ge-FAINT : goal.returns-then-halvings-ge-FAINT
returns-then-halvings-ge-FAINT c = too_faint (scaled c.args.self) c.requires (omega arith) (omega arith) c.within_most.ensures

pub overflow_mul-from : goal.overflow_mul-from
overflow_mul-from c = rw c.from.ensures (product_fits (scaled c.args.self) c.requires)

pub rounded-requires : goal.rounded-requires
rounded-requires c = shifted_positive (scaled c.args.self) (omega arith)

pub returns : goal.returns
returns c =
    counted (scaled c.args.self) c.requires (omega arith) (omega arith) c.from.ensures c.rounded.ensures c.within_most-2.ensures
