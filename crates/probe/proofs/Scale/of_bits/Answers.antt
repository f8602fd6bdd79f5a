-- `probe::Scale::of_bits` meets its contract: each answer is a law on the patterns that led there.
-- Assumes nothing.
use native.Mathlib.Omega.{arith}
use Rattle.probe.proofs.Parts.{scaled}
use Rattle.probe.proofs.Patterns.{below_zero, minus_zero, not_finite, no_exponent, an_exponent}
use Rattle.probe.proofs.Scale.of_bits.Goals as goal

pub returns-then-bits-gt-MINUS_ZERO : goal.returns-then-bits-gt-MINUS_ZERO
returns-then-bits-gt-MINUS_ZERO c = below_zero (scaled c.args.self) c.ranges.bits (omega arith)

pub returns-then-bits-eq-MINUS_ZERO : goal.returns-then-bits-eq-MINUS_ZERO
returns-then-bits-eq-MINUS_ZERO c = minus_zero (scaled c.args.self) c.if-bits-eq-MINUS_ZERO.true

pub returns-then-bits-ge-INFINITE : goal.returns-then-bits-ge-INFINITE
returns-then-bits-ge-INFINITE c = not_finite (scaled c.args.self) c.if-bits-gt-MINUS_ZERO.false c.if-bits-eq-MINUS_ZERO.false (omega arith)

pub returns-then-exponent-eq0 : goal.returns-then-exponent-eq0
returns-then-exponent-eq0 c =
    no_exponent (scaled c.args.self) (omega arith) c.if-exponent-eq0.true c.of_parts.ensures

pub returns : goal.returns
returns c =
    an_exponent (scaled c.args.self) (omega arith) c.if-exponent-eq0.false c.of_parts-2.ensures
