-- `answer::refused_size` meets its contract: the keys and line ends of the two lines are 14 bytes.
-- Assumes nothing.
use Prim.Native.Nat.{ℕ}
use mathlib.Core.Path.{ap}
use native.Mathlib.Omega.{arith}
use lib.ListN.{length}
use Rattle.text.specs.Numbers.{decimal_of}
use Rattle.answer.proofs.Texts.{refused_length}
use Rattle.answer.proofs.refused_size.Goals as goal

pub returns : goal.returns
returns c =
    let start = c in
    let all = refused_length start.args.why start.args.line in
    let number = ap (λ (n : ℕ). length (decimal_of n)) c.number.ensures in
    omega arith
