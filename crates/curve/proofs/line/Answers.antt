-- `curve::line` meets its contract: each product is at most 10,000 widths of the largest height, so their sum fits.
-- Assumes nothing.
use native.Mathlib.Nat.{lt_of_le_of_lt}
use native.Mathlib.Omega.{arith}
use lib.Dec.{lit<}
use Rattle.curve.proofs.Fits.{first_part, second_part}
use Rattle.curve.proofs.line.Goals as goal

pub overflow_mul-result : goal.overflow_mul-result
overflow_mul-result c = record { fits = lt_of_le_of_lt (first_part c.requires) (lit< tt) }

pub overflow_mul-result-2 : goal.overflow_mul-result-2
overflow_mul-result-2 c = record { fits = lt_of_le_of_lt (second_part c.requires) (lit< tt) }

pub overflow_add-result : goal.overflow_add-result
overflow_add-result c =
    let p = first_part c.requires in
    let q = second_part c.requires in
    omega arith
