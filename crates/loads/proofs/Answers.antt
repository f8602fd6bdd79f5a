-- Laws of the answers: each by the tests that lead to it.
-- Assumes nothing.
use Rattle.std.specs.Prelude.{Ok, Err}
use Prim.Native.Nat.{ℕ, ◌*◌, ◌≤◌, ◌<◌}
use mathlib.Core.Path.{◌≡◌}
use native.Mathlib.Nat.{mul-le-mul, lt_of_le_of_lt, mul-le-mul_left, div-le_of_le-mul, mul_comm}
use lib.Dec.{lit<}
use borrow.Author.Tests.{le-leb, lt-leb}
use mir.Syntax.{w64}
use mir.Val.{Fits}
use Rattle.laws.proofs.Quotient.{floor_mono}
use Rattle.refusal.specs.declared.Refusal.TheVariants.{AmountOutOfRange, PastLargest}
use Rattle.units.specs.Limits.{largest, most_percent}
use Rattle.loads.specs.Loads.{within_largest, removed_of, removed_answer}

pub load_granted : (load : ℕ) → load ≤ largest → Ok (record { 0 = load }) ≡ within_largest load
load_granted load h = simp (le-leb _ _ h)

pub load_past : (load : ℕ) → largest < load → Err PastLargest ≡ within_largest load
load_past load h = simp (lt-leb _ _ h)

module _ (load percent : ℕ) where
  pub percent_out : most_percent < percent → Err AmountOutOfRange ≡ removed_answer load percent
  unfolding removed_answer
  percent_out h = simp (lt-leb _ _ h)

  pub removed_past : percent ≤ most_percent → largest < load → Err PastLargest ≡ removed_answer load percent
  unfolding removed_answer
  removed_past h l = simp (le-leb _ _ h, lt-leb _ _ l)

  -- A load and a percent within their limits have a removed load.
  pub removed_granted : percent ≤ most_percent → load ≤ largest
      → Ok (record { 0 = removed_of load percent }) ≡ removed_answer load percent
  unfolding removed_answer
  removed_granted h l = simp (le-leb _ _ h, le-leb _ _ l)

  pub removed_fits : percent ≤ most_percent → load ≤ largest → Fits w64 (load * percent)
  removed_fits h l = record { fits = lt_of_le_of_lt (mul-le-mul l h) (lit< tt) }

-- No more is removed than is there.
pub removed_le : (load percent : ℕ) → percent ≤ most_percent → removed_of load percent ≤ load
removed_le load percent h = div-le_of_le-mul most_percent (rw (mul_comm most_percent load) (mul-le-mul_left load h))

-- A higher percent never removes less.
pub removed_mono : (load percent other : ℕ) → percent ≤ other → removed_of load percent ≤ removed_of load other
removed_mono load percent other h = floor_mono most_percent (lit< tt) (mul-le-mul_left load h)
