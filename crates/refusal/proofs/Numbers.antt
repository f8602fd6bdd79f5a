-- The numbers of the refusals.
-- Assumes nothing.
use Prim.Native.Nat.{◌<◌, ◌^◌}
use mathlib.Core.Path.{◌≡◌}
use native.Mathlib.Omega.{arith}
use lib.Dec.{lit<}
use Rattle.refusal.specs.declared.Refusal.{Refusal}
use Rattle.refusal.specs.declared.Refusal.TheVariants as refused
use Rattle.refusal.specs.Refusal.{number_of, granted}

-- the number of a refusal is none of a granted answer, and has at most two digits
pub number_range : (why : Refusal) → (granted < number_of why) × (number_of why < 10 ^ 2)
number_range refused.MalformedText = (lit< tt, lit< tt)
number_range refused.UnfitSubArea = (lit< tt, lit< tt)
number_range refused.TotalAreaPassed = (lit< tt, lit< tt)
number_range refused.NoPublishedSheet = (lit< tt, lit< tt)
number_range refused.UnfitSheet = (lit< tt, lit< tt)
number_range refused.RateOutOfRange = (lit< tt, lit< tt)
number_range refused.RateBelowSheet = (lit< tt, lit< tt)
number_range refused.NoImperviousArea = (lit< tt, lit< tt)
number_range refused.AmountOutOfRange = (lit< tt, lit< tt)
number_range refused.TargetUnreachable = (lit< tt, lit< tt)
number_range refused.ReadingNotARate = (lit< tt, lit< tt)
number_range refused.ReadingTooFast = (lit< tt, lit< tt)
number_range refused.BufferTooShort = (lit< tt, lit< tt)
number_range refused.SiteFull = (lit< tt, lit< tt)
number_range refused.PastLargest = (lit< tt, lit< tt)
number_range refused.NumberNotHeld = (lit< tt, lit< tt)
number_range refused.NumbersSpent = (lit< tt, lit< tt)

pub refusal_not_granted : (why : Refusal) → number_of why ≡ granted → ⊥
refusal_not_granted why e = let r = (number_range why).0 in omega arith
