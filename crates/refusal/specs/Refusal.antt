-- Rules, "The numbers given back": the number of each refusal. 0 is kept for a granted answer.
-- Assumes nothing.
use Rattle.std.specs.Prelude.{ℕ, List, ◌++◌, codes, decimal}
use Rattle.refusal.specs.declared.Refusal.{Refusal}
use Rattle.refusal.specs.declared.Refusal.TheVariants as refused

abbrev pub number_of : Refusal → ℕ
number_of refused.MalformedText = 1
number_of refused.UnfitSubArea = 2
number_of refused.TotalAreaPassed = 3
number_of refused.NoPublishedSheet = 4
number_of refused.UnfitSheet = 5
number_of refused.RateOutOfRange = 6
number_of refused.RateBelowSheet = 7
number_of refused.NoImperviousArea = 8
number_of refused.AmountOutOfRange = 9
number_of refused.TargetUnreachable = 10
number_of refused.ReadingNotARate = 11
number_of refused.ReadingTooFast = 12
number_of refused.BufferTooShort = 13
number_of refused.SiteFull = 14
number_of refused.PastLargest = 15
number_of refused.NumberNotHeld = 16
number_of refused.NumbersSpent = 17

-- what a granted answer gives in the place of a number
abbrev pub granted : ℕ
granted = 0

-- a refusal as it is displayed
abbrev pub text_of : Refusal → List ℕ
text_of why = codes "refused " ++ decimal (number_of why)
