-- Rules, "Probe readings": what a reader is to believe of a reading's rate beyond its definition.
-- Assumes nothing.
use Rattle.units.specs.declared.Rate.{Rate}
use Rattle.refusal.specs.declared.Refusal.{Refusal}
use Rattle.std.specs.Prelude.{◌≡◌, ◌↔◌, Bool, true, false, ℕ, ◌+◌, ◌*◌, ◌≤◌, ◌<◌, pos, T, Float, Result}
use Rattle.std.specs.Float.{nan, inf, fin}
use Rattle.std.specs.Float.Ieee.{up, down, lt, le}
use Rattle.refusal.specs.declared.Refusal.TheVariants.{ReadingNotARate, ReadingTooFast}
use Rattle.refusal.specs.Refusal.{number_of, granted}
use Rattle.units.specs.Limits.{most_rate}
use Rattle.probe.specs.declared.Reading.{Reading}
use Rattle.probe.specs.declared.Reading.TheVariants.{InchesPerHour, MillimetresPerHour}
use Rattle.probe.specs.Readings.{rounded, rate_of, given}

-- two readings of the same unit, the second at least as large as the first
abbrev pub up_to : Reading → Reading → Bool
up_to (InchesPerHour x) (InchesPerHour y) = le x y
up_to (InchesPerHour x) (MillimetresPerHour y) = false
up_to (MillimetresPerHour x) (InchesPerHour y) = false
up_to (MillimetresPerHour x) (MillimetresPerHour y) = le x y

-- r is the whole number nearest to n / d, an exact half going down: r less a half is below n / d, and n / d is at most r and a half
abbrev pub Nearest : ℕ → ℕ → ℕ → Type 0
Nearest n d r = (r * 2 * d < n * 2 + d) × (n * 2 ≤ (r * 2 + 1) * d)

-- What n / d is rounded to is the nearest whole number, an exact half going down,
abbrev pub RoundsToNearest : Type 0
RoundsToNearest = (n d : ℕ) → 0 < d → Nearest n d (rounded n d)

-- and no other number is. Whoever believes these two need not read how it is found.
abbrev pub OnlyNearest : Type 0
OnlyNearest = (n d r : ℕ) → 0 < d → Nearest n d r → r ≡ rounded n d

-- a float that is not a number, infinite, or below zero by comparison; minus zero is not
abbrev pub not_a_rate : Float → Bool
not_a_rate nan = true
not_a_rate (inf minus) = true
not_a_rate (fin minus m e) = lt (fin minus m e) (fin false 0 (pos 0))

-- a is the nearest hundredth of an inch per hour to a float of which so many `units` are so many `hundredths`. The float is a number from
-- zero up, and its exact value is m * 2 ^ e, where 2 ^ e is the fraction up e / down e.
abbrev pub NearestIn : ℕ → ℕ → Float → ℕ → Type 0
NearestIn hundredths units nan a = ⊥
NearestIn hundredths units (inf minus) a = ⊥
NearestIn hundredths units (fin minus m e) a =
    (not_a_rate (fin minus m e) ≡ false) × Nearest (m * up e * hundredths) (down e * units) a

-- An answer to such a float: the rate a is granted exactly where it is the nearest hundredth and at most 10,000; 11 is given exactly
-- where the float is not a number, infinite or below zero, and 12 exactly where its nearest hundredth is above 10,000.
pub record ByNearest (hundredths units : ℕ) (x : Float) (answer : Result Rate Refusal) : Type 0 where
  pub granted_exactly : (a : ℕ) → (given answer ≡ (granted, a)) ↔ (NearestIn hundredths units x a × (a ≤ most_rate))
  pub not_a_rate_exactly : (given answer ≡ (number_of ReadingNotARate, 0)) ↔ (not_a_rate x ≡ true)
  pub too_fast_exactly : (given answer ≡ (number_of ReadingTooFast, 0)) ↔ ((a : ℕ) × NearestIn hundredths units x a × (most_rate < a))

-- A reading of either unit is so answered: 1 inch is 100 hundredths and, since an inch is 25.4 mm, 254 mm are 10 inches.
abbrev pub NearestGivenBack : Type 0
NearestGivenBack =
    (x : Float) → ByNearest 100 1 x (rate_of (InchesPerHour x)) × ByNearest (10 * 100) 254 x (rate_of (MillimetresPerHour x))

-- A larger finite reading of the same unit never gives a smaller rate.
abbrev pub NeverFalls : Type 0
NeverFalls =
    (r t : Reading) (a b : ℕ) → T (up_to r t) → given (rate_of r) ≡ (granted, a) → given (rate_of t) ≡ (granted, b) → a ≤ b

-- Nor is a reading granted that is larger than one of the same unit that is too fast.
abbrev pub StaysTooFast : Type 0
StaysTooFast =
    (r t : Reading) (b : ℕ) → T (up_to r t) → given (rate_of r) ≡ (number_of ReadingTooFast, 0) → given (rate_of t) ≡ (granted, b) → ⊥
