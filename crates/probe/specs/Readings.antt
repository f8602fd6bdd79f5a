-- Rules, "Probe readings": the exact value of a reading becomes a rate in hundredths of an inch per hour.
-- Assumes nothing.
use Rattle.units.specs.declared.Rate.{Rate}
use Rattle.refusal.specs.declared.Refusal.{Refusal}
use Rattle.std.specs.Prelude.{ℕ, ◌+◌, ◌-◌, ◌*◌, ◌/◌, ◌%◌, cond, ◌&&◌, leb, ltb, Float, Result, Ok, Err}
use Rattle.std.specs.Float.{nan, inf, fin}
use Rattle.std.specs.Float.Ieee.{up, down}
use Rattle.refusal.specs.declared.Refusal.TheVariants.{ReadingNotARate, ReadingTooFast}
use Rattle.refusal.specs.Refusal.{number_of, granted}
use Rattle.units.specs.Limits.{most_rate}
use Rattle.probe.specs.declared.Reading.{Reading}
use Rattle.probe.specs.declared.Reading.TheVariants.{InchesPerHour, MillimetresPerHour}

-- the whole number that n / d hundredths become: n / d rounded down, and one more where the next number is nearer, so that an exact
-- half goes down
unfoldable pub rounded : ℕ → ℕ → ℕ
rounded n d = cond (ltb (d - n % d) (n % d)) (n / d + 1) (n / d)

-- what was rounded is the rate, and is refused 12 where it is over the largest
unfoldable pub within_most : ℕ → Result Rate Refusal
within_most h = cond (leb h most_rate) (Ok (record { 0 = h })) (Err ReadingTooFast)

-- The answer to a float whose `units` are so many `hundredths` of an inch. A float is not a number, or infinite, or m * 2 ^ e with a
-- sign, and 2 ^ e is the fraction up e / down e. Below zero it is where there is a minus sign before an m above 0, so -0 counts as zero.
unfoldable pub answer_in : ℕ → ℕ → Float → Result Rate Refusal
answer_in hundredths units nan = Err ReadingNotARate
answer_in hundredths units (inf minus) = Err ReadingNotARate
answer_in hundredths units (fin minus m e) =
    cond (minus && ltb 0 m) (Err ReadingNotARate) (within_most (rounded (m * up e * hundredths) (down e * units)))

-- 100 hundredths of an inch are 1 inch and, since an inch is 25.4 mm, 1,000 are 254 mm
abbrev pub rate_of : Reading → Result Rate Refusal
rate_of (InchesPerHour x) = answer_in 100 1 x
rate_of (MillimetresPerHour x) = answer_in 1_000 254 x

-- the rules' number and value: a refusal's value is 0
abbrev pub given : Result Rate Refusal → ℕ × ℕ
given (Ok r) = (granted, r.0)
given (Err r) = (number_of r, 0)
