-- What only private functions ask of one another: nobody need read it to believe the promises.
-- Assumes nothing.
use Rattle.units.specs.declared.Rate.{Rate}
use Rattle.refusal.specs.declared.Refusal.{Refusal}
use Rattle.std.specs.Prelude.{ℕ, ◌*◌, ◌^◌, ◌≤◌, ◌<◌, Result}
use Rattle.std.specs.Float.{binary32}
use Rattle.std.specs.Float.Ieee.{prec, low, hid}
use Rattle.probe.specs.Readings.{rounded, within_most}

-- a float's digits and the power of two that they are multiplied by: a large float has its leading digit
pub record Parts (digits twos : ℕ) : Type 0 where
  pub short : digits < 2 ^ prec binary32
  pub leads : 0 < twos → hid binary32 ≤ digits

-- the answer to the value digits * 2 ^ twos in units of the smallest float above zero, which is 1 / 2 ^ low binary32
unfoldable pub parts_answer : ℕ → ℕ → ℕ → ℕ → Result Rate Refusal
parts_answer hundredths units digits twos = within_most (rounded (digits * 2 ^ twos * hundredths) (2 ^ low binary32 * units))
