-- Rules, "Job and answer text": what is promised of numbers as text, as statements that proofs/Decimal.antt proves.
-- Assumes nothing.
use Rattle.std.specs.Prelude.{ℕ, ◌^◌, ◌<◌, ◌≡◌, Some}
use Rattle.text.specs.Numbers.{most_digits, numeral_of, decimal_of}

-- A number of at most 14 digits that is written reads back as itself.
abbrev pub WrittenReadsBack : Type 0
WrittenReadsBack = (n : ℕ) → n < 10 ^ most_digits → numeral_of (decimal_of n) ≡ Some n
