-- Rules, "Probe readings": the readings that are told there, exact halves, and the edges of what is granted, by computation of the
-- definitions. A float is written as it is, m * 2 ^ e, or by its bits.
-- Assumes nothing.
use mathlib.Core.Path.{◌≡◌, refl}
use mathlib.Core.Bool.{true, false}
use Prim.Native.Nat.{ℕ}
use lib.IntN.{pos, negsuc}
use lib.Ieee.{nan, inf, fin, binary32, of_bits}
use Rattle.probe.specs.declared.Reading.TheVariants.{InchesPerHour, MillimetresPerHour}
use Rattle.probe.specs.Readings.{rounded, within_most, answer_in, rate_of, given}

-- 0.25, which is 1 / 2 ^ 2
pub quarter_inch : given (rate_of (InchesPerHour (fin false 1 (negsuc 1)))) ≡ (0, 25)
unfolding rounded within_most answer_in
quarter_inch = refl

-- 0.5, which is 1 / 2 ^ 1
pub half_inch : given (rate_of (InchesPerHour (fin false 1 (negsuc 0)))) ≡ (0, 50)
unfolding rounded within_most answer_in
half_inch = refl

pub five_inches : given (rate_of (MillimetresPerHour (fin false 127 (pos 0)))) ≡ (0, 500)
unfolding rounded within_most answer_in
five_inches = refl

-- what is given back for the float of these bits, in inches and in millimetres per hour
abbrev inches : ℕ → ℕ × ℕ
inches bits = given (rate_of (InchesPerHour (of_bits binary32 bits)))

abbrev millimetres : ℕ → ℕ × ℕ
millimetres bits = given (rate_of (MillimetresPerHour (of_bits binary32 bits)))

-- A probe that shows 0.52 or 1.02 sends the float just below it, as does one that shows 12.7 mm, half an inch, or 4.318 mm, 0.17 inches.
pub shown_in_inches : (inches 0x3f05_1eb8 ≡ (0, 52)) × (inches 0x3f82_8f5c ≡ (0, 102))
unfolding rounded within_most answer_in of_bits
shown_in_inches = (refl, refl)

pub shown_in_millimetres : (millimetres 0x414b_3333 ≡ (0, 50)) × (millimetres 0x408a_2d0e ≡ (0, 17))
unfolding rounded within_most answer_in of_bits
shown_in_millimetres = (refl, refl)

-- exact halves, 0.125 inches and 15.875 mm, and the next floats
pub half_in_inches : (inches 0x3e00_0000 ≡ (0, 12)) × (inches 0x3e00_0001 ≡ (0, 13))
unfolding rounded within_most answer_in of_bits
half_in_inches = (refl, refl)

pub half_in_millimetres : (millimetres 0x417e_0000 ≡ (0, 62)) × (millimetres 0x417e_0001 ≡ (0, 63))
unfolding rounded within_most answer_in of_bits
half_in_millimetres = (refl, refl)

-- the float just below 0.005, half a hundredth, and the next one
pub half_a_hundredth : (inches 0x3ba3_d70a ≡ (0, 0)) × (inches 0x3ba3_d70b ≡ (0, 1))
unfolding rounded within_most answer_in of_bits
half_a_hundredth = (refl, refl)

-- the largest reading in inches that is granted, 100.00499725341797, the next float, and the float just below 100.01
pub largest_inches : (inches 0x42c8_028f ≡ (0, 10_000)) × (inches 0x42c8_0290 ≡ (12, 0)) × (inches 0x42c8_051e ≡ (12, 0))
unfolding rounded within_most answer_in of_bits
largest_inches = (refl, refl, refl)

-- the largest reading in millimetres that is granted, 2540.126953125, the next float, and the float just below 2540.254
pub largest_millimetres : (millimetres 0x451e_c208 ≡ (0, 10_000)) × (millimetres 0x451e_c209 ≡ (12, 0)) × (millimetres 0x451e_c410 ≡ (12, 0))
unfolding rounded within_most answer_in of_bits
largest_millimetres = (refl, refl, refl)

-- minus zero counts as zero, and so does the smallest float above it
pub minus_zero_inches : given (rate_of (InchesPerHour (fin true 0 (pos 0)))) ≡ (0, 0)
unfolding rounded within_most answer_in
minus_zero_inches = refl

pub smallest_millimetres : given (rate_of (MillimetresPerHour (fin false 1 (negsuc 148)))) ≡ (0, 0)
unfolding rounded within_most answer_in
smallest_millimetres = refl

-- the float next below zero, an infinity, and what is not a number
pub next_below_zero : given (rate_of (InchesPerHour (fin true 1 (negsuc 148)))) ≡ (11, 0)
unfolding answer_in
next_below_zero = refl

pub infinite_inches : given (rate_of (InchesPerHour (inf false))) ≡ (11, 0)
unfolding answer_in
infinite_inches = refl

pub not_a_number : given (rate_of (MillimetresPerHour nan)) ≡ (11, 0)
unfolding answer_in
not_a_number = refl
