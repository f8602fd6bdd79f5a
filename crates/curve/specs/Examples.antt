-- On the sheet T of Rules, "Numbers to hold on to": how its percents are found, and two refusals. Its starred numbers stand in
-- crates/credit/specs/Numbers.antt.
-- Assumes nothing.
use Rattle.std.specs.Prelude.{ℕ, [], ◌∷◌, ◌≡◌, refl, Ok}
use Rattle.laws.specs.First.{first_from}
use Rattle.sheet.specs.Sheet.{previous, in_step, lengths_fit, without_rates, offending_rate, verdict_of}
use Rattle.sheet.specs.Examples.{depths_t, rates_t, percents_t}
use Rattle.curve.specs.declared.Mode.{Mode}
use Rattle.curve.specs.declared.Mode.TheVariants.{Step, Mix}
use Rattle.curve.specs.declared.Basis.{Basis}
use Rattle.curve.specs.declared.Basis.TheVariants.{Printed, Between, Start, Held}
use Rattle.curve.specs.Curve.{height, fastest, curves_of, exact_in}
use Rattle.curve.specs.Basis.{basis_at}
use Rattle.curve.specs.Answers.{fastest_taken, rated, admission_of, PercentAnswer, percent_answer, given, reach_of, reach_given}

-- what is answered on T
abbrev pub asked_of_t : Mode → ℕ → ℕ → PercentAnswer
asked_of_t mode r d = percent_answer depths_t rates_t percents_t mode r d

-- its numbers: number, percent, basis, list and place
abbrev pub on_t : Mode → ℕ → ℕ → ℕ × ℕ × ℕ × ℕ × ℕ
on_t mode r d = given (asked_of_t mode r d)

-- number, depth, percent, basis, list and place of a target on T, step, rate 50
abbrev pub target_on_t : ℕ → ℕ × ℕ × ℕ × ℕ × ℕ × ℕ
target_on_t t = reach_given (reach_of depths_t rates_t percents_t Step 50 t)

-- 9 for a depth above 200 and for a target above 100 percent
pub past_the_grid : on_t Step 50 201 ≡ (9, 0, 0, 0, 0)
unfolding verdict_of lengths_fit offending_rate without_rates in_step previous first_from fastest curves_of fastest_taken rated admission_of percent_answer
past_the_grid = refl

pub past_all : target_on_t 100_001 ≡ (9, 0, 0, 0, 0, 0)
unfolding verdict_of lengths_fit offending_rate without_rates in_step previous first_from fastest curves_of fastest_taken rated admission_of reach_of
past_all = refl

-- a percent that is granted, with its basis
abbrev found : ℕ → Basis → PercentAnswer
found p b = Ok (record { 0 = p }, b)

-- T has the depths 20, 60 and 100 and the rates 25 and 75
pub how_found :
    -- step, rate 50
    asked_of_t Step 50 0 ∷ asked_of_t Step 50 19 ∷ asked_of_t Step 50 20 ∷ asked_of_t Step 50 21 ∷ asked_of_t Step 50 40 ∷ asked_of_t Step 50 59
    ∷ asked_of_t Step 50 60 ∷ asked_of_t Step 50 99 ∷ asked_of_t Step 50 100 ∷ asked_of_t Step 50 101 ∷ asked_of_t Step 50 200
    -- mix, rate 50
    ∷ asked_of_t Mix 50 19 ∷ asked_of_t Mix 50 20 ∷ asked_of_t Mix 50 60 ∷ asked_of_t Mix 50 100 ∷ asked_of_t Mix 50 101
    -- mix, next to a rate of the sheet, and at one or above the last
    ∷ asked_of_t Mix 26 20 ∷ asked_of_t Mix 74 20 ∷ asked_of_t Mix 25 20 ∷ asked_of_t Mix 25 100 ∷ asked_of_t Mix 75 20 ∷ asked_of_t Mix 75 100
    ∷ asked_of_t Mix 76 20 ∷ asked_of_t Mix 76 100 ∷ asked_of_t Mix 10_000 20 ∷ asked_of_t Mix 10_000 100
    ∷ []
    ≡ found 0 Start ∷ found 19_000 Start ∷ found 20_000 Printed ∷ found 20_750 Between ∷ found 35_000 Between ∷ found 49_250 Between
    ∷ found 50_000 Printed ∷ found 69_500 Between ∷ found 70_000 Printed ∷ found 70_000 Held ∷ found 70_000 Held
    ∷ found 28_500 Start ∷ found 30_000 Between ∷ found 57_500 Between ∷ found 75_000 Between ∷ found 75_000 Held
    ∷ found 20_400 Between ∷ found 39_600 Between ∷ found 20_000 Printed ∷ found 70_000 Printed ∷ found 40_000 Printed ∷ found 80_000 Printed
    ∷ found 40_000 Printed ∷ found 80_000 Printed ∷ found 40_000 Printed ∷ found 80_000 Printed
    ∷ []
unfolding verdict_of lengths_fit offending_rate without_rates in_step previous first_from height fastest curves_of exact_in basis_at fastest_taken rated admission_of percent_answer
how_found = refl
