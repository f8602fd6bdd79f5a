-- Rules, "The numbers given back", of a sheet: a call for a percent tries 5, 6, 7, 9, one for the least depth of a target 5, 6, 7, 9, 10.
-- Assumes nothing.
use Rattle.std.specs.Prelude.{ℕ, cond, List, [], ◌∷◌, leb, get_or, Result, Ok, Err}
use Rattle.laws.specs.Turn.{in_turn}
use Rattle.refusal.specs.declared.Refusal.{Refusal}
use Rattle.refusal.specs.declared.Refusal.TheVariants.{UnfitSheet, RateOutOfRange, RateBelowSheet, AmountOutOfRange, TargetUnreachable}
use Rattle.refusal.specs.Refusal.{number_of, granted}
use Rattle.units.specs.Limits.{most_rate, most_percent, highest_depth}
use Rattle.units.specs.declared.Percent.{Percent}
use Rattle.sheet.specs.declared.Fault.{Fault}
use Rattle.sheet.specs.Sheet.{without_rates, part_number, verdict_of}
use Rattle.curve.specs.declared.Mode.{Mode}
use Rattle.curve.specs.declared.Curves.{Curves}
use Rattle.curve.specs.declared.Basis.{Basis}
use Rattle.curve.specs.declared.Basis.TheVariants.{None}
use Rattle.curve.specs.declared.SheetError.{SheetError}
use Rattle.curve.specs.declared.SheetError.TheVariants.{Unfit, Refused}
use Rattle.curve.specs.declared.Reached.{Reached}
use Rattle.curve.specs.declared.Reached.TheVariants as reach
use Rattle.curve.specs.Curve.{curves_of, percent_at, depth_reaching}
use Rattle.curve.specs.Basis.{basis_at, basis_number}

-- the fastest site rate that a sheet takes: 0 where it is without rates
unfoldable pub fastest_taken : List ℕ → ℕ
fastest_taken rs = cond (without_rates rs) 0 most_rate

-- what a sheet is refused with
abbrev pub Admission : Type 0
Admission = Result Curves SheetError

abbrev pub PercentAnswer : Type 0
PercentAnswer = Result (Percent × Basis) SheetError

abbrev pub ReachAnswer : Type 0
ReachAnswer = Result Reached SheetError

-- a refusal other than 5
module _ {A : Type 0} where
  abbrev pub refused : Refusal → Result A SheetError
  refused why = Err (Refused why)

-- 6, then 7, then the curves of the site rate
unfoldable pub rated : List ℕ → Mode → ℕ → Admission
rated rs mode r =
    in_turn refused (Ok (curves_of rs mode r))
    ((leb r (fastest_taken rs), RateOutOfRange) ∷ (leb (get_or rs 0 0) r, RateBelowSheet) ∷ [])

-- 5 first
abbrev pub judged_first : Result (Unit {0}) Fault → Admission → Admission
judged_first (Ok _) a = a
judged_first (Err fault) a = Err (Unfit fault)

unfoldable pub admission_of : List ℕ → List ℕ → List ℕ → Mode → ℕ → Admission
admission_of ds rs ps mode r = judged_first (verdict_of ds rs ps) (rated rs mode r)

-- 5, 6 and 7 are passed on by every call on a sheet, 5 with its part and place; an admitted sheet goes on with its curves
module _ {A : Type 0} where
  abbrev pub after_admission : (Curves → Result A SheetError) → Admission → Result A SheetError
  after_admission onward (Ok c) = onward c
  after_admission onward (Err error) = Err error

-- the percent of a sheet at a rate and a depth, with its basis, refused 9 at a depth above 200
unfoldable pub percent_answer : List ℕ → List ℕ → List ℕ → Mode → ℕ → ℕ → PercentAnswer
percent_answer ds rs ps mode r d =
    after_admission
    (λ c. in_turn refused (Ok (record { 0 = percent_at ds ps c d }, basis_at ds c d)) ((leb d highest_depth, AmountOutOfRange) ∷ []))
    (admission_of ds rs ps mode r)

-- the least grid depth that reaches a target, with its percent and the basis of that
abbrev pub least_found : (ℕ → ℕ) → (ℕ → Basis) → ℕ → Reached
least_found percents bases target =
    let d = depth_reaching percents target in
    reach.Found (record { 0 = d }) (record { 0 = percents d }) (bases d)

-- the least grid depth of a target, with its percent and the basis of that: 9 above 100 percent, then 10 above the percent at depth 200
unfoldable pub reach_of : List ℕ → List ℕ → List ℕ → Mode → ℕ → ℕ → ReachAnswer
reach_of ds rs ps mode r target =
    after_admission
    (λ c. Ok (in_turn (λ why. why) (least_found (percent_at ds ps c) (basis_at ds c) target)
    ((leb target most_percent, reach.TooHigh) ∷ (leb target (percent_at ds ps c highest_depth), reach.Short) ∷ [])))
    (admission_of ds rs ps mode r)

-- the rules' number, percent, the basis by its number, list and place
abbrev pub given : PercentAnswer → ℕ × ℕ × ℕ × ℕ × ℕ
given (Ok (p, b)) = (granted, p.0, basis_number b, 0, 0)
given (Err (Unfit fault)) = (number_of UnfitSheet, 0, basis_number None, part_number fault.part, fault.place)
given (Err (Refused r)) = (number_of r, 0, basis_number None, 0, 0)

-- the rules' number, depth, percent, the basis by its number, list and place
abbrev pub reach_given : ReachAnswer → ℕ × ℕ × ℕ × ℕ × ℕ × ℕ
reach_given (Ok (reach.Found d p b)) = (granted, d.0, p.0, basis_number b, 0, 0)
reach_given (Ok reach.TooHigh) = (number_of AmountOutOfRange, 0, 0, basis_number None, 0, 0)
reach_given (Ok reach.Short) = (number_of TargetUnreachable, 0, 0, basis_number None, 0, 0)
reach_given (Err (Unfit fault)) = (number_of UnfitSheet, 0, 0, basis_number None, part_number fault.part, fault.place)
reach_given (Err (Refused r)) = (number_of r, 0, 0, basis_number None, 0, 0)
