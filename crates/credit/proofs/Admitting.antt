-- What 5, 6 and 7 leave of an answer on a sheet.
-- Assumes nothing.
use mathlib.Core.Bool.{Bool, true, false}
use mathlib.Core.List.{List, [], ◌∷◌}
use mathlib.Core.Path.{◌≡◌, refl}
use Rattle.laws.specs.Turn.{in_turn}
use Rattle.refusal.specs.declared.Refusal.{Refusal}
use Rattle.curve.specs.declared.Curves.{Curves}
use Rattle.curve.specs.Answers.{Admission, refused, after_admission}
use Rattle.credit.specs.Credit.{CreditAnswer}

-- 5, 6 and 7 refuse; an admitted sheet goes on with its curves
abbrev pub on_curves : (Curves → CreditAnswer) → Admission → CreditAnswer
on_curves onward a = after_admission onward a

-- A rate's tests, 6 and 7, are tests of the answer.
pub curves_turn : (onward : Curves → CreditAnswer) (a : Admission) (tests : List (Bool × Refusal))
    → on_curves onward (in_turn refused a tests) ≡ in_turn refused (on_curves onward a) tests
curves_turn onward a [] = refl
curves_turn onward a ((true, why) ∷ tests) = curves_turn onward a tests
curves_turn onward a ((false, why) ∷ tests) = refl
