-- 5, 6 and 7 in this order: what a sheet and a rate that are not usable are given.
-- Assumes nothing.
use Prim.Native.Nat.{ℕ, ◌≤◌, ◌<◌}
use mathlib.Core.List.{List}
use mathlib.Core.Path.{◌≡◌, refl, sym, ap}
use native.Mathlib.Omega.{arith}
use Rattle.std.specs.Prelude.{Result, Ok, Err}
use lib.ListN.{get_or}
use Rattle.refusal.specs.declared.Refusal.{Refusal}
use Rattle.refusal.specs.declared.Refusal.TheVariants.{UnfitSheet, RateOutOfRange, RateBelowSheet}
use Rattle.refusal.specs.Refusal.{number_of}
use Rattle.sheet.specs.declared.Fault.{Fault}
use Rattle.sheet.specs.Sheet as sheet
use Rattle.sheet.specs.Rules.{Rules}
use Rattle.sheet.specs.Promises.{UnfitAt}
use Rattle.sheet.proofs.Rules.{rules_fine}
use Rattle.curve.specs.declared.Mode.{Mode}
use Rattle.curve.specs.declared.SheetError.TheVariants.{Unfit, Refused}
use Rattle.curve.specs.Answers.{fastest_taken, admission_of, percent_answer, reach_of}
use Rattle.curve.specs.Promises.{BothGive, SheetRefusedInOrder}
use Rattle.curve.proofs.Answering.{rate_fast, rate_slow, fine_rated, unfit_bad}

-- A fault is told by the numbers of a verdict.
fault_is : (v : Result (Unit {0}) Fault) (list place : ℕ) → sheet.given v ≡ (number_of UnfitSheet, list, place)
    → (fault : Fault) × (v ≡ Err fault) × (sheet.part_number fault.part ≡ list) × (fault.place ≡ place)
fault_is (Ok _) list place e =
    let z = ap (λ (t : ℕ × ℕ × ℕ). t.0) e in
    absurd (omega arith)
fault_is (Err fault) list place e = (fault, refl, ap (λ (t : ℕ × ℕ × ℕ). t.1) e, ap (λ (t : ℕ × ℕ × ℕ). t.2) e)

-- What is admitted of a sheet that breaks its rules, and of a rate that it does not take.
module _ (ds rs ps : List ℕ) (mode : Mode) (r : ℕ) where
  pub unfit_told : (list place : ℕ) → UnfitAt ds rs ps list place
      → (fault : Fault) × (admission_of ds rs ps mode r ≡ Err (Unfit fault)) × (sheet.part_number fault.part ≡ list) × (fault.place ≡ place)
  unfit_told list place e =
      let t = fault_is (sheet.verdict_of ds rs ps) list place e in
      (t.0, sym (unfit_bad ds rs ps refl mode r t.1), t.2, t.3)

  module _ (k : Rules ds rs ps) where
    pub fast_told : fastest_taken rs < r → admission_of ds rs ps mode r ≡ Err (Refused RateOutOfRange)
    fast_told h = sym (fine_rated ds rs ps refl mode r (rules_fine ds rs ps k) (rate_fast rs mode refl h))

    pub slow_told : r ≤ fastest_taken rs → r < get_or rs 0 0 → admission_of ds rs ps mode r ≡ Err (Refused RateBelowSheet)
    slow_told h l = sym (fine_rated ds rs ps refl mode r (rules_fine ds rs ps k) (rate_slow rs mode refl h l))

  -- Both calls pass it on.
  both_bad : (list place : ℕ)
      → (fault : Fault) × (admission_of ds rs ps mode r ≡ Err (Unfit fault)) × (sheet.part_number fault.part ≡ list) × (fault.place ≡ place)
      → BothGive ds rs ps mode r (number_of UnfitSheet) list place
  unfolding percent_answer reach_of
  both_bad list place (fault, e, l, p) = record { percent = λ d. rw (e, l, p); reach = λ target. rw (e, l, p) }

  both_refused : (why : Refusal) → admission_of ds rs ps mode r ≡ Err (Refused why) → BothGive ds rs ps mode r (number_of why) 0 0
  unfolding percent_answer reach_of
  both_refused why e = record { percent = λ d. rw e; reach = λ target. rw e }

pub sheet_refused_in_order : SheetRefusedInOrder
sheet_refused_in_order ds rs ps mode r =
    record {
      unfit = λ list place e. both_bad ds rs ps mode r list place (unfit_told ds rs ps mode r list place e);
      too_fast = λ k h. both_refused ds rs ps mode r RateOutOfRange (fast_told ds rs ps mode r k h);
      too_slow = λ k h l. both_refused ds rs ps mode r RateBelowSheet (slow_told ds rs ps mode r k h l);
    }
