-- What is answered where neither 5, 6 nor 7 is given, and that a granted answer tells it.
-- Assumes nothing.
use Prim.Native.Nat.{ℕ, ◌≤◌}
use mathlib.Core.Bool.{true, false}
use mathlib.Core.List.{List, [], ◌∷◌}
use mathlib.Core.Logic.{⊎_elim}
use mathlib.Core.Path.{◌≡◌, refl, sym, ap}
use native.Mathlib.Nat.{le_trans}
use lib.Dec.{leb}
use Rattle.std.specs.Prelude.{Result, Ok, Err}
use lib.ListN.{get_or}
use borrow.Author.Tests.{leb-true, le-leb, lt-leb}
use Rattle.laws.specs.Turn.{in_turn}
use Rattle.laws.proofs.Order.{passes_or_fails}
use Rattle.refusal.specs.declared.Refusal.TheVariants.{UnfitSheet, RateOutOfRange, RateBelowSheet, AmountOutOfRange, TargetUnreachable}
use Rattle.refusal.specs.Refusal.{granted}
use Rattle.refusal.proofs.Numbers.{refusal_not_granted}
use Rattle.units.specs.Limits.{most_percent, highest_depth}
use Rattle.sheet.specs.declared.Fault.{Fault}
use Rattle.sheet.specs.Sheet.{verdict_of}
use Rattle.sheet.proofs.Rules.{fine_rules, rules_fine}
use Rattle.curve.specs.declared.Mode.{Mode}
use Rattle.curve.specs.declared.Curves.{Curves}
use Rattle.curve.specs.declared.SheetError.TheVariants.{Unfit, Refused}
use Rattle.curve.specs.declared.Reached.TheVariants as reach
use Rattle.curve.specs.Curve.{curves_of, percent_at, percent_of, depth_reaching}
use Rattle.curve.specs.Basis.{basis_at}
use Rattle.curve.specs.Answers.{fastest_taken, Admission, refused, rated, judged_first, admission_of, after_admission, percent_answer, least_found, reach_of, given, reach_given}
use Rattle.curve.specs.Inner.{Ready}
use Rattle.curve.specs.Promises.{Usable, PercentsGiven, PercentGrantedExactly, DepthsGiven, ReachGrantedExactly}
use Rattle.curve.proofs.Answering.{chosen}
use Rattle.curve.proofs.Promises.{granted_ready, at_most_all, finds_the_least}

-- A granted sheet and rate are admitted with the curves of the rate,
pub granted_admitted : {ds rs ps : List ℕ} {r : ℕ} (mode : Mode) → Usable ds rs ps r → admission_of ds rs ps mode r ≡ Ok (curves_of rs mode r)
unfolding admission_of rated
granted_admitted {ds} {rs} {ps} {r} mode g =
    rw (rules_fine ds rs ps g.rules) (simp (le-leb r (fastest_taken rs) g.taken, le-leb (get_or rs 0 0) r g.slowest))

-- and nothing else is.
judged_granted : (v : Result (Unit {0}) Fault) {ds rs ps : List ℕ} (mode : Mode) (r : ℕ) {c : Curves} → verdict_of ds rs ps ≡ v
    → judged_first v (rated rs mode r) ≡ Ok c → Usable ds rs ps r × (c ≡ curves_of rs mode r)
unfolding rated
judged_granted (Ok _) {ds} {rs} {ps} mode r {c} f e =
    let t = chosen (leb r (fastest_taken rs)) (leb (get_or rs 0 0) r) (curves_of rs mode r) c RateBelowSheet RateOutOfRange e in
    (record { rules = fine_rules ds rs ps f; taken = leb-true r (fastest_taken rs) t.0; slowest = leb-true (get_or rs 0 0) r t.1 }, sym t.2)
judged_granted (Err fault) mode r f e = cc

pub admitted_granted : (ds rs ps : List ℕ) (mode : Mode) (r : ℕ) {c : Curves} → admission_of ds rs ps mode r ≡ Ok c
    → Usable ds rs ps r × (c ≡ curves_of rs mode r)
unfolding admission_of
admitted_granted ds rs ps mode r e = judged_granted (verdict_of ds rs ps) mode r refl e

-- They are ready for every depth.
pub admitted_ready : (ds rs ps : List ℕ) (mode : Mode) (r : ℕ) {c : Curves} → admission_of ds rs ps mode r ≡ Ok c → Ready ds rs ps c
admitted_ready ds rs ps mode r e =
    let u = admitted_granted ds rs ps mode r e in
    rw u.1 (granted_ready u.0 mode)

-- Up to depth 200 the percent is given back, and 9 beyond.
pub percents_given : PercentsGiven
unfolding percent_answer
percents_given ds rs ps mode r d g =
    record {
      on_grid = λ h. rw (granted_admitted mode g) (simp (le-leb d highest_depth h));
      too_deep = λ h. rw (granted_admitted mode g) (simp (lt-leb d highest_depth h));
    }

-- Nothing else is granted a percent.
granted_usable : (a : Admission) (ds rs ps : List ℕ) (mode : Mode) (r d : ℕ) → admission_of ds rs ps mode r ≡ a
    → (given
    (after_admission
    (λ c. in_turn refused (Ok (record { 0 = percent_at ds ps c d }, basis_at ds c d)) ((leb d highest_depth, AmountOutOfRange) ∷ [])) a)).0
    ≡ granted
    → Usable ds rs ps r × (d ≤ highest_depth)
granted_usable (Ok c) ds rs ps mode r d t e =
    ⊎_elim
    (λ (h : leb d highest_depth ≡ true). ((admitted_granted ds rs ps mode r t).0, leb-true d highest_depth h))
    (λ (h : leb d highest_depth ≡ false). absurd (refusal_not_granted AmountOutOfRange (simp h at e)))
    (passes_or_fails (leb d highest_depth))
granted_usable (Err (Unfit fault)) ds rs ps mode r d t e = absurd (refusal_not_granted UnfitSheet e)
granted_usable (Err (Refused why)) ds rs ps mode r d t e = absurd (refusal_not_granted why e)

pub percent_granted_exactly : PercentGrantedExactly
unfolding percent_answer
percent_granted_exactly ds rs ps mode r d = (
  λ e. granted_usable (admission_of ds rs ps mode r) ds rs ps mode r d refl e,
  λ u. ap (λ (t : ℕ × ℕ × ℕ × ℕ × ℕ). t.0) ((percents_given ds rs ps mode r d u.0).on_grid u.1),
)

-- For a target the least depth that reaches it is, with its percent, or why there is none.
pub depths_given : DepthsGiven
unfolding reach_of
depths_given ds rs ps mode r t g =
    record {
      found = λ h.
          record {
            depth = depth_reaching (percent_of ds rs ps mode r) t;
            is_least = finds_the_least ds rs ps mode r t g h;
            are = rw (granted_admitted mode g)
                (simp (le-leb t most_percent (le_trans h (at_most_all ds rs ps mode r highest_depth g)), le-leb t (percent_of ds rs ps mode r highest_depth) h));
          };
      too_high = λ h. rw (granted_admitted mode g) (simp (lt-leb t most_percent h));
      short = λ l h. rw (granted_admitted mode g) (simp (le-leb t most_percent l, lt-leb t (percent_of ds rs ps mode r highest_depth) h));
    }

-- Nothing else is granted a depth.
reach_usable : (a : Admission) (ds rs ps : List ℕ) (mode : Mode) (r t : ℕ) → admission_of ds rs ps mode r ≡ a
    → (reach_given
    (after_admission
    (λ c. Ok (in_turn (λ why. why) (least_found (percent_at ds ps c) (basis_at ds c) t)
    ((leb t most_percent, reach.TooHigh) ∷ (leb t (percent_at ds ps c highest_depth), reach.Short) ∷ []))) a)).0
    ≡ granted
    → Usable ds rs ps r × (t ≤ percent_of ds rs ps mode r highest_depth)
reach_usable (Ok c) ds rs ps mode r t f e =
    let u = admitted_granted ds rs ps mode r f in
    ⊎_elim
    (λ (h : leb t most_percent ≡ true).
    ⊎_elim
    (λ (k : leb t (percent_at ds ps c highest_depth) ≡ true). (u.0, rw u.1 at (leb-true t (percent_at ds ps c highest_depth) k)))
    (λ (k : leb t (percent_at ds ps c highest_depth) ≡ false). absurd (refusal_not_granted TargetUnreachable (simp (h, k) at e)))
    (passes_or_fails (leb t (percent_at ds ps c highest_depth))))
    (λ (h : leb t most_percent ≡ false). absurd (refusal_not_granted AmountOutOfRange (simp h at e)))
    (passes_or_fails (leb t most_percent))
reach_usable (Err (Unfit fault)) ds rs ps mode r t f e = absurd (refusal_not_granted UnfitSheet e)
reach_usable (Err (Refused why)) ds rs ps mode r t f e = absurd (refusal_not_granted why e)

pub reach_granted_exactly : ReachGrantedExactly
unfolding reach_of
reach_granted_exactly ds rs ps mode r t = (
  λ e. reach_usable (admission_of ds rs ps mode r) ds rs ps mode r t refl e,
  λ u. ap (λ (g : ℕ × ℕ × ℕ × ℕ × ℕ × ℕ). g.0) ((depths_given ds rs ps mode r t u.0).found u.1).are,
)
