-- Laws of the answers: what each test makes of them, and what a granted one tells.
-- Assumes nothing.
use Prim.Native.Nat.{ℕ, ◌≤◌, ◌<◌}
use mathlib.Core.Bool.{Bool, true, false, cond}
use mathlib.Core.List.{List}
use mathlib.Core.Logic.{⊎_elim}
use mathlib.Core.Path.{◌≡◌, refl, sym, ◌∙◌, ap}
use native.Mathlib.Nat.{le_refl, le_trans}
use native.Mathlib.Omega.{arith}
use lib.Dec.{ltb}
use Rattle.std.specs.Prelude.{Result, Ok, Err}
use Rattle.std.specs.Result.{is_ok}
use lib.ListN.{length, get_or}
use borrow.Author.Tests.{le-leb, lt-leb, ltb-true, ltb-false, lt-ltb}
use Rattle.laws.proofs.First.{Once, first_le, first_fails, first_all}
use Rattle.laws.proofs.Order.{passes_or_fails}
use Rattle.refusal.specs.declared.Refusal.{Refusal}
use Rattle.refusal.specs.declared.Refusal.TheVariants.{RateOutOfRange, RateBelowSheet, AmountOutOfRange}
use Rattle.units.specs.declared.Depth.{Depth}
use Rattle.units.specs.declared.Percent.{Percent}
use Rattle.units.specs.Limits.{most_rate, most_percent, highest_depth, grid_depths}
use Rattle.sheet.specs.declared.Sheet.{Sheet}
use Rattle.sheet.specs.declared.Fault.{Fault}
use Rattle.sheet.specs.Sheet.{without_rates, verdict_of}
use Rattle.sheet.specs.Rules.{Rules}
use Rattle.sheet.proofs.Rules.{fine_rules}
use Rattle.curve.specs.declared.Mode.{Mode}
use Rattle.curve.specs.declared.Curves.{Curves}
use Rattle.curve.specs.declared.Basis.{Basis}
use Rattle.curve.specs.declared.SheetError.{SheetError}
use Rattle.curve.specs.declared.SheetError.TheVariants.{Unfit, Refused}
use Rattle.curve.specs.declared.Spot.{Spot}
use Rattle.curve.specs.declared.Admitted.{Admitted}
use Rattle.curve.specs.declared.Reached.TheVariants as reach
use Rattle.curve.specs.Curve.{curves_of, percent_at, depth_reaching}
use Rattle.curve.specs.Basis.{basis_at}
use Rattle.curve.specs.Inner.{InSegment, Rated, Ready, LeastWith}
use Rattle.curve.specs.Answers.{fastest_taken, Admission, refused, rated, admission_of, percent_answer, reach_of}
use Rattle.curve.proofs.Choices.{neighbours}
use Rattle.curve.proofs.Rising.{percent_rises}

taken_most : (rs : List ℕ) → fastest_taken rs ≤ most_rate
unfolding fastest_taken
taken_most rs =
    ⊎_elim (λ (e : without_rates rs ≡ true). simp e (omega arith)) (λ (e : without_rates rs ≡ false). simp e (le_refl _))
    (passes_or_fails (without_rates rs))

-- 6, then 7, then the curves.
module _ (rs : List ℕ) (mode : Mode) {m r : ℕ} (is : m ≡ fastest_taken rs) where
  pub rate_fast : m < r → Err (Refused RateOutOfRange) ≡ rated rs mode r
  unfolding rated
  rate_fast h = simp (lt-leb r (fastest_taken rs) (rw is at h))

  pub rate_slow : r ≤ m → r < get_or rs 0 0 → Err (Refused RateBelowSheet) ≡ rated rs mode r
  unfolding rated
  rate_slow h l = simp (le-leb r (fastest_taken rs) (rw is at h), lt-leb (get_or rs 0 0) r l)

  pub rate_taken : {c : Curves} → r ≤ m → get_or rs 0 0 ≤ r → c ≡ curves_of rs mode r → Ok c ≡ rated rs mode r
  unfolding rated
  rate_taken h l e = rw e (simp (le-leb r (fastest_taken rs) (rw is at h), le-leb (get_or rs 0 0) r l))

pub rate_rated : (rs : List ℕ) {m r : ℕ} → m ≡ fastest_taken rs → 1 ≤ length rs → r ≤ m → get_or rs 0 0 ≤ r → Rated rs r
rate_rated rs is n h l = record { some_rates = n; slowest = l; taken = le_trans h (rw is (taken_most rs)) }

-- An admitted rate is one that the sheet takes, with its curves.
pub chosen : (b d : Bool) (c e : Curves) (p q : Refusal)
    → cond b (cond d (Ok c) (refused p)) (refused q) ≡ Ok e → (b ≡ true) × (d ≡ true) × (c ≡ e)
chosen true true c e p q h = (refl, refl, cc)
chosen true false c e p q h = cc
chosen false d c e p q h = cc

-- An accepted sheet keeps the rules.
ok_rules : (v : Result (Unit {0}) Fault) {ds rs ps : List ℕ} → verdict_of ds rs ps ≡ v → is_ok v ≡ true → Rules ds rs ps
ok_rules (Ok _) {ds} {rs} {ps} f e = fine_rules ds rs ps f
ok_rules (Err fault) f e = cc

pub accepted_rules : (ds rs ps : List ℕ) → is_ok (verdict_of ds rs ps) ≡ true → Rules ds rs ps
accepted_rules ds rs ps e = ok_rules (verdict_of ds rs ps) refl e

pub judged_accepted : (ds rs ps : List ℕ) {v : Result (Unit {0}) Fault} → v ≡ verdict_of ds rs ps → v ≡ Ok tt → is_ok (verdict_of ds rs ps) ≡ true
judged_accepted ds rs ps t e = ap is_ok (sym t ∙ e)

-- What the two structs know.
pub in_spot : (s : Spot) → InSegment s.sheet.depths.now s.sheet.rates.now s.sheet.percents.now s.k s.x.0
in_spot s =
    record {
      rules = accepted_rules s.sheet.depths.now s.sheet.rates.now s.sheet.percents.now s.accepted;
      within = s.within;
      from = s.from;
      to = s.to;
    }

pub is_ready : (a : Admitted) → Ready a.sheet.depths.now a.sheet.rates.now a.sheet.percents.now a.curves
is_ready a =
    let s = accepted_rules a.sheet.depths.now a.sheet.rates.now a.sheet.percents.now a.accepted in
    let p : Rated a.sheet.rates.now a.rate.0 = record { some_rates = s.some_rates; slowest = a.slowest; taken = a.taken } in
    rw a.chosen (record { rules = s; curves = neighbours a.mode s p })

-- 5 first.
module _ (ds rs ps : List ℕ) {v : Result (Unit {0}) Fault} (told : v ≡ verdict_of ds rs ps) (mode : Mode) (r : ℕ) where
  pub fine_rated : {a : Admission} → v ≡ Ok tt → a ≡ rated rs mode r → a ≡ admission_of ds rs ps mode r
  unfolding admission_of
  fine_rated e f = rw (sym told ∙ e) f

  pub unfit_bad : {fault : Fault} → v ≡ Err fault → Err (Unfit fault) ≡ admission_of ds rs ps mode r
  unfolding admission_of
  unfit_bad e = rw (sym told ∙ e)

module _ (ds rs ps : List ℕ) (mode : Mode) (r : ℕ) where
  -- 5, 6 and 7 are passed on by a call for a percent, and 9 is tried.
  module _ {c : Curves} (told : Ok c ≡ admission_of ds rs ps mode r) (d : ℕ) where
    pub percent_granted : {p : Percent} {b : Basis} → d ≤ highest_depth → p.0 ≡ percent_at ds ps c d → b ≡ basis_at ds c d
        → Ok (p, b) ≡ percent_answer ds rs ps mode r d
    unfolding percent_answer
    percent_granted h g f = rw (sym told, sym g, f) (simp (le-leb d highest_depth h))

    pub percent_deep : highest_depth < d → Err (Refused AmountOutOfRange) ≡ percent_answer ds rs ps mode r d
    unfolding percent_answer
    percent_deep h = rw (sym told) (simp (lt-leb d highest_depth h))

  pub percent_refused : {error : SheetError} → Err error ≡ admission_of ds rs ps mode r → (d : ℕ) → Err error ≡ percent_answer ds rs ps mode r d
  unfolding percent_answer
  percent_refused told d = rw (sym told)

  -- And by a call for the least depth of a target.
  pub reach_high : {c : Curves} → Ok c ≡ admission_of ds rs ps mode r → (t : ℕ) → most_percent < t → Ok reach.TooHigh ≡ reach_of ds rs ps mode r t
  unfolding reach_of
  reach_high told t h = rw (sym told) (simp (lt-leb t most_percent h))

  pub reach_refused : {error : SheetError} → Err error ≡ admission_of ds rs ps mode r → (t : ℕ) → Err error ≡ reach_of ds rs ps mode r t
  unfolding reach_of
  reach_refused told t = rw (sym told)

-- The least depth of a target. A percent that reaches it is not followed by one that does not.
module _ {ds rs ps : List ℕ} {c : Curves} (s : Ready ds rs ps c) (t : ℕ) where
  pub reaches_once : Once (λ d. ltb (percent_at ds ps c d) t) grid_depths
  reaches_once i j h l e =
      lt-ltb (percent_at ds ps c i) t
      (let p = percent_rises s i j h in
      let q = ltb-true (percent_at ds ps c j) t e in
      omega arith)

  -- There is one exactly where the target is not above the percent at depth 200.
  pub least_reached : depth_reaching (percent_at ds ps c) t ≤ highest_depth → t ≤ percent_at ds ps c highest_depth
  least_reached h =
      let p = percent_rises s (depth_reaching (percent_at ds ps c) t) highest_depth h in
      let q = ltb-false (percent_at ds ps c (depth_reaching (percent_at ds ps c) t)) t (first_fails (λ d. ltb (percent_at ds ps c d) t) grid_depths (omega arith)) in
      omega arith

  pub least_missed : highest_depth < depth_reaching (percent_at ds ps c) t → percent_at ds ps c highest_depth < t
  least_missed h =
      let l = first_le (λ d. ltb (percent_at ds ps c d) t) grid_depths in
      ltb-true (percent_at ds ps c highest_depth) t (first_all (λ d. ltb (percent_at ds ps c d) t) grid_depths (omega arith) highest_depth (omega arith))

module _ {ds rs ps : List ℕ} {c : Curves} (s : Ready ds rs ps c) (mode : Mode) (r t : ℕ) (told : Ok c ≡ admission_of ds rs ps mode r)
    (l : t ≤ most_percent) where
  pub reach_found : {d p : ℕ} {b : Basis} → d ≡ depth_reaching (percent_at ds ps c) t → d ≤ highest_depth → p ≡ percent_at ds ps c d → b ≡ basis_at ds c d
      → Ok (reach.Found (record { 0 = d }) (record { 0 = p }) b) ≡ reach_of ds rs ps mode r t
  unfolding reach_of
  reach_found found h f g =
      rw (sym told)
      (rw (f, g, found) (simp (le-leb t most_percent l, le-leb t (percent_at ds ps c highest_depth) (least_reached s t (rw found at h)))))

  pub reach_short : highest_depth < depth_reaching (percent_at ds ps c) t → Ok reach.Short ≡ reach_of ds rs ps mode r t
  unfolding reach_of
  reach_short h =
      rw (sym told)
      (simp (le-leb t most_percent l, lt-leb t (percent_at ds ps c highest_depth) (least_missed s t h)))

-- What an admitted sheet is given.
module _ (a : Admitted) (s : Sheet) (mode : Mode) (r : ℕ)
    (k : (a.sheet ≡ s) × (Ok a.curves ≡ admission_of s.depths.now s.rates.now s.percents.now mode r)) where
  here : Ok a.curves ≡ admission_of a.sheet.depths.now a.sheet.rates.now a.sheet.percents.now mode r
  here = rw k.0 k.1

  pub given_percent : (d : ℕ) {p : Percent} {b : Basis} → d ≤ highest_depth → p.0 ≡ percent_at a.sheet.depths.now a.sheet.percents.now a.curves d
      → b ≡ basis_at a.sheet.depths.now a.curves d → Ok (p, b) ≡ percent_answer s.depths.now s.rates.now s.percents.now mode r d
  given_percent d h f g =
      rw (sym k.0) (percent_granted a.sheet.depths.now a.sheet.rates.now a.sheet.percents.now mode r here d h f g)

  pub given_depth : (t : ℕ) {d : Depth} {p : Percent} {b : Basis} → t ≤ most_percent
      → LeastWith a.sheet.depths.now a.sheet.percents.now a.curves t d.0 p.0 → b ≡ basis_at a.sheet.depths.now a.curves d.0
      → Ok (reach.Found d p b) ≡ reach_of s.depths.now s.rates.now s.percents.now mode r t
  given_depth t l f g = rw (sym k.0) (reach_found (is_ready a) mode r t here l f.least f.on_grid f.there g)

  pub given_none : (t : ℕ) → t ≤ most_percent → highest_depth < depth_reaching (percent_at a.sheet.depths.now a.sheet.percents.now a.curves) t
      → Ok reach.Short ≡ reach_of s.depths.now s.rates.now s.percents.now mode r t
  given_none t l f = rw (sym k.0) (reach_short (is_ready a) mode r t here l f)
