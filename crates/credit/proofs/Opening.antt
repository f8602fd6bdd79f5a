-- Which tests a granted answer passed before it came to the work, and what the work then gives.
-- Assumes nothing.
use Rattle.std.specs.Prelude.{Result, Ok, Err}
use Rattle.units.specs.declared.Area.{Area}
use Prim.Native.Nat.{ℕ, ◌≤◌, ◌<◌}
use mathlib.Core.Bool.{Bool}
use mathlib.Core.List.{List, [], ◌∷◌}
use mathlib.Core.Path.{◌≡◌, refl, sym, ◌∙◌}
use lib.Dec.{leb}
use lib.ListN.{get_or}
use borrow.Author.Tests.{leb-true}
use Rattle.refusal.specs.declared.Refusal.{Refusal}
use Rattle.refusal.specs.declared.Refusal.TheVariants.{NoPublishedSheet, UnfitSheet, RateOutOfRange, RateBelowSheet, TargetUnreachable}
use Rattle.refusal.specs.Refusal.{granted}
use Rattle.units.specs.declared.Nutrient.{Nutrient}
use Rattle.units.specs.Limits.{largest, most_percent, highest_depth}
use Rattle.site.specs.declared.Site.{Site}
use Rattle.site.specs.declared.SubArea.{SubArea}
use Rattle.site.specs.Parts.{parts_of, impervious_area}
use Rattle.site.specs.Judging.{judged, after_judging}
use Rattle.loads.specs.Rates as rates
use Rattle.loads.specs.Loads.{load_of}
use Rattle.volume.specs.Volume.{volume_of, depth_of}
use Rattle.sheet.specs.declared.Fault.{Fault}
use Rattle.sheet.specs.Sheet.{verdict_of}
use Rattle.sheet.proofs.Rules.{fine_rules, rules_fine}
use Rattle.curve.specs.declared.Mode.{Mode}
use Rattle.curve.specs.declared.Curves.{Curves}
use Rattle.curve.specs.declared.Basis.{Basis}
use Rattle.curve.specs.Curve.{curves_of, percent_of, depth_reaching}
use Rattle.curve.specs.Basis.{basis_of}
use Rattle.curve.specs.Answers.{fastest_taken, refused, rated, judged_first, admission_of}
use Rattle.curve.specs.Promises as curve
use Rattle.curve.proofs.Answering.{rate_taken, fine_rated}
use Rattle.curve.proofs.Promises.{never_falls_with_depth}
use Rattle.published.specs.Tables.{depths}
use Rattle.published.specs.Published.{rates_of, percents_of, is_published}
use Rattle.credit.specs.declared.Wanted.{Wanted}
use Rattle.credit.specs.declared.Wanted.TheVariants.{Credit, Size}
use Rattle.credit.specs.Credit.{CreditAnswer, figures_of}
use Rattle.credit.specs.Answers.{Sheet, lent, published, credit, size, worked, on_sheet, on_parts, by_sheet, answer_of, given}
use Rattle.credit.specs.Promises.{depths_in, rates_in, percents_in, percent_on, basis_on, Credited, Sized}
use Rattle.refusal.proofs.Numbers.{refusal_not_granted}
use Rattle.credit.proofs.Admitting.{on_curves, curves_turn}
use Rattle.credit.proofs.Passing.{granted_pass, Within, credit_passed, credit_works, size_passed, size_works, size_short}

-- An answer that is granted on a sheet passed 5, 6 and 7,
module _ (ds rs ps : List ℕ) (mode : Mode) (r : ℕ) (onward : Curves → CreditAnswer) where
  abbrev pub rate_tests : List (Bool × Refusal)
  rate_tests = (leb r (fastest_taken rs), RateOutOfRange) ∷ (leb (get_or rs 0 0) r, RateBelowSheet) ∷ []

  rate_passed : (given (on_curves onward (rated rs mode r))).answer ≡ granted → (r ≤ fastest_taken rs) × (get_or rs 0 0 ≤ r)
  unfolding rated
  rate_passed g =
      let e = curves_turn onward (Ok (curves_of rs mode r)) rate_tests in
      let p = (granted_pass (onward (curves_of rs mode r)) rate_tests (rw e at g)).0 in
      (leb-true r (fastest_taken rs) p.0, leb-true (get_or rs 0 0) r p.1.0)

  sheet_passed : (given (on_curves onward (admission_of ds rs ps mode r))).answer ≡ granted → curve.Usable ds rs ps r
  unfolding admission_of
  sheet_passed = told (verdict_of ds rs ps) refl
    where
      told : (x : Result (Unit {0}) Fault) → verdict_of ds rs ps ≡ x → (given (on_curves onward (judged_first x (rated rs mode r)))).answer ≡ granted
          → curve.Usable ds rs ps r
      told (Ok _) f g =
          let p = rate_passed g in
          record { rules = fine_rules ds rs ps f; taken = p.0; slowest = p.1 }
      told (Err fault) f g = absurd (refusal_not_granted UnfitSheet g)

-- and is worked out by the curves of the site rate.
pub sheet_admitted : (ds rs ps : List ℕ) (mode : Mode) (r : ℕ) → curve.Usable ds rs ps r
    → admission_of ds rs ps mode r ≡ Ok (curves_of rs mode r)
sheet_admitted ds rs ps mode r p = sym (fine_rated ds rs ps refl mode r (rules_fine ds rs ps p.rules) (rate_taken rs mode refl p.taken p.slowest refl))

-- what is wanted of sub-areas, by the percents of a sheet and their bases
abbrev pub on_percents : Wanted → Nutrient → List SubArea → (ℕ → ℕ) → (ℕ → Basis) → CreditAnswer
on_percents wanted n parts percents bases = worked wanted (load_of (rates.export_rates n) parts) (impervious_area parts) (volume_of parts) percents bases

-- A site, a sheet and a rate that are refused nothing but an amount: whatever is wanted, its answer is worked out by the percents.
pub record Open (sheet : Sheet) (n : Nutrient) (s : Site) (mode : Mode) (r : ℕ) : Type 0 where
  pub accepted : curve.Usable (depths_in sheet) (rates_in sheet n) (percents_in sheet n) r
  pub within : Within (load_of (rates.export_rates n) (parts_of s)) (impervious_area (parts_of s)) (volume_of (parts_of s))
  pub works : (wanted : Wanted) → answer_of sheet wanted n s mode r ≡ on_percents wanted n (parts_of s) (percent_on sheet n mode r) (basis_on sheet n mode r)

module _ (n : Nutrient) (parts : List SubArea) (mode : Mode) (r : ℕ) where
  -- What is wanted has no part in the tests of a sheet.
  lists_open : (ds rs ps : List ℕ) (wanted : Wanted) → (given (on_parts volume_of wanted n parts ds rs ps mode r)).answer ≡ granted
      → curve.Usable ds rs ps r × ((other : Wanted) → on_parts volume_of other n parts ds rs ps mode r ≡ on_percents other n parts (percent_of ds rs ps mode r) (basis_of ds rs mode r))
  unfolding on_sheet
  lists_open ds rs ps wanted g =
      let p = sheet_passed ds rs ps mode r _ g in
      (p, λ other. rw (sheet_admitted ds rs ps mode r p))

  sheet_opens : (sheet : Sheet) (wanted : Wanted) → (given (by_sheet volume_of sheet wanted n parts mode r)).answer ≡ granted
      → curve.Usable (depths_in sheet) (rates_in sheet n) (percents_in sheet n) r
      × ((other : Wanted) → by_sheet volume_of sheet other n parts mode r ≡ on_percents other n parts (percent_on sheet n mode r) (basis_on sheet n mode r))
  sheet_opens (lent ds rs ps) wanted g = lists_open ds rs ps wanted g
  sheet_opens (published practice) wanted g =
      let rs = rates_of practice n in
      let ps = percents_of practice n in
      let p = granted_pass (on_parts volume_of wanted n parts depths rs ps mode r) ((is_published practice n, NoPublishedSheet) ∷ []) g in
      let l = lists_open depths rs ps wanted p.1 in
      (l.0, λ other. simp p.0.0 (l.1 other))

  -- Crediting and sizing ask alike for impervious area, and for a load and a V(200) within 10^13.
  work_within : (wanted : Wanted) (percents : ℕ → ℕ) (bases : ℕ → Basis) → (given (on_percents wanted n parts percents bases)).answer ≡ granted
      → Within (load_of (rates.export_rates n) parts) (impervious_area parts) (volume_of parts)
  work_within (Credit v) percents bases g = (credit_passed _ _ _ percents bases v.0 g).0
  work_within (Size target) percents bases g = (size_passed _ _ _ percents bases target.0 g).0

module _ {sheet : Sheet} {n : Nutrient} {s : Site} {mode : Mode} {r : ℕ} where
  pub granted_opens : (wanted : Wanted) → (given (answer_of sheet wanted n s mode r)).answer ≡ granted → Open sheet n s mode r
  unfolding answer_of
  granted_opens wanted = told (judged s) refl
    where
      told : (x : Result Area Refusal) → judged s ≡ x
          → (given (after_judging refused (λ total. by_sheet volume_of sheet wanted n (parts_of s) mode r) x)).answer ≡ granted
          → Open sheet n s mode r
      told (Ok total) j g =
          let p = sheet_opens n (parts_of s) mode r sheet wanted g in
          record {
            accepted = p.0;
            within = work_within n (parts_of s) mode r wanted (percent_on sheet n mode r) (basis_on sheet n mode r) (rw (p.1 wanted) at g);
            works = λ other. rw j (p.1 other);
          }
      told (Err why) j g = absurd (refusal_not_granted why g)

module _ {sheet : Sheet} {n : Nutrient} {s : Site} {mode : Mode} {r : ℕ} (o : Open sheet n s mode r) where
  -- A credit is granted for a volume up to 10^13, and for no other.
  pub credit_within : (v : ℕ) → (Credited sheet n s mode r v).answer ≡ granted → v ≤ largest
  credit_within v g = (credit_passed _ _ _ (percent_on sheet n mode r) (basis_on sheet n mode r) v (rw (o.works (credit v)) at g)).1

  pub credit_is : (v : ℕ) → v ≤ largest
      → answer_of sheet (credit v) n s mode r
      ≡ Ok (figures_of (load_of (rates.export_rates n) (parts_of s)) (depth_of (parts_of s) v) (percent_on sheet n mode r (depth_of (parts_of s) v)) (basis_on sheet n mode r (depth_of (parts_of s) v)) v)
  unfolding depth_of
  credit_is v h = o.works (credit v) ∙ credit_works _ _ _ (percent_on sheet n mode r) (basis_on sheet n mode r) v o.within h

  -- A size is granted for a target up to 100 percent and up to the percent at depth 200, and for no other.
  pub size_within : (target : ℕ) → (Sized sheet n s mode r target).answer ≡ granted
      → (target ≤ most_percent) × (target ≤ percent_on sheet n mode r highest_depth)
  size_within target g =
      let p = size_passed _ _ _ (percent_on sheet n mode r) (basis_on sheet n mode r) target (rw (o.works (size target)) at g) in
      (p.1, p.2)

  module _ (target : ℕ) (h : target ≤ most_percent) where
    abbrev depth : ℕ
    depth = depth_reaching (percent_on sheet n mode r) target

    pub size_is : target ≤ percent_on sheet n mode r highest_depth
        → answer_of sheet (size target) n s mode r
        ≡ Ok (figures_of (load_of (rates.export_rates n) (parts_of s)) depth (percent_on sheet n mode r depth) (basis_on sheet n mode r depth) (volume_of (parts_of s) depth))
    size_is l = o.works (size target) ∙ size_works _ _ _ (percent_on sheet n mode r) (basis_on sheet n mode r) target o.within h l

    pub size_unreachable : percent_on sheet n mode r highest_depth < target → answer_of sheet (size target) n s mode r ≡ refused TargetUnreachable
    size_unreachable l = o.works (size target) ∙ size_short _ _ _ (percent_on sheet n mode r) (basis_on sheet n mode r) target o.within h l

  -- On an accepted sheet the percent never falls with depth.
  pub percent_mono : (d e : ℕ) → d ≤ e → percent_on sheet n mode r d ≤ percent_on sheet n mode r e
  percent_mono d e h = never_falls_with_depth (depths_in sheet) (rates_in sheet n) (percents_in sheet n) mode r d e o.accepted h
