-- What every text gives back beside what the old rules gave: the same number, line and load, and no smaller volume.
-- Assumes nothing.
use Rattle.std.specs.Prelude.{Result, Ok, Err}
use Rattle.units.specs.declared.Area.{Area}
use Prim.Native.Nat.{ℕ, ◌≤◌, ◌<◌}
use mathlib.Core.Bool.{Bool, true, false}
use mathlib.Core.List.{List, [], ◌∷◌}
use mathlib.Core.Logic.{◌⊎◌, inl, inr}
use mathlib.Core.Path.{◌≡◌, refl, sym, ◌∙◌, subst}
use native.Mathlib.Nat.{le_refl, le_trans}
use native.Mathlib.Omega.{arith}
use lib.Dec.{leb, ltb}
use borrow.Author.Tests.{leb-true, le-leb, ltb-true}
use Rattle.laws.specs.Turn.{in_turn}
use Rattle.laws.proofs.First.{first_before}
use Rattle.laws.proofs.Order.{lt_or_le}
use Rattle.refusal.specs.declared.Refusal.{Refusal}
use Rattle.refusal.specs.declared.Refusal.TheVariants.{NoPublishedSheet}
use Rattle.units.specs.declared.Nutrient.{Nutrient}
use Rattle.units.specs.Limits.{most_area, largest, most_percent, highest_depth, grid_depths}
use Rattle.site.specs.declared.Site.{Site}
use Rattle.site.specs.declared.SubArea.{SubArea}
use Rattle.site.specs.Parts.{parts_of, total_area, impervious_area}
use Rattle.site.specs.Judging.{judged, after_judging}
use Rattle.site.proofs.Judging.{judged_fine}
use Rattle.loads.specs.Rates.{export_rates}
use Rattle.loads.specs.Loads.{load_of}
use Rattle.volume.specs.Volume.{volume_of}
use Rattle.volume.proofs.Promises.{fits}
use Rattle.curve.specs.declared.Mode.{Mode}
use Rattle.curve.specs.declared.Basis.{Basis}
use Rattle.curve.specs.declared.SheetError.TheVariants.{Unfit, Refused}
use Rattle.curve.specs.Curve.{percent_at, depth_reaching}
use Rattle.curve.specs.Basis.{basis_at}
use Rattle.curve.specs.Answers.{Admission, refused, admission_of, after_admission}
use Rattle.published.specs.Tables.{depths}
use Rattle.published.specs.Published.{rates_of, percents_of, is_published}
use Rattle.credit.specs.declared.Wanted.{Wanted}
use Rattle.credit.specs.declared.Wanted.TheVariants as wanted
use Rattle.credit.specs.Credit.{CreditAnswer, tried, credit_by, size_by}
use Rattle.credit.specs.Answers.{Sheet, lent, published, credit, size, worked, on_sheet, by_sheet, answer_by, answer_of, Given, given}
use Rattle.credit.proofs.Passing.{Pass, credited, sized, reached}
use Rattle.job.specs.declared.Job.{Job}
use Rattle.job.specs.declared.Task.{Task}
use Rattle.job.specs.declared.Task.TheVariants.{Load, Credit, Size}
use Rattle.job.specs.declared.Reading.{Reading}
use Rattle.job.specs.declared.Unread.{Unread}
use Rattle.job.specs.Reading.{reading_of}
use Rattle.answer.specs.Outcomes.{Outcome}
use Rattle.answer.specs.Outcomes.{given as outcome_given, fault_line}
use Rattle.calculator.specs.Outcome.{of_credit, of_task, of_task_by, of_reading, outcome_of}
use Rattle.calculator.proofs.InTexts.{same_given, no_line}
use Rattle.rewrite.specs.OldRules.{old_volume_of}
use Rattle.rewrite.specs.Promises.{NotSmaller, AsBefore}
use Rattle.rewrite.proofs.Volumes.{never_smaller}

-- an outcome beside the old one
abbrev Before : Outcome → Outcome → Type 0
Before old new = NotSmaller (outcome_given old) (outcome_given new) × (fault_line old ≡ fault_line new)

same : (g : Given) → NotSmaller g g
same g = record { answer = refl; list = refl; place = refl; load = refl; volume = le_refl g.volume }

-- The same tests in turn: where they all pass what follows decides, else the refusal is the same.
in_turn_lem : (tests : List (Bool × Refusal)) (a b : CreditAnswer) → (Pass tests → NotSmaller (given a) (given b))
    → NotSmaller (given (in_turn refused a tests)) (given (in_turn refused b tests))
in_turn_lem [] a b h = h tt
in_turn_lem ((true, why) ∷ tests) a b h = in_turn_lem tests a b (λ p. h (refl, p))
in_turn_lem ((false, why) ∷ tests) a b h = same (given (refused why))

-- A target that is reached at depth 200 is reached on the grid.
on_grid_lem : (percents : ℕ → ℕ) (target : ℕ) → target ≤ percents highest_depth → depth_reaching percents target ≤ highest_depth
on_grid_lem percents target h = told (lt_or_le highest_depth (depth_reaching percents target))
  where
    told : (highest_depth < depth_reaching percents target) ⊎ (depth_reaching percents target ≤ highest_depth) → depth_reaching percents target ≤ highest_depth
    told (inl l) =
        let m = ltb-true (percents highest_depth) target (first_before (λ d. ltb (percents d) target) grid_depths highest_depth l) in
        absurd (omega arith)
    told (inr l) = l

-- Two rules for V, of which one is nowhere above the other, and both are within the limit.
module _ (old new : ℕ → ℕ) (below : (d : ℕ) → d ≤ highest_depth → old d ≤ new d) (fit : new highest_depth ≤ largest) where
  same_tests : (load impervious : ℕ) (in_range : Bool) (last : List (Bool × Refusal)) → tried load impervious old in_range last ≡ tried load impervious new in_range last
  same_tests load impervious in_range last =
      rw (le-leb (old highest_depth) largest (le_trans (below highest_depth (le_refl highest_depth)) fit), le-leb (new highest_depth) largest fit)

  tests_before : (a b : CreditAnswer) (load impervious : ℕ) (in_range : Bool) (last : List (Bool × Refusal))
      → (Pass (tried load impervious new in_range last) → NotSmaller (given a) (given b))
      → NotSmaller (given (in_turn refused a (tried load impervious old in_range last))) (given (in_turn refused b (tried load impervious new in_range last)))
  tests_before a b load impervious in_range last h =
      subst (λ (tests : List (Bool × Refusal)). NotSmaller (given (in_turn refused a tests)) (given (in_turn refused b (tried load impervious new in_range last))))
      (sym (same_tests load impervious in_range last))
      (in_turn_lem (tried load impervious new in_range last) a b h)

  worked_before : (w : Wanted) (load impervious : ℕ) (percents : ℕ → ℕ) (bases : ℕ → Basis)
      → NotSmaller (given (worked w load impervious old percents bases)) (given (worked w load impervious new percents bases))
  unfolding credit_by size_by
  worked_before (wanted.Credit v) load impervious percents bases =
      tests_before (credited load impervious old percents bases v.0) (credited load impervious new percents bases v.0) load impervious (leb v.0 largest) []
      (λ p. record { answer = refl; list = refl; place = refl; load = refl; volume = le_refl v.0 })
  worked_before (wanted.Size target) load impervious percents bases =
      tests_before (sized load impervious old percents bases target.0) (sized load impervious new percents bases target.0) load impervious (leb target.0 most_percent)
      (reached load impervious new percents bases target.0)
      (λ p.
      let grid = on_grid_lem percents target.0 (leb-true target.0 (percents highest_depth) p.1.1.1.1.0) in
      record { answer = refl; list = refl; place = refl; load = refl; volume = below (depth_reaching percents target.0) grid })

  on_sheet_before : (w : Wanted) (load impervious : ℕ) (ds rs ps : List ℕ) (mode : Mode) (r : ℕ)
      → NotSmaller (given (on_sheet w load impervious old ds rs ps mode r)) (given (on_sheet w load impervious new ds rs ps mode r))
  unfolding on_sheet
  on_sheet_before w load impervious ds rs ps mode r = at (admission_of ds rs ps mode r)
    where
      at : (x : Admission)
          → NotSmaller (given (after_admission (λ c. worked w load impervious old (percent_at ds ps c) (basis_at ds c)) x)) (given (after_admission (λ c. worked w load impervious new (percent_at ds ps c) (basis_at ds c)) x))
      at (Ok c) = worked_before w load impervious (percent_at ds ps c) (basis_at ds c)
      at (Err (Unfit fault)) = same (given (Err (Unfit fault)))
      at (Err (Refused why)) = same (given (refused why))

-- What crediting and sizing give back for a site,
module _ (w : Wanted) (n : Nutrient) (mode : Mode) (r : ℕ) where
  sheet_before : (sheet : Sheet) (parts : List SubArea) → total_area parts ≤ most_area
      → NotSmaller (given (by_sheet old_volume_of sheet w n parts mode r)) (given (by_sheet volume_of sheet w n parts mode r))
  sheet_before (lent ds rs ps) parts h =
      on_sheet_before (old_volume_of parts) (volume_of parts) (never_smaller parts) (fits parts h) w (load_of (export_rates n) parts) (impervious_area parts) ds rs ps mode r
  sheet_before (published practice) parts h =
      in_turn_lem ((is_published practice n, NoPublishedSheet) ∷ []) _ _
      (λ p. on_sheet_before (old_volume_of parts) (volume_of parts) (never_smaller parts) (fits parts h) w (load_of (export_rates n) parts) (impervious_area parts) depths (rates_of practice n) (percents_of practice n) mode r)

  answer_before : (sheet : Sheet) (s : Site) → NotSmaller (given (answer_by old_volume_of sheet w n s mode r)) (given (answer_of sheet w n s mode r))
  unfolding answer_of
  answer_before sheet s = at (judged s) refl
    where
      at : (x : Result Area Refusal) → judged s ≡ x
          → NotSmaller (given (after_judging refused (λ total. by_sheet old_volume_of sheet w n (parts_of s) mode r) x)) (given (after_judging refused (λ total. by_sheet volume_of sheet w n (parts_of s) mode r) x))
      at (Ok total) e = sheet_before sheet (parts_of s) (judged_fine s total e).total
      at (Err why) e = same (given (refused why))

  asked_before : (sheet : Sheet) (s : Site) → Before (of_credit (answer_by old_volume_of sheet w n s mode r)) (of_credit (answer_of sheet w n s mode r))
  asked_before sheet s =
      let old = answer_by old_volume_of sheet w n s mode r in
      let new = answer_of sheet w n s mode r in
      (rw (same_given old, same_given new) (answer_before sheet s), no_line old ∙ sym (no_line new))

-- and what a job does.
task_before : (t : Task) (sheet : Sheet) (j : Job) (s : Site) → Before (of_task_by (answer_by old_volume_of) t sheet j s) (of_task t sheet j s)
task_before Load sheet j s = (same (outcome_given (of_task Load sheet j s)), refl)
task_before Credit sheet j s = asked_before (credit j.amount) j.nutrient j.mode j.rate.0 sheet s
task_before Size sheet j s = asked_before (size j.amount) j.nutrient j.mode j.rate.0 sheet s

pub as_before : AsBefore
unfolding outcome_of
as_before sheet text = at (reading_of text)
  where
    at : (a : Result Reading Unread) → Before (of_reading (answer_by old_volume_of) sheet a) (of_reading answer_of sheet a)
    at (Ok r) = task_before r.job.task (sheet r.job.practice) r.job r.site
    at (Err u) = (same (given (refused u.why)), refl)
