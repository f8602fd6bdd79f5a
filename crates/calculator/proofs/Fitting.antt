-- The refusal of a text is the one that fits: that of its reading, or that of its task.
-- Assumes nothing.
use Rattle.std.specs.Prelude.{Result, Ok, Err}
use Rattle.units.specs.declared.Load.{Load}
use Rattle.refusal.specs.declared.Refusal.{Refusal}
use Prim.Native.Nat.{ℕ, ◌<◌}
use mathlib.Core.Bool.{true}
use mathlib.Core.List.{List}
use mathlib.Core.Logic.{◌⊎◌, inl, inr, ⊎_elim, ◌↔◌}
use mathlib.Core.Path.{◌≡◌, refl, sym, ◌∙◌, ap, subst}
use native.Mathlib.Omega.{arith}
use borrow.Author.Tests.{eq-eqb, ne_eqb}
use Rattle.laws.proofs.Order.{never_both}
use Rattle.refusal.specs.declared.Refusal.TheVariants as refused
use Rattle.refusal.specs.Refusal.{number_of, granted}
use Rattle.refusal.proofs.Numbers.{refusal_not_granted}
use Rattle.units.specs.declared.Nutrient.{Nutrient}
use Rattle.site.specs.declared.Site.{Site}
use Rattle.site.specs.Parts.{parts_of}
use Rattle.site.specs.Judging.{judged, given as area_given}
use Rattle.loads.specs.Rates.{export_rates}
use Rattle.loads.specs.Loads.{load_of, load_answer, given as load_given}
use Rattle.loads.proofs.Promises.{load_granted_exactly}
use Rattle.curve.specs.declared.SheetError.TheVariants as error
use Rattle.credit.specs.declared.Wanted.{Wanted}
use Rattle.curve.specs.declared.Mode.{Mode}
use Rattle.curve.specs.declared.Basis.TheVariants.{None}
use Rattle.credit.specs.Credit.{figures}
use Rattle.credit.specs.Answers.{Sheet, Given, given as credit_given, answer_of, credit as credit_of, size as size_of}
use Rattle.credit.proofs.Refusing.{elsewhere, answered_elsewhere}
use Rattle.job.specs.declared.Job.{Job}
use Rattle.job.specs.declared.Task.{Task}
use Rattle.job.specs.declared.Task.TheVariants as task
use Rattle.job.specs.declared.Reading.{Reading}
use Rattle.job.specs.declared.Unread.{Unread}
use Rattle.job.specs.Reading.{reading_of, given as reading_given}
use Rattle.job.proofs.Promises.{site_beside}
use Rattle.job.proofs.Refusals.{refused_numbers}
use Rattle.answer.specs.Outcomes.{Outcome}
use Rattle.answer.specs.declared.Failure.TheVariants.{Refused, BadSheet}
use Rattle.answer.specs.Outcomes.{given, fault_line}
use Rattle.calculator.specs.Outcome.{of_load_job, of_task, outcome_of}
use Rattle.calculator.specs.Promises.{Answered, FaultLine, Reads, InALine, RefusalFits, NeverForNumbers, LoadJob}
use Rattle.site.proofs.Promises.{given_some}
use Rattle.calculator.proofs.Finding.{does_not_read}
use Rattle.calculator.proofs.InTexts.{worked_out, same_given, no_line}

-- A number that is none of those does not arise in a line,
not_in_a_line : (n : ℕ) → elsewhere n ≡ true → InALine n → ⊥
not_in_a_line n h l =
    ⊎_elim (λ (e : n ≡ 1). never_both (rw e at h) refl)
    (⊎_elim (λ (e : n ≡ 2). never_both (rw e at h) refl)
    (⊎_elim (λ (e : n ≡ 3). never_both (rw e at h) refl) (λ (e : n ≡ 14). never_both (rw e at h) refl)))
    l

-- and is not given for numbers of sub-areas; nor is one that arises in a line.
abbrev NotForNumbers : ℕ → Type 0
NotForNumbers n = (n ≡ number_of refused.NumberNotHeld → ⊥) × (n ≡ number_of refused.NumbersSpent → ⊥)

not_for_numbers : (n : ℕ) → elsewhere n ≡ true → NotForNumbers n
not_for_numbers n h = (λ e. never_both (rw e at h) refl, λ e. never_both (rw e at h) refl)

line_not_for_numbers : (n : ℕ) → InALine n → NotForNumbers n
line_not_for_numbers n l =
    ⊎_elim (λ (e : n ≡ 1). apart (omega arith))
    (⊎_elim (λ (e : n ≡ 2). apart (omega arith)) (⊎_elim (λ (e : n ≡ 3). apart (omega arith)) (λ (e : n ≡ 14). apart (omega arith))))
    l
  where
    apart : n < 16 → NotForNumbers n
    apart h = (λ e. omega arith, λ e. omega arith)

credit_elsewhere : (sheet : Sheet) (wanted : Wanted) (n : Nutrient) (s : Site) (mode : Mode) (r : ℕ) → (area_given (judged s)).0 ≡ granted
    → elsewhere (credit_given (answer_of sheet wanted n s mode r)).answer ≡ true
credit_elsewhere sheet wanted n s mode r f = let g = given_some (judged s) f in answered_elsewhere sheet wanted n s mode r g.0 g.1

-- The load of a record that is judged fine is the sum, and is granted.
load_sum_lem : (n : Nutrient) (s : Site) → (area_given (judged s)).0 ≡ granted → load_answer n s ≡ Ok (record { 0 = load_of (export_rates n) (parts_of s) })
load_sum_lem n s f = told (load_answer n s) ((load_granted_exactly n s (load_of (export_rates n) (parts_of s))).1 (f, refl))
  where
    told : (x : Result Load Refusal) → load_given x ≡ (granted, load_of (export_rates n) (parts_of s)) → x ≡ Ok (record { 0 = load_of (export_rates n) (parts_of s) })
    told (Ok l) e = ap (λ (p : ℕ × ℕ). Ok (record { 0 = p.1 })) e
    told (Err why) e = absurd (refusal_not_granted why (ap (λ (p : ℕ × ℕ). p.0) e))

-- The record beside a job that reads is judged fine.
reads_fine : (text : List ℕ) (j : Job) (s : Site) → Reads text j s → (area_given (judged s)).0 ≡ granted
reads_fine text j s h = rw h at ((site_beside text).0 (rw h))

zero_or_not : (n : ℕ) → (n ≡ 0) ⊎ (n ≡ 0 → ⊥)
zero_or_not ℕ.zero = inl refl
zero_or_not (ℕ.suc n) = inr (λ z. omega arith)

module _ (j : Job) (s : Site) (f : (area_given (judged s)).0 ≡ granted) where
  load_amounts : (j.amount ≡ 0 → of_load_job j s ≡ Ok (figures (load_of (export_rates j.nutrient) (parts_of s)) 0 0 None 0 0))
      × ((j.amount ≡ 0 → ⊥) → of_load_job j s ≡ Err (Refused refused.AmountOutOfRange 0))
  unfolding of_load_job
  load_amounts = (λ e. simp (eq-eqb j.amount 0 e, load_sum_lem j.nutrient s f), λ e. simp (ne_eqb j.amount 0 e))

  -- What holds of both holds of a load job's outcome.
  either_amount : (P : Outcome → Type 0) → P (Ok (figures (load_of (export_rates j.nutrient) (parts_of s)) 0 0 None 0 0))
      → P (Err (Refused refused.AmountOutOfRange 0)) → P (of_load_job j s)
  either_amount P g r =
      ⊎_elim (λ (z : j.amount ≡ 0). subst P (sym (load_amounts.0 z)) g) (λ (z : j.amount ≡ 0 → ⊥). subst P (sym (load_amounts.1 z)) r) (zero_or_not j.amount)

pub load_job_lem : LoadJob
unfolding of_load_job
load_job_lem sheet text j s h e =
    let f = reads_fine text j s h in
    let w = ap given (worked_out sheet text h) in
    let zero : j.amount ≡ 0 → Answered sheet text ≡ credit_given (Ok (figures (load_of (export_rates j.nutrient) (parts_of s)) 0 0 None 0 0)) =
    λ z. w ∙ rw e (ap given ((load_amounts j s f).0 z)) in
    let other : (j.amount ≡ 0 → ⊥) → Answered sheet text ≡ credit_given (Err (error.Refused refused.AmountOutOfRange)) =
    λ z. w ∙ rw e (ap given ((load_amounts j s f).1 z)) in (
      (
        λ g. ⊎_elim (λ (z : j.amount ≡ 0). z) (λ (z : j.amount ≡ 0 → ⊥). absurd (refusal_not_granted refused.AmountOutOfRange (rw (other z) at g))) (zero_or_not j.amount),
        λ z. rw (zero z),
      ),
      zero,
      other,
    )

-- What a text that reads is refused with does not arise in a line.
task_elsewhere : (t : Task) (sheet : Sheet) (j : Job) (s : Site) → (area_given (judged s)).0 ≡ granted
    → elsewhere (given (of_task t sheet j s)).answer ≡ true
task_elsewhere task.Load sheet j s f = either_amount j s f (λ o. elsewhere (given o).answer ≡ true) refl refl
task_elsewhere task.Credit sheet j s f = rw (same_given (answer_of sheet (credit_of j.amount) j.nutrient s j.mode j.rate.0)) (credit_elsewhere sheet (credit_of j.amount) j.nutrient s j.mode j.rate.0 f)
task_elsewhere task.Size sheet j s f = rw (same_given (answer_of sheet (size_of j.amount) j.nutrient s j.mode j.rate.0)) (credit_elsewhere sheet (size_of j.amount) j.nutrient s j.mode j.rate.0 f)

-- and it has no line.
task_line : (t : Task) (sheet : Sheet) (j : Job) (s : Site) → (area_given (judged s)).0 ≡ granted → fault_line (of_task t sheet j s) ≡ 0
task_line task.Load sheet j s f = either_amount j s f (λ o. fault_line o ≡ 0) refl refl
task_line task.Credit sheet j s f = no_line (answer_of sheet (credit_of j.amount) j.nutrient s j.mode j.rate.0)
task_line task.Size sheet j s f = no_line (answer_of sheet (size_of j.amount) j.nutrient s j.mode j.rate.0)

module _ (sheet : ℕ → Sheet) (text : List ℕ) where
  in_a_line : (number line : ℕ) → InALine number
      → ((((Answered sheet text).answer ≡ number) × (FaultLine sheet text ≡ line)) ↔ (reading_given (reading_of text) ≡ (number, line)))
  in_a_line number line l = told (reading_of text) refl
    where
      told : (a : Result Reading Unread) → reading_of text ≡ a
          → ((((Answered sheet text).answer ≡ number) × (FaultLine sheet text ≡ line)) ↔ (reading_given (reading_of text) ≡ (number, line)))
      told (Err u) h =
          rw (← does_not_read sheet text refl h, h) (
            λ e. λ i. (e.0 i, e.1 i),
            λ e. (ap (λ (p : ℕ × ℕ). p.0) e, ap (λ (p : ℕ × ℕ). p.1) e),
          )
      told (Ok r) h =
          let f = reads_fine text r.job r.site h in
          let w = ap given (worked_out sheet text {j = r.job} {s = r.site} h) in
          let away = task_elsewhere r.job.task (sheet r.job.practice) r.job r.site f in (
            λ e. absurd (not_in_a_line number (rw (sym (ap (λ (g : Given). g.answer) w) ∙ e.0) at away) l),
            λ e. absurd (not_in_a_line number (ap elsewhere (sym (ap (λ (p : ℕ × ℕ). p.0) (sym (ap reading_given h) ∙ e)))) l),
          )

pub refusal_fits : RefusalFits
refusal_fits sheet text = (
  in_a_line sheet text,
  λ j s h. ap fault_line (worked_out sheet text h) ∙ task_line j.task (sheet j.practice) j s (reads_fine text j s h),
  other_than_5 (outcome_of sheet text),
)
  where
    other_than_5 : (o : Outcome) → ((given o).answer ≡ number_of refused.UnfitSheet → ⊥) → ((given o).list ≡ 0) × ((given o).place ≡ 0)
    other_than_5 (Ok f) h = (refl, refl)
    other_than_5 (Err (Refused why k)) h = (refl, refl)
    other_than_5 (Err (BadSheet list place)) h = absurd (h refl)

pub never_for_numbers : NeverForNumbers
never_for_numbers sheet text = told (reading_of text) refl
  where
    told : (a : Result Reading Unread) → reading_of text ≡ a → NotForNumbers (Answered sheet text).answer
    told (Err u) h =
        rw (← does_not_read sheet text refl h)
        (line_not_for_numbers (number_of u.why) (rw h at (refused_numbers text (λ e. refusal_not_granted u.why (rw h at e)))))
    told (Ok r) h =
        let w = ap given (worked_out sheet text {j = r.job} {s = r.site} h) in
        rw w (not_for_numbers _ (task_elsewhere r.job.task (sheet r.job.practice) r.job r.site (reads_fine text r.job r.site h)))
