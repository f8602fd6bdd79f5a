-- What is said of crediting and sizing, carried to the texts that ask for it.
-- Assumes nothing.
use Prim.Native.Nat.{ℕ}
use mathlib.Core.List.{List}
use mathlib.Core.Path.{◌≡◌, refl, sym, ◌∙◌, ap}
use Rattle.site.specs.declared.Site.{Site}
use Rattle.std.specs.Prelude.{Ok, Err}
use Rattle.curve.specs.declared.SheetError.TheVariants as error
use Rattle.credit.specs.Credit.{CreditAnswer}
use Rattle.credit.specs.Answers.{Sheet, answer_of, credit as credit_of, size as size_of, Given, given as credit_given}
use Rattle.credit.specs.Promises.{Credited, Sized}
use Rattle.credit.proofs.Promises.{more_storage_never_less, higher_target_never_smaller, sizing_agrees, sized_is_least}
use Rattle.job.specs.declared.Job.{Job}
use Rattle.job.specs.declared.Task.TheVariants as task
use Rattle.answer.specs.Outcomes.{given, fault_line}
use Rattle.calculator.specs.Outcome.{of_credit, of_task, outcome_of}
use Rattle.calculator.proofs.Finding.{reads}
use Rattle.calculator.specs.Promises.{Answered, Reads, asking, CreditJob, SizeJob, TypedBack, MoreStorageInTexts, HigherTargetInTexts}

-- A text that reads has the outcome of its task.
pub worked_out : (sheet : ℕ → Sheet) (text : List ℕ) {j : Job} {s : Site} → Reads text j s
    → outcome_of sheet text ≡ of_task j.task (sheet j.practice) j s
worked_out sheet text {j} h = sym (reads sheet text (sym h) refl refl)

-- The outcome of a credit answer gives what the answer gives, and no line.
pub same_given : (a : CreditAnswer) → given (of_credit a) ≡ credit_given a
same_given (Ok f) = refl
same_given (Err (error.Unfit fault)) = refl
same_given (Err (error.Refused why)) = refl

pub no_line : (a : CreditAnswer) → fault_line (of_credit a) ≡ 0
no_line (Ok f) = refl
no_line (Err (error.Unfit fault)) = refl
no_line (Err (error.Refused why)) = refl

pub credit_job : CreditJob
credit_job sheet text j s h e =
    ap given (worked_out sheet text h)
    ∙ rw e (same_given (answer_of (sheet j.practice) (credit_of j.amount) j.nutrient s j.mode j.rate.0))

pub size_job : SizeJob
size_job sheet text j s h e =
    ap given (worked_out sheet text h)
    ∙ rw e (same_given (answer_of (sheet j.practice) (size_of j.amount) j.nutrient s j.mode j.rate.0))

-- The one law that carries a statement about `Credited` and `Sized` to texts: what a text gives back is what its task gives.
module _ (sheet : ℕ → Sheet) (j : Job) (s : Site) where
  abbrev credits : ℕ → Given
  credits v = Credited (sheet j.practice) j.nutrient s j.mode j.rate.0 v

  abbrev sizes : ℕ → Given
  sizes target = Sized (sheet j.practice) j.nutrient s j.mode j.rate.0 target

  credit_text : (text : List ℕ) (v : ℕ) → Reads text (asking j task.Credit v) s → Answered sheet text ≡ credits v
  credit_text text v h = credit_job sheet text (asking j task.Credit v) s h refl

  size_text : (text : List ℕ) (target : ℕ) → Reads text (asking j task.Size target) s → Answered sheet text ≡ sizes target
  size_text text target h = size_job sheet text (asking j task.Size target) s h refl

pub more_storage_in_texts : MoreStorageInTexts
more_storage_in_texts sheet j s v w less more h a b g k =
    let x = credit_text sheet j s less v a in
    let y = credit_text sheet j s more w b in
    rw (x, y)
    (more_storage_never_less (sheet j.practice) j.nutrient s j.mode j.rate.0 v w h (rw x at g) (rw y at k))

pub higher_target_in_texts : HigherTargetInTexts
higher_target_in_texts sheet j s t u lower higher h a b g k =
    let x = size_text sheet j s lower t a in
    let y = size_text sheet j s higher u b in
    rw (x, y)
    (higher_target_never_smaller (sheet j.practice) j.nutrient s j.mode j.rate.0 t u h (rw x at g) (rw y at k))

pub typed_back : TypedBack
typed_back sheet j s target asked a g v typed b =
    let x = size_text sheet j s asked target a in
    let y = credit_text sheet j s typed v b in
    let z = rw x at g in
    let l = sized_is_least (sheet j.practice) j.nutrient s j.mode j.rate.0 target z in
    rw (x, y) (
      λ e. rw e (sizing_agrees (sheet j.practice) j.nutrient s j.mode j.rate.0 target z, l.1),
      λ h. l.2 v h,
    )
