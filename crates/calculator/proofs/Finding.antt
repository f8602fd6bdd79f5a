-- Laws of the outcome, case by case: what each call below found decides it.
-- Assumes nothing.
use Rattle.std.specs.Prelude.{Result, Ok, Err, Option, Some, None as none, ℕ, MatchResult, IsErrAnd}
use Rattle.std.proofs.lemmas.Result.{err_from_is_err_and}
use Prim.Native.Nat.{ℕ}
use mathlib.Core.List.{List}
use mathlib.Core.Path.{◌≡◌, refl, sym, ◌∙◌, ap}
use borrow.Author.Tests.{eq-eqb, ne_eqb}
use Rattle.refusal.specs.declared.Refusal.{Refusal}
use Rattle.refusal.specs.declared.Refusal.TheVariants.{AmountOutOfRange}
use Rattle.units.specs.declared.Load.{Load}
use Rattle.site.specs.declared.Site.{Site}
use Rattle.loads.specs.Loads.{load_answer}
use Rattle.curve.specs.declared.SheetError.{SheetError}
use Rattle.curve.specs.declared.SheetError.TheVariants as error
use Rattle.curve.specs.declared.Basis.TheVariants.{None}
use Rattle.credit.specs.declared.Figures.{Figures}
use Rattle.credit.specs.Credit.{CreditAnswer, figures}
use Rattle.sheet.specs.declared.Sheet.{Sheet as Lent}
use Rattle.units.specs.declared.Nutrient.{Nutrient}
use Rattle.curve.specs.declared.Mode.{Mode}
use Rattle.credit.specs.declared.Wanted.{Wanted}
use Rattle.calculator.specs.Inner.{sheet_for}
use Rattle.credit.specs.Answers.{Sheet, lent, published, answer_of, credit as credit_of, size as size_of}
use Rattle.job.specs.declared.Job.{Job}
use Rattle.job.specs.declared.Task.TheVariants as task
use Rattle.job.specs.declared.Reading.{Reading}
use Rattle.job.specs.declared.Unread.{Unread}
use Rattle.job.specs.Reading.{reading_of}
use Rattle.answer.specs.Outcomes.{Outcome, outside, failure_of}
use Rattle.answer.specs.declared.Failure.{Failure}
use Rattle.answer.specs.declared.Failure.TheVariants.{Refused}
use Rattle.answer.specs.Lines.{answer_text}
use Rattle.writing.specs.Writing.{written_of, buffer_of}
use Rattle.calculator.specs.Outcome.{of_credit, of_load_job, of_task, outcome_of}

module _ {found wanted : CreditAnswer} (told : found ≡ wanted) where
  -- The outcome of a credit answer.
  pub credit_found : {f : Figures} → found ≡ Ok f → Ok f ≡ of_credit wanted
  credit_found e = rw (← told, e)

  pub credit_refused : {cause : SheetError} {failure : Failure} → found ≡ Err cause → failure ≡ failure_of cause → Err failure ≡ of_credit wanted
  credit_refused {cause} e h = rw (← told, e, h) (same cause)
    where
      same : (cause : SheetError) → Err (failure_of cause) ≡ of_credit (Err cause)
      same (error.Unfit fault) = refl
      same (error.Refused why) = refl

-- A credit answer on the sheet that a job takes, by whether one is lent.
module _ {by : Option Lent} (practice : ℕ) (wanted : Wanted) (n : Nutrient) (s : Site) (mode : Mode) (r : ℕ) {found : CreditAnswer} where
  pub on_published : by ≡ none → found ≡ answer_of (published practice) wanted n s mode r → found ≡ answer_of (sheet_for by practice) wanted n s mode r
  on_published e h = rw e h

  pub on_lent : {sheet : Lent} → by ≡ Some sheet → found ≡ answer_of (lent sheet.depths.now sheet.rates.now sheet.percents.now) wanted n s mode r
      → found ≡ answer_of (sheet_for by practice) wanted n s mode r
  on_lent e h = rw e h

module _ (j : Job) (s : Site) where
  -- A load job with an amount is refused 9.
  pub load_amount : {failure : Failure} → (j.amount ≡ 0 → ⊥) → failure ≡ outside AmountOutOfRange → Err failure ≡ of_load_job j s
  unfolding of_load_job
  load_amount h e = rw e (simp (ne_eqb j.amount 0 h))

  module _ {found : Result Load Refusal} (z : j.amount ≡ 0) (told : found ≡ load_answer j.nutrient s) where
    pub load_found : {load : Load} → found ≡ Ok load → Ok (figures load.0 0 0 None 0 0) ≡ of_load_job j s
    unfolding of_load_job
    load_found e = rw (← told, e) (simp (eq-eqb j.amount 0 z))

    pub load_refused : {why : Refusal} {o : Outcome} → found ≡ Err why → IsErrAnd o (λ failure. failure ≡ outside why) → o ≡ of_load_job j s
    unfolding of_load_job
    load_refused {o = o} e h = let p = err_from_is_err_and o h in rw (p.1, p.2, ← told, e) (simp (eq-eqb j.amount 0 z))

module _ (sheet : Sheet) (j : Job) (s : Site) where
  pub task_load : {o : Outcome} → j.task ≡ task.Load → o ≡ of_load_job j s → o ≡ of_task j.task sheet j s
  unfolding of_load_job
  task_load e h = rw e h

  pub task_credit : {o : Outcome} → j.task ≡ task.Credit → o ≡ of_credit (answer_of sheet (credit_of j.amount) j.nutrient s j.mode j.rate.0)
      → o ≡ of_task j.task sheet j s
  task_credit e h = rw e h

  pub task_size : {o : Outcome} → j.task ≡ task.Size → o ≡ of_credit (answer_of sheet (size_of j.amount) j.nutrient s j.mode j.rate.0)
      → o ≡ of_task j.task sheet j s
  task_size e h = rw e h

-- What is read of a text, with an error of ours for its own.
found_ok : (g : Result Reading Unread) (found : Result Reading Failure) → MatchResult g (λ r. found ≡ Ok r) (λ u. IsErrAnd found (λ failure. failure ≡ Refused u.why u.line)) → {r : Reading} → found ≡ Ok r → g ≡ Ok r
found_ok (Ok b) found h {r} f =
    let same : ◌≡◌ {A = Result Reading Failure} (Ok b) (Ok r) = sym h ∙ f in
    let one : b ≡ r = cc in
    ap Ok one
found_ok (Err u) found h f = absurd (rw f at h)

found_err : (g : Result Reading Unread) (found : Result Reading Failure) → MatchResult g (λ r. found ≡ Ok r) (λ u. IsErrAnd found (λ failure. failure ≡ Refused u.why u.line)) → {failure : Failure} → found ≡ Err failure → (u : Unread) × ((g ≡ Err u) × (failure ≡ Refused u.why u.line))
found_err (Ok b) found h f = cc
found_err (Err u) found h f = (u, (refl, rw f at h))

-- A job that reads is worked out, and a text that does not is refused with its line.
module _ (sheet : ℕ → Sheet) (text : List ℕ) {g : Result Reading Unread} (told : g ≡ reading_of text) where
  pub reads : {r : Reading} {o : Outcome} → g ≡ Ok r → o ≡ of_task r.job.task (sheet r.job.practice) r.job r.site → o ≡ outcome_of sheet text
  unfolding outcome_of
  reads e h = rw (← told, e) h

  pub does_not_read : {u : Unread} → g ≡ Err u → Err (Refused u.why u.line) ≡ outcome_of sheet text
  unfolding outcome_of
  does_not_read e = rw (← told, e)

  -- The same of what `map_err` and `?` make of it.
  module _ {found : Result Reading Failure} (m : MatchResult g (λ r. found ≡ Ok r) (λ u. IsErrAnd found (λ failure. failure ≡ Refused u.why u.line))) where
    pub read_found : {r : Reading} {o : Outcome} → found ≡ Ok r → o ≡ of_task r.job.task (sheet r.job.practice) r.job r.site → o ≡ outcome_of sheet text
    read_found e = reads (found_ok g found m e)

    pub read_refused : {failure : Failure} {o : Outcome} → found ≡ Err failure → IsErrAnd o (λ x. x ≡ failure) → o ≡ outcome_of sheet text
    read_refused {o = o} e h =
        let u = found_err g found m e in
        let p = err_from_is_err_and o h in
        rw (p.1, p.2, u.1.1) (does_not_read u.1.0)

-- The text written is that of the outcome.
module _ {o p : Outcome} (e : o ≡ p) (buf : List ℕ) where
  pub written_is : {r : Result ℕ Refusal} → r ≡ written_of buf (answer_text o) → r ≡ written_of buf (answer_text p)
  written_is h = h ∙ ap (λ (x : Outcome). written_of buf (answer_text x)) e

  pub buffer_is : {after : List ℕ} → after ≡ buffer_of buf (answer_text o) → after ≡ buffer_of buf (answer_text p)
  buffer_is h = h ∙ ap (λ (x : Outcome). buffer_of buf (answer_text x)) e
