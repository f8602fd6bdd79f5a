-- Rules, "Job and answer text" and "The numbers given back": from a job text to its outcome.
-- Assumes nothing.
use Rattle.units.specs.declared.Load.{Load}
use Rattle.std.specs.Prelude.{ℕ, List, [], ◌∷◌, eqb, Result, Ok, Err}
use Rattle.laws.specs.Turn.{in_turn}
use Rattle.refusal.specs.declared.Refusal.{Refusal}
use Rattle.refusal.specs.declared.Refusal.TheVariants.{AmountOutOfRange}
use Rattle.site.specs.declared.Site.{Site}
use Rattle.loads.specs.Loads.{load_answer}
use Rattle.curve.specs.declared.SheetError.TheVariants as error
use Rattle.curve.specs.declared.Basis.TheVariants.{None}
use Rattle.credit.specs.Credit.{CreditAnswer, figures}
use Rattle.credit.specs.Answers.{Sheet, lent, published, Answering, answer_of, credit as credit_of, size as size_of}
use Rattle.job.specs.declared.Job.{Job}
use Rattle.job.specs.declared.Task.{Task}
use Rattle.job.specs.declared.Task.TheVariants as task
use Rattle.job.specs.declared.Reading.{Reading}
use Rattle.job.specs.declared.Unread.{Unread}
use Rattle.job.specs.Reading.{reading_of}
use Rattle.sheet.specs.Sheet.{part_number}
use Rattle.answer.specs.Outcomes.{Outcome}
use Rattle.answer.specs.declared.Failure.TheVariants.{Refused, BadSheet}

-- a refusal that arose in no line of the job
abbrev pub outside_lines : Refusal → Outcome
outside_lines why = Err (Refused why 0)

-- a granted load job gives the load and leaves the other four numbers 0, with no basis
abbrev pub of_load : Result Load Refusal → Outcome
of_load (Ok l) = Ok (figures l.0 0 0 None 0 0)
of_load (Err why) = outside_lines why

abbrev pub of_credit : CreditAnswer → Outcome
of_credit (Ok f) = Ok f
of_credit (Err (error.Unfit fault)) = Err (BadSheet (part_number fault.part) fault.place)
of_credit (Err (error.Refused why)) = outside_lines why

-- Task load tries only 9 and 15.
unfoldable pub of_load_job : Job → Site → Outcome
of_load_job j s = in_turn outside_lines (of_load (load_answer j.nutrient s)) ((eqb j.amount 0, AmountOutOfRange) ∷ [])

-- Amount is 0 for load, a volume for credit, a target percent for size.
abbrev pub of_task_by : Answering → Task → Sheet → Job → Site → Outcome
of_task_by answer task.Load sheet j s = of_load_job j s
of_task_by answer task.Credit sheet j s = of_credit (answer sheet (credit_of j.amount) j.nutrient s j.mode j.rate.0)
of_task_by answer task.Size sheet j s = of_credit (answer sheet (size_of j.amount) j.nutrient s j.mode j.rate.0)

-- the same by the rules
abbrev pub of_task : Task → Sheet → Job → Site → Outcome
of_task = of_task_by answer_of

-- the sheet of a practice number: the published one, or a lent sheet in the place of them all
abbrev pub by_tables : ℕ → Sheet
by_tables practice = published practice

abbrev pub by_lent : List ℕ → List ℕ → List ℕ → ℕ → Sheet
by_lent ds rs ps practice = lent ds rs ps

-- a text that does not read is refused with its line; a job that reads is worked out
abbrev pub of_reading : Answering → (ℕ → Sheet) → Result Reading Unread → Outcome
of_reading answer sheet (Ok r) = of_task_by answer r.job.task (sheet r.job.practice) r.job r.site
of_reading answer sheet (Err u) = Err (Refused u.why u.line)

-- the outcome of a job text, a credit or a size of it answered as is given
abbrev pub outcome_by : Answering → (ℕ → Sheet) → List ℕ → Outcome
outcome_by answer sheet text = of_reading answer sheet (reading_of text)

-- the outcome of a job text, by the rules
unfoldable pub outcome_of : (ℕ → Sheet) → List ℕ → Outcome
outcome_of sheet text = outcome_by answer_of sheet text
