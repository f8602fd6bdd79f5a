-- Rules, "The three demands", of job texts: what is promised of every text, on the tables and on every lent sheet, through the
-- numbers and values given back. Proved in proofs/Promises.antt and proofs/InTexts.antt.
-- Assumes nothing.
use Rattle.std.specs.Prelude.{ℕ, ◌≤◌, ◌<◌, List, ◌++◌, ◌⊎◌, ◌↔◌, ◌≡◌, length, drop, Ok, Err}
use Rattle.laws.specs.Text.{bytes}
use Rattle.refusal.specs.declared.Refusal.{Refusal}
use Rattle.refusal.specs.declared.Refusal.TheVariants.{MalformedText, UnfitSubArea, TotalAreaPassed, UnfitSheet, AmountOutOfRange, SiteFull, NumberNotHeld, NumbersSpent}
use Rattle.refusal.specs.Refusal.{number_of, granted}
use Rattle.site.specs.declared.Site.{Site}
use Rattle.site.specs.Parts.{parts_of}
use Rattle.loads.specs.Rates.{export_rates}
use Rattle.loads.specs.Loads.{load_of}
use Rattle.curve.specs.declared.SheetError.TheVariants as error
use Rattle.curve.specs.declared.Basis.TheVariants.{None}
use Rattle.credit.specs.Credit.{figures}
use Rattle.credit.specs.Answers.{Sheet, Given, given as credit_given}
use Rattle.credit.specs.Promises.{Credited, Sized}
use Rattle.job.specs.declared.Job.{Job}
use Rattle.job.specs.declared.Task.{Task}
use Rattle.job.specs.declared.Task.TheVariants as task
use Rattle.job.specs.Reading.{reading_of, given as reading_given}
use Rattle.answer.specs.Outcomes.{given, fault_line}
use Rattle.answer.specs.Lines.{answer_text}
use Rattle.writing.specs.Writing.{written_of, buffer_of, written_given}
use Rattle.calculator.specs.Outcome.{by_tables, outcome_of}

-- what a job text gives back: the number and the values, and the line of a refusal
abbrev pub Answered : (ℕ → Sheet) → List ℕ → Given
Answered sheet text = given (outcome_of sheet text)

abbrev pub FaultLine : (ℕ → Sheet) → List ℕ → ℕ
FaultLine sheet text = fault_line (outcome_of sheet text)

-- a text reads as a job on a site
abbrev pub Reads : List ℕ → Job → Site → Type 0
Reads text j s = reading_of text ≡ Ok (record { job = j; site = s })

-- all result values but the place of the fault are zero, and there is no basis
pub record Zeros (g : Given) : Type 0 where
  pub load : g.load ≡ 0
  pub depth : g.depth ≡ 0
  pub percent : g.percent ≡ 0
  pub basis : g.basis ≡ None
  pub volume : g.volume ≡ 0
  pub removed : g.removed ≡ 0

-- Demand 1, every job text is answered: each is granted, and then no fault has a place, or is refused with a number that is not 0, and
-- then all result values but the place of the fault are zero. This is what the type of an outcome gives: it is true of every calculator.
abbrev pub EveryTextAnswered : Type 0
EveryTextAnswered =
    (sheet : ℕ → Sheet) (text : List ℕ)
    → (((Answered sheet text).answer ≡ granted)
    × (FaultLine sheet text ≡ 0)
    × ((Answered sheet text).list ≡ 0)
    × ((Answered sheet text).place ≡ 0))
    ⊎ (((Answered sheet text).answer ≡ granted → ⊥) × Zeros (Answered sheet text))

-- A text that does not read gives back the number and the line of its reading, on the tables and on every lent sheet.
abbrev pub UnreadIsRefused : Type 0
UnreadIsRefused =
    (sheet : ℕ → Sheet) (text : List ℕ) (why : Refusal) (line : ℕ)
    → reading_of text ≡ Err (record { why = why; line = line })
    → ((Answered sheet text).answer ≡ number_of why) × (FaultLine sheet text ≡ line)

-- the refusals that arise in a line of the text: 1, 2, 3 and 14
abbrev pub InALine : ℕ → Type 0
InALine number =
    (number ≡ number_of MalformedText)
    ⊎ ((number ≡ number_of UnfitSubArea)
    ⊎ ((number ≡ number_of TotalAreaPassed)
    ⊎ (number ≡ number_of SiteFull)))

-- Demand 1, a refusal is the one that fits: a text is refused with 1, 2, 3 or 14 and a line exactly where its reading is refused
-- so, with that number and line; a text that reads has no line, and its number is that of its task's own answer, by LoadJob, CreditJob
-- and SizeJob; and list and place are other than 0 only beside 5.
abbrev pub RefusalFits : Type 0
RefusalFits =
    (sheet : ℕ → Sheet) (text : List ℕ)
    → ((number line : ℕ)
    → InALine number
    → ((((Answered sheet text).answer ≡ number) × (FaultLine sheet text ≡ line)) ↔ (reading_given (reading_of text) ≡ (number, line))))
    × ((j : Job) (s : Site) → Reads text j s → FaultLine sheet text ≡ 0)
    × (((Answered sheet text).answer ≡ number_of UnfitSheet → ⊥) → ((Answered sheet text).list ≡ 0) × ((Answered sheet text).place ≡ 0))

-- The numbers of sub-areas are no matter of a job: those of its site are in order, and there are enough, so no text is refused 16 or 17.
abbrev pub NeverForNumbers : Type 0
NeverForNumbers =
    (sheet : ℕ → Sheet) (text : List ℕ)
    → ((Answered sheet text).answer ≡ number_of NumberNotHeld → ⊥) × ((Answered sheet text).answer ≡ number_of NumbersSpent → ⊥)

-- Demand 2, of a load job: it is granted exactly where its amount is 0, since 15 does not arise, and gives the load of its site and zeros
-- for the other four, with no basis; with another amount it is refused 9.
abbrev pub LoadJob : Type 0
LoadJob =
    (sheet : ℕ → Sheet) (text : List ℕ) (j : Job) (s : Site)
    → Reads text j s
    → j.task ≡ task.Load
    → (((Answered sheet text).answer ≡ granted) ↔ (j.amount ≡ 0))
    × (j.amount ≡ 0
    → Answered sheet text ≡ credit_given (Ok (figures (load_of (export_rates j.nutrient) (parts_of s)) 0 0 None 0 0)))
    × ((j.amount ≡ 0 → ⊥) → Answered sheet text ≡ credit_given (Err (error.Refused AmountOutOfRange)))

-- of a credit job: it gives what crediting its amount gives, on the sheet of its practice,
abbrev pub CreditJob : Type 0
CreditJob =
    (sheet : ℕ → Sheet) (text : List ℕ) (j : Job) (s : Site)
    → Reads text j s
    → j.task ≡ task.Credit
    → Answered sheet text ≡ Credited (sheet j.practice) j.nutrient s j.mode j.rate.0 j.amount

-- and of a size job: it gives what sizing its amount gives.
abbrev pub SizeJob : Type 0
SizeJob =
    (sheet : ℕ → Sheet) (text : List ℕ) (j : Job) (s : Site)
    → Reads text j s
    → j.task ≡ task.Size
    → Answered sheet text ≡ Sized (sheet j.practice) j.nutrient s j.mode j.rate.0 j.amount

-- a job with another task and amount: practice, nutrient, mode and rate are kept
abbrev pub asking : Job → Task → ℕ → Job
asking j task amount =
    record { practice = j.practice; nutrient = j.nutrient; mode = j.mode; rate = j.rate; task = task; amount = amount }

-- Demand 3, the volume that is given is credited with at least its target, and every smaller volume with less: where a size job is
-- granted a volume, every text that reads as the same job with task credit and that volume gives the same, the basis included, with a
-- credit of at least the target; and with any smaller amount it is granted, with a credit below the target.
abbrev pub TypedBack : Type 0
TypedBack =
    (sheet : ℕ → Sheet) (j : Job) (s : Site) (target : ℕ) (asked : List ℕ)
    → Reads asked (asking j task.Size target) s
    → (Answered sheet asked).answer ≡ granted
    → (v : ℕ) (typed : List ℕ)
    → Reads typed (asking j task.Credit v) s
    → (v ≡ (Answered sheet asked).volume
    → (Answered sheet typed ≡ Answered sheet asked) × (target ≤ (Answered sheet typed).percent))
    × (v < (Answered sheet asked).volume
    → ((Answered sheet typed).answer ≡ granted) × ((Answered sheet typed).percent < target))

-- More storage never lowers the percent, nor the removed load.
abbrev pub MoreStorageInTexts : Type 0
MoreStorageInTexts =
    (sheet : ℕ → Sheet) (j : Job) (s : Site) (v w : ℕ) (less more : List ℕ)
    → v ≤ w
    → Reads less (asking j task.Credit v) s
    → Reads more (asking j task.Credit w) s
    → (Answered sheet less).answer ≡ granted
    → (Answered sheet more).answer ≡ granted
    → ((Answered sheet less).percent ≤ (Answered sheet more).percent) × ((Answered sheet less).removed ≤ (Answered sheet more).removed)

-- A higher target never gets a smaller volume.
abbrev pub HigherTargetInTexts : Type 0
HigherTargetInTexts =
    (sheet : ℕ → Sheet) (j : Job) (s : Site) (t u : ℕ) (lower higher : List ℕ)
    → t ≤ u
    → Reads lower (asking j task.Size t) s
    → Reads higher (asking j task.Size u) s
    → (Answered sheet lower).answer ≡ granted
    → (Answered sheet higher).answer ≡ granted
    → (Answered sheet lower).volume ≤ (Answered sheet higher).volume

-- the sample job, jobs/sample.job, and the text of its answer
abbrev pub sample_job : List ℕ
sample_job =
    bytes
    "practice=basin\nnutrient=N\nmode=step\nrate=0\ntask=load\namount=0\narea=ind,imp,-,1013\narea=com,per,C,185\narea=for,per,C,89\n"

abbrev pub sample_text : List ℕ
sample_text = bytes "answer=0\nload=1568350\ndepth=0\ncredit=0\nbasis=none\nvolume=0\nremoved=0\n"

-- The sample job is answered so, from its bytes to the bytes of its answer,
abbrev pub SampleAnswered : Type 0
SampleAnswered = answer_text (outcome_of by_tables sample_job) ≡ sample_text

-- of which there are 69.
abbrev pub SampleLong : Type 0
SampleLong = length (answer_text (outcome_of by_tables sample_job)) ≡ 69

-- A lent buffer holds what it held before where the writing is refused; where it is granted, all behind the text is as it was.
abbrev pub BufferKept : Type 0
BufferKept =
    (sheet : ℕ → Sheet) (text buf : List ℕ)
    → (((written_given (written_of buf (answer_text (outcome_of sheet text)))).0 ≡ granted → ⊥) → buffer_of buf (answer_text (outcome_of sheet text)) ≡ buf)
    × (length (answer_text (outcome_of sheet text)) ≤ length buf
    → buffer_of buf (answer_text (outcome_of sheet text)) ≡ answer_text (outcome_of sheet text) ++ drop (length (answer_text (outcome_of sheet text))) buf)
