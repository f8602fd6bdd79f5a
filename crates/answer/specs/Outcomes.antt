-- Rules, "The numbers given back": what a finished outcome gives, granted or refused.
-- Assumes nothing.
use Rattle.std.specs.Prelude.{ℕ, Result, Ok, Err}
use Rattle.refusal.specs.declared.Refusal.{Refusal}
use Rattle.refusal.specs.declared.Refusal.TheVariants.{UnfitSheet}
use Rattle.refusal.specs.Refusal.{number_of}
use Rattle.sheet.specs.Sheet.{part_number}
use Rattle.curve.specs.declared.SheetError.{SheetError}
use Rattle.curve.specs.declared.SheetError.TheVariants as error
use Rattle.credit.specs.declared.Figures.{Figures}
use Rattle.credit.specs.Answers.{Given, refused_with, given as credit_given}
use Rattle.answer.specs.declared.Failure.{Failure}
use Rattle.answer.specs.declared.Failure.TheVariants.{Refused, BadSheet}

-- how a job ended: its figures, or why it has none
abbrev pub Outcome : Type 0
Outcome = Result Figures Failure

-- a refusal that arose in no line of the job
abbrev pub outside : Refusal → Failure
outside why = Refused why 0

-- what a sheet and a site rate give no figures for
abbrev pub failure_of : SheetError → Failure
failure_of (error.Unfit fault) = BadSheet (part_number fault.part) fault.place
failure_of (error.Refused why) = outside why

-- the number and the values: those of crediting and sizing
abbrev pub given : Outcome → Given
given (Ok f) = credit_given (Ok f)
given (Err (Refused why k)) = credit_given (Err (error.Refused why))
given (Err (BadSheet list place)) = refused_with (number_of UnfitSheet) list place

-- the line of the job in which a refusal arose, 0 where it arose in none
abbrev pub fault_line : Outcome → ℕ
fault_line (Ok f) = 0
fault_line (Err (Refused why k)) = k
fault_line (Err (BadSheet list place)) = 0
