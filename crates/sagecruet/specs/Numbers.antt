-- Rules, "The numbers given back": what each call of the C interface gives back, from the numbers and values of the library's answers.
-- Assumes nothing.
use Rattle.refusal.specs.declared.Refusal.{Refusal}
use Rattle.units.specs.declared.Rate.{Rate}
use Rattle.std.specs.Prelude.{ℕ, ◌-◌, Bool, true, false, Float, Result}
use Rattle.sheet.specs.declared.Fault.{Fault}
use Rattle.sheet.specs.Sheet.{given as verdict_given}
use Rattle.curve.specs.declared.Mode.{Mode}
use Rattle.curve.specs.declared.Mode.TheVariants.{Step, Mix}
use Rattle.curve.specs.Answers.{PercentAnswer as CurveAnswer, given as percent_given}
use Rattle.probe.specs.declared.Reading.{Reading}
use Rattle.probe.specs.declared.Reading.TheVariants.{InchesPerHour, MillimetresPerHour}
use Rattle.probe.specs.Readings.{given as rate_given}
use Rattle.job.specs.declared.Span.{Span}
use Rattle.writing.specs.Writing.{written_given}
use Rattle.sagecruet.specs.declared.Check.{Check}
use Rattle.sagecruet.specs.declared.JobWritten.{JobWritten}
use Rattle.sagecruet.specs.declared.Part.{Part}
use Rattle.sagecruet.specs.declared.Verdict.{Verdict}
use Rattle.sagecruet.specs.declared.PercentAnswer.{PercentAnswer}
use Rattle.sagecruet.specs.declared.Value.{Value}

-- the length of the answer text that was written: 0 for refusal 13
abbrev pub of_written : Result ℕ Refusal → ℕ
of_written w = (written_given w).1

-- the number of a written job, and the length of its text
abbrev pub of_job : Result ℕ Refusal → JobWritten
of_job w = record { answer = (written_given w).0; len = (written_given w).1 }

-- the place of a part's first byte, and its length
abbrev pub of_span : Span → Part
of_span s = record { from = s.from; len = s.to - s.from }

-- the number of the wrong line, 0 for a yes, with the place of its first byte and its length
abbrev pub of_check : ℕ × Span → Check
of_check (line, place) = record { line = line; from = (of_span place).from; len = (of_span place).len }

-- the number of a verdict, with its list and its place
abbrev pub of_verdict : Result (Unit {0}) Fault → Verdict
of_verdict v = record { answer = (verdict_given v).0; list = (verdict_given v).1; place = (verdict_given v).2 }

-- the number of an answer, its percent with the number of its basis, and the list and place of refusal 5
abbrev pub of_percent : CurveAnswer → PercentAnswer
of_percent a =
    record {
      answer = (percent_given a).0;
      percent = (percent_given a).1;
      basis = (percent_given a).2;
      list = (percent_given a).3;
      place = (percent_given a).4;
    }

-- the number of an answer, and its rate
abbrev pub of_rate : Result Rate Refusal → Value
of_rate a = record { answer = (rate_given a).0; value = (rate_given a).1 }

-- a caller says true for mode mix, false for mode step
abbrev pub mode_of : Bool → Mode
mode_of true = Mix
mode_of false = Step

-- and true for millimetres per hour, false for inches per hour
abbrev pub reading_in : Bool → Float → Reading
reading_in true x = MillimetresPerHour x
reading_in false x = InchesPerHour x
