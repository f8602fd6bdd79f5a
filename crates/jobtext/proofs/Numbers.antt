-- The numbers of written jobs come out of the definitions.
-- Assumes nothing.
use mathlib.Core.Path.{refl}
use mathlib.Core.List.{flatten}
use Rattle.site.specs.Judging.{judged_from, rises_to, judged}
use Rattle.text.specs.Pieces.{joined, pieces}
use Rattle.text.specs.Numbers.{decimal_from, decimal_of}
use Rattle.writing.specs.Lines.{line_with}
use Rattle.writing.specs.Writing.{pasted, written_of, buffer_of}
use Rattle.jobtext.specs.Text.{area_text, job_text, job_written, job_buffer}
use Rattle.jobtext.specs.Records.{stored_all}
use Rattle.jobtext.specs.Numbers.{SampleWritten, Lengths, WrittenOrNot}

pub sample_written : SampleWritten
unfolding stored_all job_text area_text line_with flatten decimal_of decimal_from pieces joined
sample_written = refl

pub lengths : Lengths
unfolding stored_all job_text area_text line_with flatten decimal_of decimal_from pieces joined
lengths = refl

pub written_or_not : WrittenOrNot
unfolding job_written job_buffer judged judged_from rises_to written_of buffer_of pasted stored_all job_text area_text line_with flatten decimal_of decimal_from pieces joined
written_or_not = refl
