-- The numbers of checks come out of the definitions.
-- Assumes nothing.
use Rattle.std.specs.Prelude.{Err}
use Prim.Native.Nat.{ℕ, ◌<◌}
use mathlib.Core.List.{List, flatten}
use mathlib.Core.Path.{◌≡◌, refl, ◌∙◌, ap}
use lib.ListN.{length}
use borrow.Author.Tests.{lt-ltb}
use Rattle.laws.specs.Text.{bytes}
use Rattle.refusal.specs.declared.Refusal.TheVariants.{MalformedText}
use Rattle.site.specs.Judging.{judged_from, rises_to, judged}
use Rattle.site.specs.Adding.{add_answer, added_to, added}
use Rattle.text.specs.Part.{part_of}
use Rattle.text.specs.Pieces.{index_of, joined, pieces, start_of}
use Rattle.text.specs.Words.{same_of, agreed_of, place_from}
use Rattle.text.specs.Numbers.{digits_from, numeral_of, decimal_from, decimal_of}
use Rattle.job.specs.Lines.{value_of}
use Rattle.job.specs.Head.{head_from, head_of}
use Rattle.job.specs.Areas.{sub_area_from, sub_area_of, added_line, areas_from}
use Rattle.job.specs.Fault.{line_span}
use Rattle.job.specs.Reading.{most_bytes, behind_head, reading_of}
use Rattle.writing.specs.Lines.{line_with}
use Rattle.answer.specs.Lines.{answer_text}
use Rattle.answer.specs.declared.Failure.TheVariants.{Refused}
use Rattle.calculator.specs.Outcome.{by_tables, outcome_of}
use Rattle.calculator.proofs.Sample.{sample_answered}
use Rattle.review.specs.Checking.{checked_of, answer_for}
use Rattle.review.specs.Numbers.{refused_job, SampleChecked, RefusedJobChecked, LongJobChecked}

pub sample_checked : SampleChecked
unfolding checked_of same_of agreed_of pieces joined line_span start_of index_of part_of
sample_checked = rw sample_answered refl

refused_outcome : outcome_of by_tables refused_job ≡ Err (Refused MalformedText 8)
unfolding judged_from rises_to judged add_answer added_to added part_of index_of joined pieces same_of place_from digits_from numeral_of value_of head_from head_of sub_area_from sub_area_of added_line areas_from behind_head reading_of outcome_of
refused_outcome = refl

refused_answered : answer_for refused_job ≡ bytes "answer=1\nline=8\n"
unfolding flatten decimal_from decimal_of line_with answer_text
refused_answered = ap answer_text refused_outcome ∙ refl

pub refused_job_checked : RefusedJobChecked
unfolding checked_of same_of agreed_of pieces joined line_span start_of index_of part_of
refused_job_checked = rw refused_answered refl

long_outcome : (job : List ℕ) → most_bytes < length job → outcome_of by_tables job ≡ Err (Refused MalformedText 0)
unfolding reading_of outcome_of
long_outcome job h = simp (lt-ltb most_bytes (length job) h)

long_answered : (job : List ℕ) → most_bytes < length job → answer_for job ≡ bytes "answer=1\nline=0\n"
unfolding flatten decimal_from decimal_of line_with answer_text
long_answered job h = ap answer_text (long_outcome job h) ∙ refl

pub long_job_checked : LongJobChecked
unfolding checked_of same_of agreed_of pieces joined line_span start_of index_of part_of
long_job_checked job h = rw (long_answered job h) refl
