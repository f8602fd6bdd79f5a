-- The sample job, from its bytes to the bytes of its answer, by computation of the definitions.
-- Assumes nothing.
use Rattle.std.specs.Prelude.{Ok}
use mathlib.Core.List.{flatten}
use mathlib.Core.Path.{◌≡◌, refl, ◌∙◌, ap}
use lib.ListN.{length}
use Rattle.laws.specs.Sum.{sum_of}
use Rattle.site.specs.Judging.{judged_from, rises_to, judged}
use Rattle.site.specs.Adding.{add_answer, added_to, added}
use Rattle.loads.specs.Loads.{load_under}
use Rattle.curve.specs.declared.Basis.TheVariants.{None}
use Rattle.credit.specs.Credit.{figures}
use Rattle.text.specs.Part.{part_of}
use Rattle.text.specs.Pieces.{index_of, joined, pieces}
use Rattle.text.specs.Words.{same_of, place_from}
use Rattle.text.specs.Numbers.{digits_from, numeral_of, decimal_from, decimal_of}
use Rattle.job.specs.Lines.{value_of}
use Rattle.job.specs.Head.{head_from, head_of}
use Rattle.job.specs.Areas.{sub_area_from, sub_area_of, added_line, areas_from}
use Rattle.job.specs.Reading.{behind_head, reading_of}
use Rattle.writing.specs.Lines.{line_with}
use Rattle.answer.specs.Lines.{answer_text}
use Rattle.calculator.specs.Outcome.{of_load_job, by_tables, outcome_of}
use Rattle.calculator.specs.Promises.{sample_job, sample_text, SampleAnswered, SampleLong}

sample_outcome : outcome_of by_tables sample_job ≡ Ok (figures 1_568_350 0 0 None 0 0)
unfolding sum_of judged_from rises_to judged add_answer added_to added load_under part_of index_of joined pieces same_of place_from digits_from numeral_of value_of head_from head_of sub_area_from sub_area_of added_line areas_from behind_head reading_of of_load_job outcome_of
sample_outcome = refl

sample_text_lem : answer_text (Ok (figures 1_568_350 0 0 None 0 0)) ≡ sample_text
unfolding flatten joined pieces decimal_from decimal_of line_with answer_text
sample_text_lem = refl

pub sample_answered : SampleAnswered
sample_answered = ap answer_text sample_outcome ∙ sample_text_lem

pub sample_long : SampleLong
sample_long = ap length sample_answered
