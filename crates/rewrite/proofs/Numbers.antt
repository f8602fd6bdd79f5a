-- Rules, "A soil that is not known": the numbers before and since, by computation of the definitions.
-- Assumes nothing.
use Rattle.std.specs.Prelude.{Ok}
use Prim.Native.Nat.{ℕ}
use mathlib.Core.List.{List, flatten}
use mathlib.Core.Path.{◌≡◌, refl, sym, ◌∙◌, ap}
use Rattle.laws.specs.First.{first_from}
use Rattle.laws.specs.Sum.{sum_of}
use Rattle.runoff.specs.Runoff.{runoff_of, by_rows, from_row}
use Rattle.site.specs.Judging.{judged_from, rises_to, judged}
use Rattle.site.specs.Adding.{add_answer, added_to, added}
use Rattle.volume.specs.Volume.{volume_of}
use Rattle.sheet.specs.Sheet.{previous, in_step, lengths_fit, without_rates, offending_rate, verdict_of}
use Rattle.published.specs.Published.{rates_of, percents_of}
use Rattle.curve.specs.declared.Basis.TheVariants.{Between}
use Rattle.curve.specs.Curve.{height, fastest, curves_of, exact_in}
use Rattle.curve.specs.Basis.{basis_at}
use Rattle.curve.specs.Answers.{fastest_taken, rated, admission_of}
use Rattle.credit.specs.Credit.{figures, credit_by, size_by}
use Rattle.credit.specs.Answers.{on_sheet, answer_of}
use Rattle.text.specs.Part.{part_of}
use Rattle.text.specs.Pieces.{index_of, joined, pieces}
use Rattle.text.specs.Words.{same_of, place_from}
use Rattle.text.specs.Numbers.{digits_from, numeral_of, decimal_from, decimal_of}
use Rattle.job.specs.Lines.{value_of}
use Rattle.job.specs.Head.{head_from, head_of}
use Rattle.job.specs.Areas.{sub_area_from, sub_area_of, added_line, areas_from}
use Rattle.job.specs.Reading.{behind_head, reading_of}
use Rattle.writing.specs.Lines.{line_with}
use Rattle.answer.specs.Lines.{answer_text}
use Rattle.calculator.specs.Outcome.{by_tables, outcome_of}
use Rattle.rewrite.specs.Rewriting.{rewritten_of}
use Rattle.rewrite.specs.OldRules.{old_volume_of, old_outcome_of}
use Rattle.rewrite.specs.Numbers.{VolumesSince, LoadsStay, SizesBefore, SizesSince, WetlandRewritten, WetlandAnswered, BasinAnswered, wetland_job, basin_job}
use Rattle.rewrite.proofs.Promises.{keeps_the_old_answer}

pub volumes_since : VolumesSince
unfolding sum_of runoff_of by_rows from_row volume_of old_volume_of
volumes_since = refl

pub loads_stay : LoadsStay
unfolding sum_of
loads_stay = refl

pub sizes_before : SizesBefore
unfolding first_from sum_of runoff_of by_rows from_row judged_from rises_to judged previous in_step lengths_fit without_rates offending_rate verdict_of height fastest curves_of exact_in basis_at fastest_taken rated admission_of credit_by size_by on_sheet old_volume_of
sizes_before = refl

pub sizes_since : SizesSince
unfolding first_from sum_of runoff_of by_rows from_row judged_from rises_to judged volume_of previous in_step lengths_fit without_rates offending_rate verdict_of height fastest curves_of exact_in basis_at fastest_taken rated admission_of credit_by size_by on_sheet answer_of
sizes_since = refl

pub wetland_rewritten : WetlandRewritten
unfolding rewritten_of judged_from rises_to judged add_answer added_to added part_of index_of joined pieces same_of place_from digits_from numeral_of value_of head_from head_of sub_area_from sub_area_of added_line areas_from behind_head reading_of
wetland_rewritten = refl

-- the outcomes of both jobs, before and since, and their texts
outcomes_told : (old_outcome_of by_tables wetland_job ≡ Ok (figures 637_650 120 70_400 Between 2_000_000_000 448_905))
    × (outcome_of by_tables wetland_job ≡ Ok (figures 637_650 107 68_840 Between 2_000_000_000 438_958))
    × (old_outcome_of by_tables basin_job ≡ Ok (figures 52_046 36 70_000 Between 364_161_600 36_432))
    × (outcome_of by_tables basin_job ≡ Ok (figures 52_046 36 70_000 Between 392_475_600 36_432))
unfolding first_from sum_of runoff_of by_rows from_row judged_from rises_to judged add_answer added_to added volume_of old_volume_of rates_of percents_of previous in_step lengths_fit without_rates offending_rate verdict_of height fastest curves_of exact_in basis_at fastest_taken rated admission_of credit_by size_by on_sheet answer_of part_of index_of joined pieces same_of place_from digits_from numeral_of value_of head_from head_of sub_area_from sub_area_of added_line areas_from behind_head reading_of outcome_of
outcomes_told = (refl, refl, refl, refl)

pub wetland_answered : WetlandAnswered
unfolding flatten joined pieces decimal_from decimal_of line_with answer_text
wetland_answered =
    let before = ap answer_text outcomes_told.0 in (
      before,
      ap answer_text outcomes_told.1,
      ap (λ (t : List ℕ). answer_text (outcome_of by_tables t)) (sym wetland_rewritten) ∙ ap answer_text (keeps_the_old_answer by_tables wetland_job) ∙ before,
    )

pub basin_answered : BasinAnswered
unfolding flatten joined pieces decimal_from decimal_of line_with answer_text
basin_answered = (ap answer_text outcomes_told.2, ap answer_text outcomes_told.3)
