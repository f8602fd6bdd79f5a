-- Rules, "Numbers to hold on to": the starred ones, and how credits are found, by computation of the definitions.
-- Assumes nothing.
use mathlib.Core.Path.{refl}
use Rattle.laws.specs.First.{first_from}
use Rattle.laws.specs.Sum.{sum_of}
use Rattle.runoff.specs.Runoff.{runoff_of, by_rows, from_row}
use Rattle.site.specs.Judging.{judged_from, rises_to, judged}
use Rattle.volume.specs.Volume.{volume_of}
use Rattle.volume.specs.Answers.{volume_answer}
use Rattle.sheet.specs.Sheet.{previous, in_step, lengths_fit, without_rates, offending_rate, verdict_of}
use Rattle.curve.specs.Curve.{height, fastest, curves_of, exact_in}
use Rattle.curve.specs.Basis.{basis_at}
use Rattle.curve.specs.Answers.{fastest_taken, rated, admission_of, percent_answer, reach_of}
use Rattle.credit.specs.Credit.{credit_by, size_by}
use Rattle.credit.specs.Answers.{on_sheet, answer_of}
use Rattle.credit.specs.Numbers.{Starred, HowFound}

pub starred_hold : Starred
unfolding first_from sum_of runoff_of by_rows from_row judged_from rises_to judged volume_of volume_answer previous in_step lengths_fit without_rates offending_rate verdict_of height fastest curves_of exact_in fastest_taken rated admission_of percent_answer reach_of credit_by size_by on_sheet answer_of
starred_hold = refl

pub how_found : HowFound
unfolding first_from sum_of runoff_of by_rows from_row judged_from rises_to judged volume_of previous in_step lengths_fit without_rates offending_rate verdict_of height fastest curves_of exact_in basis_at fastest_taken rated admission_of credit_by size_by on_sheet answer_of
how_found = refl
