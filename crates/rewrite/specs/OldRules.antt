-- Rules, "A soil that is not known": the old rules, under which U was read as C in Table 3-4 too, kept for the promises on rewritten
-- jobs. Nothing else was different.
-- Assumes nothing.
use Rattle.std.specs.Prelude.{ℕ, ◌+◌, ◌*◌, List}
use Rattle.laws.specs.Sum.{sum_of}
use Rattle.units.specs.declared.Column.{Column}
use Rattle.units.specs.declared.Column.TheVariants as column
use Rattle.runoff.specs.Runoff.{runoff_of}
use Rattle.site.specs.declared.Soil.{Soil}
use Rattle.site.specs.declared.SubArea.{SubArea}
use Rattle.site.specs.Soils.{column_of}
use Rattle.site.specs.Parts.{area_of, impervious_area}
use Rattle.volume.specs.Volume.{if_pervious}
use Rattle.credit.specs.Answers.{Sheet, VolumeRule, answer_by}
use Rattle.answer.specs.Outcomes.{Outcome}
use Rattle.calculator.specs.Outcome.{outcome_by}

-- in Table 3-4 U was read as C
abbrev pub old_column : Soil → Column
old_column soil = column_of column.C soil

-- area × runoff(d, soil) of a pervious sub-area, as it was
abbrev pub old_runoff : ℕ → SubArea → ℕ
old_runoff d p = if_pervious p.cover (area_of p * runoff_of (old_column p.soil) d)

-- V(d) = 121 × (300 × d × impervious area + sum over pervious sub-areas of area × runoff(d, soil)), as it was
unfoldable pub old_volume_of : VolumeRule
old_volume_of ps d = 121 * (300 * d * impervious_area ps + sum_of (old_runoff d) ps)

-- the outcome that a job text had
abbrev pub old_outcome_of : (ℕ → Sheet) → List ℕ → Outcome
old_outcome_of = outcome_by (answer_by old_volume_of)
