-- What only private functions say: the sheet of a practice, where one may be lent in the place of the tables.
-- Assumes nothing.
use Rattle.std.specs.Prelude.{ℕ, Option, Some, None}
use Rattle.sheet.specs.declared.Sheet.{Sheet as Lent}
use Rattle.credit.specs.Answers.{Sheet}
use Rattle.calculator.specs.Outcome.{by_tables, by_lent}

abbrev pub sheet_for : Option Lent → ℕ → Sheet
sheet_for None = by_tables
sheet_for (Some sheet) = by_lent sheet.depths.now sheet.rates.now sheet.percents.now
