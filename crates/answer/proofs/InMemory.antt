-- What is known of an outcome in memory, whatever its machine value: its line and its figures are numbers of 64 bits.
-- Assumes nothing.
use Rattle.std.specs.Prelude.{Ok, Err}
use mathlib.Core.List.{List}
use borrow.Author.Rules.{rules}
use mir.Val.{Val}
use denote.Laws.{Is}
use denote.Enum.Declared.{Declared, row}
use denote.Enum.Laws.{Laws, owed}
use Rattle.std.specs.contracts.result.Result as result
use Rattle.std.proofs.result.Result.TheLaws as result_laws
use Rattle.credit.specs.contracts.Figures as figures
use Rattle.credit.proofs.Figures.TheLaws as figures_laws
use Rattle.answer.specs.contracts.Failure as failure
use Rattle.answer.proofs.Failure.TheLaws as failure_laws
use Rattle.answer.specs.declared.Failure.TheVariants.{Refused, BadSheet}
use Rattle.answer.specs.Outcomes.{Outcome}
use Rattle.answer.specs.Promises.{Wide}

-- how an outcome lies in memory, and the laws of that
abbrev pub the_type : Declared
the_type = result.the_type figures.the_row failure.the_row

abbrev pub the_laws : Laws the_type
the_laws =
    result_laws.the_laws figures.the_row failure.the_row
    figures_laws.the_row_laws failure_laws.the_row_laws figures_laws.the_told failure_laws.the_told

pub kept_wide : (o : Outcome) (vs : List Val) → Is (row the_type) o vs → Wide o
kept_wide (Ok f) vs i = let h = owed the_type the_laws (Ok f) vs i in search rules
kept_wide (Err (Refused why k)) vs i = let h = owed the_type the_laws (Err (Refused why k)) vs i in search rules
kept_wide (Err (BadSheet list place)) vs i = let h = owed the_type the_laws (Err (BadSheet list place)) vs i in search rules
