-- Every published sheet passes the sheet test, and every practice has one.
-- Assumes nothing.
use Prim.Native.Nat.{ℕ, ◌≤◌, ◌<◌}
use mathlib.Core.Bool.{Bool, true, cond}
use mathlib.Core.Logic.{⊎_elim}
use mathlib.Core.Path.{◌≡◌, refl}
use Rattle.std.specs.Prelude.{Result, Ok, Err}
use Rattle.laws.specs.First.{first_from}
use Rattle.laws.proofs.Order.{lt_or_le, never_both}
use Rattle.units.specs.declared.Nutrient.{Nutrient}
use Rattle.units.specs.declared.Nutrient.TheVariants.{P, N}
use Rattle.refusal.specs.Refusal.{granted}
use Rattle.sheet.specs.declared.Fault.{Fault}
use Rattle.sheet.specs.Sheet.{previous, in_step, lengths_fit, without_rates, offending_rate, verdict_of, given}
use Rattle.std.specs.Result.{is_ok}
use Rattle.published.specs.Tables.{depths}
use Rattle.published.specs.Published.{last_practice, rates_of, percents_of, is_published}
use Rattle.published.specs.Promises.{EverySheetPasses, EveryPracticeHasOne}
use Rattle.published.proofs.Sheets.{for_each, none_above}

ok_given : (v : Result (Unit {0}) Fault) → is_ok v ≡ true → given v ≡ (granted, 0, 0)
ok_given (Ok _) e = refl
ok_given (Err fault) e = cc

-- a practice without any column has no sheet to test
abbrev passes : Nutrient → ℕ → Bool
passes nutrient practice = cond (is_published practice nutrient) (is_ok (verdict_of depths (rates_of practice nutrient) (percents_of practice nutrient))) true

-- one test of the nine, for each nutrient
all_pass : (nutrient : Nutrient) (practice : ℕ) → practice ≤ last_practice → passes nutrient practice ≡ true
unfolding rates_of percents_of verdict_of lengths_fit offending_rate without_rates in_step previous first_from
all_pass P = for_each (passes P) refl
all_pass N = for_each (passes N) refl

pub every_sheet_passes : EverySheetPasses
every_sheet_passes practice nutrient e =
    ⊎_elim
    (λ (h : last_practice < practice). absurd (never_both e (none_above nutrient practice h)))
    (λ (h : practice ≤ last_practice).
    ok_given (verdict_of depths (rates_of practice nutrient) (percents_of practice nutrient)) (simp e at (all_pass nutrient practice h)))
    (lt_or_le last_practice practice)

pub every_practice_has_one : EveryPracticeHasOne
unfolding rates_of
every_practice_has_one practice P h = for_each (λ p. is_published p P) refl practice h
every_practice_has_one practice N h = for_each (λ p. is_published p N) refl practice h
