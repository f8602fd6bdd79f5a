-- A sheet is judged fine exactly when it keeps the rules.
-- Assumes nothing.
use Prim.Native.Nat.{ℕ, ◌+◌, ◌*◌, ◌≤◌, ◌<◌}
use mathlib.Core.Bool.{Bool, true, false, cond}
use mathlib.Core.List.{List}
use mathlib.Core.Logic.{◌⊎◌, inl, inr, ⊎_elim}
use mathlib.Core.Path.{◌≡◌, refl}
use native.Mathlib.Nat.{le_antisymm, le_of_eq, le_refl}
use native.Mathlib.Omega.{arith}
use lib.Dec.{leb, ltb}
use Rattle.std.specs.Prelude.{Result}
use lib.ListN.{length, get_or}
use borrow.Author.Tests.{leb-true, le-leb, ltb-false, le-ltb, eq-eqb}
use Rattle.laws.proofs.And.{and_left, and_right}
use Rattle.laws.proofs.First.{first_le, first_all, first_is}
use Rattle.laws.proofs.Order.{passes_or_fails, never_both}
use Rattle.units.specs.Limits.{most_rate, most_percent, highest_depth}
use Rattle.sheet.specs.declared.Fault.{Fault}
use Rattle.sheet.specs.declared.Part.{Part}
use Rattle.sheet.specs.declared.Part.TheVariants.{Lengths, Depths, Rates, Percents}
use Rattle.sheet.specs.Sheet.{most_depths, most_rates, previous, in_step, offending, offending_depth, offending_rate, offending_percent, lengths_fit, without_rates, unfit, fine, list_judged, verdict_of}
use Rattle.sheet.specs.Rules.{StepAt, InStep, Rules}
use Rattle.sheet.proofs.Lengths.{lengths_kept}

-- No unfit verdict is a fine one.
unfit_fine : {part : Part} {place : ℕ} → unfit part place ≡ fine → ⊥
unfit_fine e = cc

-- A choice comes out fine, where the other arm is unfit.
chose : (b : Bool) (v : Result (Unit {0}) Fault) → cond b v (unfit Lengths 0) ≡ fine → (b ≡ true) × (v ≡ fine)
chose true v e = (refl, e)
chose false v e = absurd (unfit_fine e)

passed_over : (b : Bool) (part : Part) (place : ℕ) (v : Result (Unit {0}) Fault) → cond b (unfit part place) v ≡ fine → (b ≡ false) × (v ≡ fine)
passed_over true part place v e = absurd (unfit_fine e)
passed_over false part place v e = (refl, e)

-- A list that is passed over has no offending place.
none : (part : Part) (place count : ℕ) (next : Result (Unit {0}) Fault) → list_judged part place count next ≡ fine → (count ≤ place) × (next ≡ fine)
none part place count next e =
    let p = passed_over (ltb place count) part place next e in
    (ltb-false place count p.0, p.1)

-- One list: no place offends exactly where every number is in step.
module _ (xs : List ℕ) (n gap most : ℕ) where
  pub in_step_is : (k : ℕ) → in_step gap most (previous xs n k) (get_or xs k 0) ≡ true → StepAt xs n gap most k
  unfolding in_step
  in_step_is k e =
      record {
        rises = leb-true (previous xs n k + gap) (get_or xs k 0) (and_left (leb (previous xs n k + gap) (get_or xs k 0)) (leb (get_or xs k 0) most) e);
        small = leb-true (get_or xs k 0) most (and_right (leb (previous xs n k + gap) (get_or xs k 0)) (leb (get_or xs k 0) most) e);
      }

  pub is_in_step : (k : ℕ) → StepAt xs n gap most k → in_step gap most (previous xs n k) (get_or xs k 0) ≡ true
  unfolding in_step
  is_in_step k p = simp (le-leb (previous xs n k + gap) (get_or xs k 0) p.rises, le-leb (get_or xs k 0) most p.small)

  pub none_offends : length xs ≤ offending xs n gap most → InStep xs n gap most
  none_offends h k l = in_step_is k (passes k l)
    where
      passes : (k : ℕ) → k < length xs → in_step gap most (previous xs n k) (get_or xs k 0) ≡ true
      passes =
          first_all (λ k. in_step gap most (previous xs n k) (get_or xs k 0)) (length xs)
          (le_antisymm (first_le (λ k. in_step gap most (previous xs n k) (get_or xs k 0)) (length xs)) h)

  pub in_step_none : InStep xs n gap most → length xs ≤ offending xs n gap most
  in_step_none s =
      le_of_eq
      (first_is (λ k. in_step gap most (previous xs n k) (get_or xs k 0)) (length xs) (length xs) (le_refl _)
      (λ k l. is_in_step k (s k l))
      (λ m. absurd (omega arith)))

module _ (rs : List ℕ) where
  pub rates_kept : length rs ≤ offending_rate rs → (without_rates rs ≡ true) ⊎ InStep rs (length rs) 1 most_rate
  unfolding offending_rate
  rates_kept h =
      ⊎_elim (λ (e : without_rates rs ≡ true). inl e)
      (λ (e : without_rates rs ≡ false). inr (none_offends rs (length rs) 1 most_rate (simp e at h)))
      (passes_or_fails (without_rates rs))

  pub kept_rates : (without_rates rs ≡ true) ⊎ InStep rs (length rs) 1 most_rate → length rs ≤ offending_rate rs
  unfolding offending_rate
  kept_rates s =
      ⊎_elim (λ (e : without_rates rs ≡ true). simp e (le_refl _))
      (λ (e : without_rates rs ≡ false).
      ⊎_elim (λ (f : without_rates rs ≡ true). absurd (never_both f e))
      (λ (s : InStep rs (length rs) 1 most_rate). simp e (in_step_none rs (length rs) 1 most_rate s)) s)
      (passes_or_fails (without_rates rs))

module _ (ds rs ps : List ℕ) where
  -- A sheet that is judged fine keeps the rules.
  pub fine_rules : verdict_of ds rs ps ≡ fine → Rules ds rs ps
  unfolding verdict_of
  fine_rules e =
      let percents = list_judged Percents (offending_percent (length ds) ps) (length ps) fine in
      let rates = list_judged Rates (offending_rate rs) (length rs) percents in
      let depths = list_judged Depths (offending_depth ds) (length ds) rates in
      let a = chose (lengths_fit (length ds) (length rs) (length ps)) depths e in
      let b = none Depths (offending_depth ds) (length ds) rates a.1 in
      let c = none Rates (offending_rate rs) (length rs) percents b.1 in
      let d = none Percents (offending_percent (length ds) ps) (length ps) fine c.1 in
      let l = lengths_kept (length ds) (length rs) (length ps) a.0 in
      record {
        some_depths = l.0;
        few_depths = l.1;
        some_rates = l.2;
        few_rates = l.3;
        one_each = l.4;
        depths = none_offends ds (length ds) 1 highest_depth b.0;
        rates = rates_kept rs c.0;
        percents = none_offends ps (length ds) 0 most_percent d.0;
      }

  -- A sheet that keeps the rules is judged fine.
  pub rules_fine : Rules ds rs ps → verdict_of ds rs ps ≡ fine
  unfolding verdict_of lengths_fit
  rules_fine s =
      simp (
        le-leb 1 (length ds) s.some_depths,
        le-leb (length ds) most_depths s.few_depths,
        le-leb 1 (length rs) s.some_rates,
        le-leb (length rs) most_rates s.few_rates,
        eq-eqb (length ps) (length rs * length ds) s.one_each,
        le-ltb (offending_depth ds) (length ds) (in_step_none ds (length ds) 1 highest_depth s.depths),
        le-ltb (offending_rate rs) (length rs) (kept_rates rs s.rates),
        le-ltb (offending_percent (length ds) ps) (length ps) (in_step_none ps (length ds) 0 most_percent s.percents),
      )
