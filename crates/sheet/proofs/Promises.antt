-- The promises hold: a sheet is judged fine exactly when it keeps the rules, and else refused at the first list and place that offend.
-- Assumes nothing.
use Prim.Native.Nat.{ℕ, ◌≤◌, ◌<◌}
use mathlib.Core.Bool.{Bool, true, false, cond}
use mathlib.Core.List.{List}
use mathlib.Core.Logic.{⊎_elim}
use mathlib.Core.Path.{◌≡◌, refl, sym, ap}
use native.Mathlib.Nat.{le_of_lt}
use native.Mathlib.Omega.{arith}
use lib.Dec.{ltb}
use Rattle.std.specs.Prelude.{Result, Ok, Err}
use lib.ListN.{length, get_or}
use borrow.Author.Tests.{ltb-true, ltb-false}
use Rattle.laws.proofs.First.{first_before, first_fails, first_is}
use Rattle.laws.proofs.Order.{passes_or_fails, never_both}
use Rattle.refusal.specs.declared.Refusal.TheVariants.{UnfitSheet}
use Rattle.refusal.specs.Refusal.{number_of, granted}
use Rattle.refusal.proofs.Numbers.{refusal_not_granted}
use Rattle.units.specs.Limits.{most_rate, most_percent, highest_depth}
use Rattle.sheet.specs.declared.Fault.{Fault}
use Rattle.sheet.specs.declared.Part.TheVariants.{Lengths, Depths, Rates, Percents}
use Rattle.sheet.specs.Sheet.{previous, in_step, offending, offending_depth, offending_rate, offending_percent, lengths_fit, without_rates, unfit, fine, verdict_of, given}
use Rattle.sheet.specs.Promises.{FineExactly, FirstOut, Fit, UnfitAt, FirstOffending, RefusedExactly}
use Rattle.sheet.proofs.Rules.{in_step_is, is_in_step, none_offends, in_step_none, rates_kept, kept_rates, fine_rules, rules_fine}
use Rattle.sheet.proofs.Verdicts.{unfit_lengths, unfit_depths, unfit_rates, unfit_percents}

pub fine_exactly : FineExactly
fine_exactly ds rs ps = (λ e. fine_rules ds rs ps (told (verdict_of ds rs ps) e), λ r. ap (λ (v : Result (Unit {0}) Fault). (given v).0) (rules_fine ds rs ps r))
  where
    told : (v : Result (Unit {0}) Fault) → (given v).0 ≡ granted → v ≡ fine
    told (Ok _) e = refl
    told (Err fault) e = absurd (refusal_not_granted UnfitSheet e)

-- An offending place below the length is the first that is out of step.
module _ (xs : List ℕ) (n gap most : ℕ) where
  abbrev test : ℕ → Bool
  test k = in_step gap most (previous xs n k) (get_or xs k 0)

  out_first : {place : ℕ} → offending xs n gap most ≡ place → offending xs n gap most < length xs → FirstOut xs n gap most place
  out_first e h =
      rw (sym e)
      (record {
        within = h;
        before = λ k l. in_step_is xs n gap most k (first_before test (length xs) k l);
        there = λ s. never_both (is_in_step xs n gap most (offending xs n gap most) s) (first_fails test (length xs) h);
      })

  first_out : {place : ℕ} → FirstOut xs n gap most place → place ≡ offending xs n gap most
  first_out {place} f =
      first_is test (length xs) place (le_of_lt f.within) (λ k l. is_in_step xs n gap most k (f.before k l))
      (λ l. ⊎_elim (λ (e : test place ≡ true). absurd (f.there (in_step_is xs n gap most place e))) (λ (e : test place ≡ false). e)
      (passes_or_fails (test place)))

-- The verdict as its four tests make it, with the places of the three lists.
abbrev chain : Bool → Bool → Bool → Bool → ℕ → ℕ → ℕ → Result (Unit {0}) Fault
chain b c d e x y z = cond b (cond c (unfit Depths x) (cond d (unfit Rates y) (cond e (unfit Percents z) fine))) (unfit Lengths 0)

-- What the number, list and place that it gives back tell of the tests.
record Told (b c d e : Bool) (x y z list place : ℕ) : Type 0 where
  some : list ≤ 3
  zero : list ≡ 0 → (b ≡ false) × (place ≡ 0)
  one : list ≡ 1 → (b ≡ true) × (c ≡ true) × (x ≡ place)
  two : list ≡ 2 → (b ≡ true) × (c ≡ false) × (d ≡ true) × (y ≡ place)
  three : list ≡ 3 → (b ≡ true) × (c ≡ false) × (d ≡ false) × (e ≡ true) × (z ≡ place)

told : (b c d e : Bool) (x y z list place : ℕ) → given (chain b c d e x y z) ≡ (number_of UnfitSheet, list, place) → Told b c d e x y z list place
told false c d e x y z list place h =
    let l : 0 ≡ list = ap (λ (t : ℕ × ℕ × ℕ). t.1) h in
    let p : 0 ≡ place = ap (λ (t : ℕ × ℕ × ℕ). t.2) h in
    record {
      some = omega arith;
      zero = λ i. (refl, sym p);
      one = λ (i : list ≡ 1). absurd (omega arith);
      two = λ (i : list ≡ 2). absurd (omega arith);
      three = λ (i : list ≡ 3). absurd (omega arith);
    }
told true true d e x y z list place h =
    let l : 1 ≡ list = ap (λ (t : ℕ × ℕ × ℕ). t.1) h in
    record {
      some = omega arith;
      zero = λ (i : list ≡ 0). absurd (omega arith);
      one = λ i. (refl, refl, ap (λ (t : ℕ × ℕ × ℕ). t.2) h);
      two = λ (i : list ≡ 2). absurd (omega arith);
      three = λ (i : list ≡ 3). absurd (omega arith);
    }
told true false true e x y z list place h =
    let l : 2 ≡ list = ap (λ (t : ℕ × ℕ × ℕ). t.1) h in
    record {
      some = omega arith;
      zero = λ (i : list ≡ 0). absurd (omega arith);
      one = λ (i : list ≡ 1). absurd (omega arith);
      two = λ i. (refl, refl, refl, ap (λ (t : ℕ × ℕ × ℕ). t.2) h);
      three = λ (i : list ≡ 3). absurd (omega arith);
    }
told true false false true x y z list place h =
    let l : 3 ≡ list = ap (λ (t : ℕ × ℕ × ℕ). t.1) h in
    record {
      some = omega arith;
      zero = λ (i : list ≡ 0). absurd (omega arith);
      one = λ (i : list ≡ 1). absurd (omega arith);
      two = λ (i : list ≡ 2). absurd (omega arith);
      three = λ i. (refl, refl, refl, refl, ap (λ (t : ℕ × ℕ × ℕ). t.2) h);
    }
told true false false false x y z list place h =
    let n : 0 ≡ number_of UnfitSheet = ap (λ (t : ℕ × ℕ × ℕ). t.0) h in
    absurd (omega arith)

-- A rate is out of step only where there is not the single rate 0.
rate_out : (rs : List ℕ) {place : ℕ} → offending_rate rs ≡ place → offending_rate rs < length rs
    → (without_rates rs ≡ false) × FirstOut rs (length rs) 1 most_rate place
unfolding offending_rate
rate_out rs e h =
    ⊎_elim
    (λ (f : without_rates rs ≡ true). let l : length rs < length rs = simp f at h in absurd (omega arith))
    (λ (f : without_rates rs ≡ false). (f, out_first rs (length rs) 1 most_rate (simp f at e) (simp f at h)))
    (passes_or_fails (without_rates rs))

out_rate : (rs : List ℕ) {place : ℕ} → without_rates rs ≡ false → FirstOut rs (length rs) 1 most_rate place → place ≡ offending_rate rs
unfolding offending_rate
out_rate rs f o = simp f (first_out rs (length rs) 1 most_rate o)

module _ (ds rs ps : List ℕ) where
  abbrev fits : Bool
  fits = lengths_fit (length ds) (length rs) (length ps)

  tests : (list place : ℕ) → UnfitAt ds rs ps list place
      → Told fits (ltb (offending_depth ds) (length ds)) (ltb (offending_rate rs) (length rs)) (ltb (offending_percent (length ds) ps) (length ps))
      (offending_depth ds) (offending_rate rs) (offending_percent (length ds) ps) list place
  unfolding verdict_of
  tests list place h =
      told fits (ltb (offending_depth ds) (length ds)) (ltb (offending_rate rs) (length rs)) (ltb (offending_percent (length ds) ps) (length ps))
      (offending_depth ds) (offending_rate rs) (offending_percent (length ds) ps) list place h

  unfits : (Fit ds rs ps → ⊥) → fits ≡ false
  unfits n = ⊎_elim (λ (e : fits ≡ true). absurd (n e)) (λ (e : fits ≡ false). e) (passes_or_fails fits)

  first_offending : FirstOffending ds rs ps
  first_offending =
      record {
        lengths = λ place. (
          λ h. let t = (tests 0 place h).zero refl in (λ f. never_both f t.0, t.1),
          λ o. rw o.1 (ap given (sym (unfit_lengths ds rs ps (sym (unfits o.0)) refl))),
        );
        depths = λ place. (
          λ h.
              let t = (tests 1 place h).one refl in
              (t.0, out_first ds (length ds) 1 highest_depth t.2 (ltb-true (offending_depth ds) (length ds) t.1)),
          λ o. ap given (sym (unfit_depths ds rs ps (sym o.0) refl (first_out ds (length ds) 1 highest_depth o.1) o.1.within)),
        );
        rates = λ place. (
          λ h.
              let t = (tests 2 place h).two refl in
              let r = rate_out rs t.3 (ltb-true (offending_rate rs) (length rs) t.2) in
              (t.0, none_offends ds (length ds) 1 highest_depth (ltb-false (offending_depth ds) (length ds) t.1), r.0, r.1),
          λ o.
              ap given
              (sym (unfit_rates ds rs ps (sym o.0) refl refl (in_step_none ds (length ds) 1 highest_depth o.1) (out_rate rs o.2 o.3) o.3.within)),
        );
        percents = λ place. (
          λ h.
              let t = (tests 3 place h).three refl in (
                t.0,
                none_offends ds (length ds) 1 highest_depth (ltb-false (offending_depth ds) (length ds) t.1),
                rates_kept rs (ltb-false (offending_rate rs) (length rs) t.2),
                out_first ps (length ds) 0 most_percent t.4 (ltb-true (offending_percent (length ds) ps) (length ps) t.3),
              ),
          λ o.
              ap given
              (sym (unfit_percents ds rs ps (sym o.0) refl refl (in_step_none ds (length ds) 1 highest_depth o.1) refl (kept_rates rs o.2)
              (first_out ps (length ds) 0 most_percent o.3) o.3.within)),
        );
        no_other = λ list place h. (tests list place h).some;
      }

pub refused_exactly : RefusedExactly
refused_exactly ds rs ps = first_offending ds rs ps
