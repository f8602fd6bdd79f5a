-- The load under the permit's tables: it never passes 10^13, so the record alone decides.
-- Assumes nothing.
use Rattle.std.specs.Prelude.{Result, Ok, Err}
use Prim.Native.Nat.{ℕ, ◌≤◌}
use mathlib.Core.List.{List}
use mathlib.Core.Path.{◌≡◌, refl, sym, ◌∙◌, ap}
use native.Mathlib.Nat.{mul-le-mul_left}
use native.Mathlib.Omega.{arith}
use lib.Dec.{leb}
use lib.ListN.{get_or}
use borrow.Author.Tests.{le-leb, leb-true}
use Rattle.laws.proofs.Sum.{sum_scaled}
use Rattle.laws.proofs.Table.{carry}
use Rattle.refusal.specs.declared.Refusal.{Refusal}
use Rattle.refusal.specs.Refusal.{number_of, granted}
use Rattle.refusal.proofs.Numbers.{refusal_not_granted}
use Rattle.units.specs.declared.Area.{Area}
use Rattle.units.specs.declared.Nutrient.{Nutrient}
use Rattle.units.specs.declared.Nutrient.TheVariants.{P, N}
use Rattle.units.specs.Limits.{most_area, largest}
use Rattle.site.specs.declared.SubArea.{SubArea}
use Rattle.site.specs.declared.Site.{Site}
use Rattle.site.specs.Parts.{parts_of, area_of, total_area}
use Rattle.site.specs.Judging.{judged}
use Rattle.site.specs.Judging as site
use Rattle.site.proofs.Judging.{judged_fine}
use Rattle.site.proofs.Promises.{given_refused, given_some}
use Rattle.loads.specs.Rates.{table_most, export_rates, rate_place}
use Rattle.loads.specs.Loads.{part_load, load_of, load_under, load_answer, given}
use Rattle.loads.proofs.Places.{place_below}

rate_most : (n : Nutrient) (p : SubArea) → get_or (export_rates n) (rate_place p) 0 ≤ table_most
rate_most P p = leb-true _ _ (carry (λ k x. leb x table_most) (export_rates P) refl (rate_place p) (place_below p refl))
rate_most N p = leb-true _ _ (carry (λ k x. leb x table_most) (export_rates N) refl (rate_place p) (place_below p refl))

-- No load of a site within the limit of area passes 10^13.
pub load_within : (n : Nutrient) (ps : List SubArea) → total_area ps ≤ most_area → load_of (export_rates n) ps ≤ largest
load_within n ps h =
    let m = sum_scaled table_most (part_load (export_rates n)) area_of (λ p. let q = mul-le-mul_left (area_of p) (rate_most n p) in omega arith) ps in
    omega arith

module _ (n : Nutrient) (s : Site) where
  -- The load of a record that is judged fine,
  pub answer_fine : {total : Area} → judged s ≡ Ok total → given (load_answer n s) ≡ (granted, load_of (export_rates n) (parts_of s))
  unfolding load_under
  answer_fine {total} e =
      simp (e, le-leb _ _ (load_within n (parts_of s) (judged_fine s total e).total))

  -- and the answer for one that is refused.
  pub answer_refused : {why : Refusal} → judged s ≡ Err why → given (load_answer n s) ≡ (number_of why, 0)
  unfolding load_under
  answer_refused e = simp e

  pub granted_load : (a : ℕ) → given (load_answer n s) ≡ (granted, a) → ((site.given (judged s)).0 ≡ granted) × (load_of (export_rates n) (parts_of s) ≡ a)
  granted_load a h = told (judged s) refl
    where
      told : (x : Result Area Refusal) → judged s ≡ x → ((site.given (judged s)).0 ≡ granted) × (load_of (export_rates n) (parts_of s) ≡ a)
      told (Ok total) e = (simp e, ap (λ (g : ℕ × ℕ). g.1) (sym (answer_fine e) ∙ h))
      told (Err why) e = absurd (refusal_not_granted why (ap (λ (g : ℕ × ℕ). g.0) (sym (answer_refused e) ∙ h)))

  pub fine_load : (a : ℕ) → (site.given (judged s)).0 ≡ granted → load_of (export_rates n) (parts_of s) ≡ a → given (load_answer n s) ≡ (granted, a)
  fine_load a h l = answer_fine (given_some (judged s) h).1 ∙ ap (λ (m : ℕ). (granted, m)) l

  pub refused_load : ((site.given (judged s)).0 ≡ granted → ⊥) → given (load_answer n s) ≡ ((site.given (judged s)).0, 0)
  refused_load h = let r = given_refused (judged s) h in answer_refused r.1 ∙ ap (λ (x : Result Area Refusal). ((site.given x).0, 0)) (sym r.1)
