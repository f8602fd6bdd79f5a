-- What a refused record is refused for: its count, the first sub-area that does not pass, or its numbers.
-- Assumes nothing.
use Rattle.std.specs.Prelude.{Result, Ok, Err}
use Rattle.refusal.specs.declared.Refusal.{Refusal}
use Prim.Native.Nat.{ℕ, ◌+◌, ◌≤◌, ◌<◌}
use mathlib.Core.Bool.{Bool, true, false}
use mathlib.Core.List.{List, [], ◌∷◌, ◌++◌}
use mathlib.Core.Logic.{◌⊎◌, inl, inr, ⊎_elim}
use mathlib.Core.Path.{◌≡◌, refl, sym, ap}
use native.Mathlib.Omega.{arith}
use borrow.Author.Tests.{leb-true, leb-false}
use Rattle.laws.specs.Sum.{sum_of}
use Rattle.laws.specs.Turn.{in_turn}
use Rattle.laws.proofs.Order.{lt_or_le}
use Rattle.refusal.specs.declared.Refusal.TheVariants.{UnfitSubArea, TotalAreaPassed, SiteFull, NumberNotHeld}
use Rattle.refusal.specs.Refusal.{number_of, granted}
use Rattle.units.specs.Limits.{most_area}
use Rattle.site.specs.declared.SubArea.{SubArea}
use Rattle.site.specs.declared.Site.{Site}
use Rattle.units.specs.declared.Area.{Area}
use Rattle.site.specs.Parts.{most_parts, parts_of, area_of, total_area}
use Rattle.site.specs.Judging.{fits, has_room, judged_from, after_judging, numbered, with_numbers, judged, given}
use Rattle.site.specs.Promises.{all_fit, RefusedAt}
use Rattle.site.proofs.Judging.{by_parts, parts_fine, fine_parts}
use Rattle.site.proofs.Walking.{overfull}

-- The same with a running total before the first sub-area.
record RefusedFrom (total : ℕ) (parts : List SubArea) (number : ℕ) : Type 0 where
  pub before : List SubArea
  pub refused : SubArea
  pub after : List SubArea
  pub split : parts ≡ before ++ (refused ∷ after)
  pub fit : all_fit before ≡ true
  pub within : total + total_area before ≤ most_area
  pub reason : ((fits refused ≡ false) × (number ≡ number_of UnfitSubArea))
      ⊎ ((fits refused ≡ true) × (most_area < total + total_area before + area_of refused) × (number ≡ number_of TotalAreaPassed))

-- what the tests of a sub-area leave of the answer to those after it
abbrev tried : Bool → Bool → Result Area Refusal → Result Area Refusal
tried fit room rest = in_turn Err rest ((fit, UnfitSubArea) ∷ (room, TotalAreaPassed) ∷ [])

-- A sub-area that passes stands before the one that is refused.
one_more : (total : ℕ) (p : SubArea) (ps : List SubArea) (n : ℕ) → fits p ≡ true → RefusedFrom (total + area_of p) ps n → RefusedFrom total (p ∷ ps) n
unfolding sum_of all_fit
one_more total p ps n f r =
    let w = r.within in
    record {
      before = p ∷ r.before;
      refused = r.refused;
      after = r.after;
      split = ap (λ (qs : List SubArea). p ∷ qs) r.split;
      fit = simp f r.fit;
      within = omega arith;
      reason =
          ⊎_elim (λ (x : (fits r.refused ≡ false) × (n ≡ number_of UnfitSubArea)). inl x)
          (λ (x : (fits r.refused ≡ true) × (most_area < total + area_of p + total_area r.before + area_of r.refused) × (n ≡ number_of TotalAreaPassed)).
          let l = x.1 in inr (x.0, omega arith, x.2))
          r.reason;
    }

-- one sub-area, with what is known of those after it
step_refused : (total : ℕ) (p : SubArea) (ps : List SubArea) (b d : Bool) (x : Result Area Refusal) → total ≤ most_area → fits p ≡ b → has_room total (area_of p) ≡ d
    → (total + area_of p ≤ most_area → ((given x).0 ≡ granted → ⊥) → RefusedFrom (total + area_of p) ps (given x).0)
    → ((given (tried b d x)).0 ≡ granted → ⊥) → RefusedFrom total (p ∷ ps) (given (tried b d x)).0
unfolding sum_of all_fit
step_refused total p ps true true x l f g rest h = one_more total p ps _ f (rest (leb-true (total + area_of p) most_area g) h)
step_refused total p ps true false x l f g rest h =
    let m = leb-false (total + area_of p) most_area g in
    record { before = []; refused = p; after = ps; split = refl; fit = refl; within = omega arith; reason = inr (f, omega arith, refl) }
step_refused total p ps false d x l f g rest h =
    record { before = []; refused = p; after = ps; split = refl; fit = refl; within = omega arith; reason = inl (f, refl) }

from_refused : (total : ℕ) (ps : List SubArea) → total ≤ most_area → ((given (judged_from total ps)).0 ≡ granted → ⊥)
    → RefusedFrom total ps (given (judged_from total ps)).0
unfolding judged_from
from_refused total [] l h = absurd (h refl)
from_refused total (p ∷ ps) l h =
    step_refused total p ps (fits p) (has_room total (area_of p)) (judged_from (total + area_of p) ps) l refl refl
    (λ m k. from_refused (total + area_of p) ps m k)
    h

step_low : (b d : Bool) (x : Result Area Refusal) → (given x).0 < number_of SiteFull → (given (tried b d x)).0 < number_of SiteFull
step_low true true x rest = rest
step_low true false x rest = omega arith
step_low false d x rest = omega arith

-- Sub-areas are refused 2 or 3, never 14 or 16.
parts_low : (total : ℕ) (ps : List SubArea) → (given (judged_from total ps)).0 < number_of SiteFull
unfolding judged_from
parts_low total [] = omega arith
parts_low total (p ∷ ps) = step_low (fits p) (has_room total (area_of p)) (judged_from (total + area_of p) ps) (parts_low (total + area_of p) ps)

-- what the numbers leave of the answer to the sub-areas
abbrev lastly : Bool → Result Area Refusal → Result Area Refusal
lastly fine x = after_judging Err (with_numbers fine) x

never_full : (b : Bool) (x : Result Area Refusal) → (given x).0 < number_of SiteFull → (given (lastly b x)).0 ≡ number_of SiteFull → ⊥
never_full true (Ok total) l e = omega arith
never_full false (Ok total) l e = omega arith
never_full b (Err why) l e = omega arith

pub full_above : (s : Site) → (given (judged s)).0 ≡ number_of SiteFull → most_parts < s.count
full_above s e =
    ⊎_elim (λ (l : most_parts < s.count). l)
    (λ (l : s.count ≤ most_parts). absurd (never_full (numbered s) (judged_from 0 (parts_of s)) (parts_low 0 (parts_of s)) (rw (by_parts s l) at e)))
    (lt_or_le most_parts s.count)

-- 16 comes of the numbers alone, where the sub-areas are fine.
unnumbered : (b : Bool) (x : Result Area Refusal) → (given x).0 < number_of SiteFull → (given (lastly b x)).0 ≡ number_of NumberNotHeld
    → (b ≡ false) × ((total : Area) × (x ≡ Ok total))
unnumbered true (Ok total) l e = absurd (omega arith)
unnumbered false (Ok total) l e = (refl, (total, refl))
unnumbered b (Err why) l e = absurd (omega arith)

pub unnumbered_only : (s : Site) → (given (judged s)).0 ≡ number_of NumberNotHeld
    → (s.count ≤ most_parts) × (all_fit (parts_of s) ≡ true) × (total_area (parts_of s) ≤ most_area) × (numbered s ≡ false)
unnumbered_only s e =
    ⊎_elim (λ (l : most_parts < s.count). absurd (let z : (given (judged s)).0 ≡ number_of SiteFull = ap (λ (x : Result Area Refusal). (given x).0) (sym (overfull s l)) in omega arith))
    (λ (l : s.count ≤ most_parts).
    let u = unnumbered (numbered s) (judged_from 0 (parts_of s)) (parts_low 0 (parts_of s)) (rw (by_parts s l) at e) in
    let f = parts_fine (parts_of s) u.1.0 u.1.1 in
    (l, f.0, f.1, u.0))
    (lt_or_le most_parts s.count)

pub unnumbered_there : (s : Site) → s.count ≤ most_parts → all_fit (parts_of s) ≡ true → total_area (parts_of s) ≤ most_area → numbered s ≡ false
    → (given (judged s)).0 ≡ number_of NumberNotHeld
unnumbered_there s l f t n = rw (by_parts s l, n, fine_parts (parts_of s) f t)

-- A record that is refused otherwise is refused by its sub-areas.
by_sub_areas : (b : Bool) (x : Result Area Refusal) → ((given (lastly b x)).0 ≡ granted → ⊥) → ((given (lastly b x)).0 ≡ number_of NumberNotHeld → ⊥) → lastly b x ≡ x
by_sub_areas true (Ok total) h n = refl
by_sub_areas false (Ok total) h n = absurd (n refl)
by_sub_areas b (Err why) h n = refl

pub refused_first : (s : Site) → s.count ≤ most_parts → ((given (judged s)).0 ≡ granted → ⊥) → ((given (judged s)).0 ≡ number_of NumberNotHeld → ⊥)
    → RefusedAt (parts_of s) (given (judged s)).0
refused_first s l =
    rw (by_parts s l) (λ h n. let e = by_sub_areas (numbered s) (judged_from 0 (parts_of s)) h n in rw e (whole (from_refused 0 (parts_of s) (omega arith) (rw e at h))))
  where
    whole : {n : ℕ} → RefusedFrom 0 (parts_of s) n → RefusedAt (parts_of s) n
    whole {n} r =
        let w = r.within in
        record {
          before = r.before;
          refused = r.refused;
          after = r.after;
          split = r.split;
          fit = r.fit;
          within = omega arith;
          reason =
              ⊎_elim (λ (x : (fits r.refused ≡ false) × (n ≡ number_of UnfitSubArea)). inl x)
              (λ (x : (fits r.refused ≡ true) × (most_area < 0 + total_area r.before + area_of r.refused) × (n ≡ number_of TotalAreaPassed)).
              let m = x.1 in inr (x.0, omega arith, x.2))
              r.reason;
        }
