-- Laws of the one walk over a record that judges it, gathers its six areas and sums its load.
-- Assumes nothing.
use Rattle.std.specs.Prelude.{Result, Ok, Err}
use Prim.Native.Nat.{ℕ, ◌+◌, ◌*◌, ◌≤◌, ◌<◌}
use mathlib.Core.List.{List, [], ◌∷◌}
use mathlib.Core.Bool.{Bool, true, false, not}
use mathlib.Core.Path.{◌≡◌, refl, sym, ◌∙◌, ap}
use native.Mathlib.Nat.{lt_of_le_of_lt, mul-le-mul_left}
use native.Mathlib.Omega.{arith}
use mir.Syntax.{w64}
use mir.Val.{Fits}
use lib.Dec.{lit<}
use lib.ListN.{length, get_or, set, drop, replicate}
use Rattle.laws.specs.Sum.{sum_of}
use Rattle.laws.proofs.Sum.{sum_turn, sum_end}
use Rattle.refusal.specs.declared.Refusal.{Refusal}
use Rattle.refusal.specs.declared.Refusal.TheVariants.{NumberNotHeld}
use Rattle.units.specs.declared.Area.{Area}
use Rattle.units.specs.Limits.{most_area, largest}
use Rattle.site.specs.declared.Site.{Site}
use Rattle.site.specs.declared.SubArea.{SubArea}
use Rattle.site.specs.Parts.{parts_of, area_of, blank, most_parts}
use Rattle.site.specs.Judging.{judged_from, numbered, judged}
use Rattle.site.proofs.Tests.{try_grants}
use Rattle.site.proofs.Trying.{Tried, none_tried, tried_next, tried_refused, tried_all, part_refused, numbers_fine, numbers_refused}
use Rattle.loads.specs.Rates.{table_most, rate_place}
use Rattle.loads.specs.Loads.{part_load, load_of}
use Rattle.volume.specs.Areas.{no_area, area_at, area_place, total_of}
use Rattle.volume.specs.Inner.{Six}
use Rattle.volume.proofs.Gathering.{place_within, total_set, at_most}
use Rattle.volume.proofs.Placing.{Placed, none_placed, placed_next, all_placed}
use Rattle.credit.specs.Inner.{Surveyed}

-- The walk has come to place i with the total area, the six areas and the load of the sub-areas before it.
pub record Surveying (rates : List ℕ) (ps : List SubArea) (i total load : ℕ) (xs : List Area) : Type 0 where
  pub tried : Tried ps i total
  pub placed : Placed ps i xs
  pub rest : load + load_of rates (drop i ps) ≡ load_of rates ps
  pub counted : total_of xs ≡ total
  pub within : total ≤ most_area
  pub small : load ≤ table_most * total

pub survey_starts : (rates : List ℕ) (ps : List SubArea) → Surveying rates ps 0 0 0 (replicate 6 no_area)
unfolding sum_of
survey_starts rates ps =
    record { tried = none_tried ps; placed = none_placed ps; rest = omega arith; counted = refl; within = omega arith; small = omega arith }

module _ (rates : List ℕ) (ps : List SubArea) (i total load : ℕ) (xs : List Area) (r : Surveying rates ps i total load xs) where
  -- What is known at the end of it.
  pub survey_six : Six xs
  survey_six = let c = r.counted in let w = r.within in record { six = r.placed.six; small = omega arith }

  pub survey_fits : load ≤ largest
  survey_fits =
      let q = mul-le-mul_left table_most r.within in
      let s = r.small in
      omega arith

  -- the turn at the sub-area of place i, by the answer to it
  module _ (h : i < length ps) {x : Result Area Refusal} (e : x ≡ judged_from total (get_or ps i blank ∷ [])) (more : Area) (f : x ≡ Ok more) where
    abbrev a : ℕ
    a = area_of (get_or ps i blank)

    grown : total + a ≤ most_area
    grown = (try_grants total (get_or ps i blank) more (sym e ∙ f)).0

    more_is : total + a ≡ more.0
    more_is = (try_grants total (get_or ps i blank) more (sym e ∙ f)).1

    -- What the area is added to, with it, is at most the largest area.
    pub area_fits : (k : ℕ) → Fits w64 (area_at xs k + a)
    area_fits k =
        let m = at_most xs k in
        let c = r.counted in
        let w = grown in
        let l : area_at xs k + a ≤ most_area = omega arith in
        record { fits = lt_of_le_of_lt l (lit< tt) }

    -- a rate of the table
    module _ (v : ℕ) (m : v ≤ table_most) where
      still_small : load + a * v ≤ table_most * (total + a)
      still_small =
          let q = mul-le-mul_left a m in
          let b = r.small in
          omega arith

      bounded : load + a * v ≤ table_most * most_area
      bounded =
          let q = still_small in
          let w = grown in
          omega arith

      pub product_fits : Fits w64 (a * v)
      product_fits = let b = bounded in record { fits = omega arith }

      pub load_fits : Fits w64 (load + a * v)
      load_fits = let b = bounded in record { fits = omega arith }

      pub survey_next : (at : ℕ) → at ≡ area_place (get_or ps i blank) → v ≡ get_or rates (rate_place (get_or ps i blank)) 0
          → Surveying rates ps (i + 1) more.0 (load + a * v) (set xs at (record { 0 = area_at xs at + a }))
      survey_next at p g =
          record {
            tried = tried_next ps i total r.tried h e f;
            placed = placed_next ps i xs r.placed at h p;
            rest =
                let d = sum_turn (part_load rates) ps i blank h in
                let w = r.rest in
                let k : a * v ≡ part_load rates (get_or ps i blank) = ap (λ (n : ℕ). a * n) g in
                omega arith;
            counted = total_set xs at a there ∙ ap (λ (n : ℕ). n + a) r.counted ∙ more_is;
            within = let w = grown in let n = more_is in omega arith;
            small = let q = still_small in let n = more_is in rw (← n) q;
          }
        where
          there : at < length xs
          there =
              let w = place_within (get_or ps i blank) in
              let n = r.placed.six in
              omega arith

-- A sub-area that is refused refuses the record.
pub survey_refused : (rates : List ℕ) (s : Site) (i total load : ℕ) (xs : List Area) → s.count ≤ most_parts
    → Surveying rates (parts_of s) i total load xs → i < length (parts_of s) → {x : Result Area Refusal} {why : Refusal}
    → x ≡ judged_from total (get_or (parts_of s) i blank ∷ []) → x ≡ Err why → Err why ≡ judged s
survey_refused rates s i total load xs c r h e f = part_refused s c (tried_refused (parts_of s) i total r.tried h e f)

-- Where no sub-area is left the numbers decide: the record is refused, or it is surveyed.
module _ (rates : List ℕ) (s : Site) (i total load : ℕ) (xs : List Area) (c : s.count ≤ most_parts)
    (r : Surveying rates (parts_of s) i total load xs) (h : length (parts_of s) ≤ i) {b : Bool} (n : b ≡ numbered s) where
  pub survey_unnumbered : b ≡ false → Err NumberNotHeld ≡ judged s
  survey_unnumbered f = numbers_refused s c (tried_all (parts_of s) i (record { 0 = total }) r.tried h) n (ap not f)

  pub survey_ends : b ≡ true → Surveyed rates s xs load
  survey_ends f =
      record {
        total = record { 0 = total };
        fine = numbers_fine s c (tried_all (parts_of s) i (record { 0 = total }) r.tried h) n (ap not f);
        areas = all_placed (parts_of s) i xs r.placed h;
        loaded = let e = r.rest in let d = sum_end (part_load rates) (parts_of s) i h in omega arith;
      }
