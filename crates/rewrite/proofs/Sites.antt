-- A site with C for U: it is judged and added to as the site is, and has its loads and impervious area.
-- Assumes nothing.
use Rattle.std.specs.Prelude.{Result, Ok, Err}
use Rattle.refusal.specs.declared.Refusal.{Refusal}
use Rattle.units.specs.declared.Area.{Area}
use Prim.Native.Nat.{ℕ, ◌+◌, ◌*◌}
use mathlib.Core.Bool.{Bool, ◌&&◌, not}
use mathlib.Core.List.{List, [], ◌∷◌, map}
use mathlib.Core.Path.{◌≡◌, refl, ◌∙◌, ap}
use lib.Dec.{leb}
use lib.ListN.{get_or, set}
use Rattle.units.specs.Limits.{most_area}
use Rattle.laws.proofs.Map.{take_map, set_map, sum_map}
use Rattle.site.specs.declared.LandUse.{LandUse}
use Rattle.site.specs.declared.Cover.{Cover}
use Rattle.site.specs.declared.Cover.TheVariants.{Imp, Per}
use Rattle.site.specs.declared.Soil.{Soil}
use Rattle.site.specs.declared.Soil.TheVariants.{A, B, C, CD, D, U, NoSoil}
use Rattle.site.specs.declared.SubArea.{SubArea}
use Rattle.site.specs.declared.Site.{Site}
use Rattle.site.specs.Adding.{Added}
use Rattle.site.specs.Soils.{named, suits}
use Rattle.site.specs.Parts.{parts_of, area_of, impervious_of, impervious_area}
use Rattle.site.specs.Judging.{fits, judged_from, judged, after_judging}
use Rattle.site.specs.Adding.{add_answer, stored, kept, settled, added_to, added}
use Rattle.loads.specs.Rates.{soil_place, pervious_place, rate_place_under}
use Rattle.loads.specs.Loads.{part_load, load_of, load_under}
use Rattle.rewrite.specs.Promises.{on_c, part_on_c, site_on_c}

-- What is the same of C and of U is the same of a soil on C.
soil_kept : {X : Type 0} (f : Soil → X) → f C ≡ f U → (soil : Soil) → f (on_c soil) ≡ f soil
soil_kept f e A = refl
soil_kept f e B = refl
soil_kept f e C = refl
soil_kept f e CD = refl
soil_kept f e D = refl
soil_kept f e U = e
soil_kept f e NoSoil = refl

suits_kept : (cover : Cover) (soil : Soil) → suits cover (on_c soil) ≡ suits cover soil
suits_kept Imp soil = ap not (soil_kept named refl soil)
suits_kept Per soil = soil_kept named refl soil

fits_kept : (p : SubArea) → fits (part_on_c p) ≡ fits p
fits_kept p = ap (λ (b : Bool). leb 1 (area_of p) && leb (area_of p) most_area && b) (suits_kept p.cover p.soil)

judged_from_kept : (total : ℕ) (ps : List SubArea) → judged_from total (map part_on_c ps) ≡ judged_from total ps
unfolding judged_from
judged_from_kept total [] = refl
judged_from_kept total (p ∷ ps) = rw (fits_kept p, judged_from_kept (total + area_of p) ps)

pub parts_on_c : (s : Site) → parts_of (site_on_c s) ≡ map part_on_c (parts_of s)
parts_on_c s = take_map part_on_c s.count s.parts

pub judged_kept : (s : Site) → judged (site_on_c s) ≡ judged s
unfolding judged
judged_kept s = rw (parts_on_c s, judged_from_kept 0 (parts_of s))

-- An add of the sub-area on C to the site on C gives what the add gives, its site on C.
abbrev pub added_on_c : Added → Added
added_on_c a = record { answer = a.answer; site = site_on_c a.site; number = a.number }

add_answer_kept : (count counter total : ℕ) (p : SubArea) → add_answer count counter total (part_on_c p) ≡ add_answer count counter total p
unfolding add_answer
add_answer_kept count counter total p = rw (fits_kept p)

module _ (s : Site) (p : SubArea) where
  stored_on_c : stored (site_on_c s) (part_on_c p) ≡ site_on_c (stored s p)
  stored_on_c =
      λ i.
      record {
        parts = set_map part_on_c s.parts s.count p i;
        count = s.count + 1;
        numbers = set s.numbers s.count s.counter;
        counter = s.counter + 1;
      }

  settled_on_c : (x : Result Area Refusal) → settled (site_on_c s) (part_on_c p) x ≡ added_on_c (settled s p x)
  settled_on_c (Ok total) = λ i. record { answer = Ok total; site = stored_on_c i; number = s.counter }
  settled_on_c (Err why) = refl

  added_to_on_c : (total : ℕ) → added_to (site_on_c s) total (part_on_c p) ≡ added_on_c (added_to s total p)
  unfolding added_to
  added_to_on_c total = ap (settled (site_on_c s) (part_on_c p)) (add_answer_kept s.count s.counter total p) ∙ settled_on_c (add_answer s.count s.counter total p)

  pub added_on_c_lem : added (site_on_c s) (part_on_c p) ≡ added_on_c (added s p)
  unfolding added
  added_on_c_lem = rw (judged_kept s) (at (judged s))
    where
      at : (x : Result Area Refusal) → after_judging (kept (site_on_c s)) (λ total. added_to (site_on_c s) total (part_on_c p)) x ≡ added_on_c (after_judging (kept s) (λ total. added_to s total p) x)
      at (Ok total) = added_to_on_c total.0
      at (Err why) = refl

rate_place_kept : (cover : Cover) (land : LandUse) (soil : Soil) → rate_place_under cover land (on_c soil) ≡ rate_place_under cover land soil
rate_place_kept Imp land soil = refl
rate_place_kept Per land soil = ap (pervious_place land) (soil_kept soil_place refl soil)

-- Loads and impervious area stay.
pub load_kept : (rates : List ℕ) (ps : List SubArea) → load_of rates (map part_on_c ps) ≡ load_of rates ps
load_kept rates ps = sum_map part_on_c (part_load rates) (part_load rates) (λ p. ap (λ (k : ℕ). area_of p * get_or rates k 0) (rate_place_kept p.cover p.land p.soil)) ps

pub impervious_kept : (ps : List SubArea) → impervious_area (map part_on_c ps) ≡ impervious_area ps
impervious_kept ps = sum_map part_on_c impervious_of impervious_of (λ p. refl) ps

pub load_under_kept : (rates : List ℕ) (s : Site) → load_under rates (site_on_c s) ≡ load_under rates s
unfolding load_under
load_under_kept rates s = rw (judged_kept s, parts_on_c s, load_kept rates (parts_of s))
