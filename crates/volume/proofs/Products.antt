-- V from the six areas is V of the site.
-- Assumes nothing.
use Prim.Native.Nat.{ℕ, ◌+◌, ◌*◌}
use mathlib.Core.List.{List, [], ◌∷◌}
use mathlib.Core.Path.{◌≡◌, refl, ◌∙◌}
use native.Mathlib.Omega.{arith}
use lib.ListN.{length, set, replicate, length-set}
use Rattle.laws.specs.Sum.{sum_of}
use Rattle.units.specs.declared.Area.{Area}
use Rattle.units.specs.declared.Column.{Column}
use Rattle.units.specs.declared.Column.TheVariants.{A, B, C, CD, D}
use Rattle.units.specs.Columns.{column_place}
use Rattle.runoff.specs.Runoff.{runoff_of}
use Rattle.site.specs.declared.Cover.{Cover}
use Rattle.site.specs.declared.Cover.TheVariants.{Imp, Per}
use Rattle.site.specs.declared.SubArea.{SubArea}
use Rattle.site.specs.Soils.{runoff_column}
use Rattle.site.specs.Parts.{area_of, under, impervious_area}
use Rattle.volume.specs.Volume.{if_pervious, volume_of}
use Rattle.volume.specs.Areas.{no_area, area_place_under, area_place, area_at, with_part, gathered_from, areas_of, volume_from}

-- What an area under a cover and on a column adds to V from the six areas, place by place.
adds : (xs : List Area) → length xs ≡ 6 → (cover : Cover) (c : Column) (a d : ℕ)
    → volume_from (set xs (area_place_under cover (column_place c)) (record { 0 = area_at xs (area_place_under cover (column_place c)) + a })) d
    ≡ volume_from xs d + 121 * (300 * d * under cover a + if_pervious cover (a * runoff_of c d))
unfolding volume_from
adds (x₀ ∷ x₁ ∷ x₂ ∷ x₃ ∷ x₄ ∷ x₅ ∷ []) l Imp c a d = omega arith
adds (x₀ ∷ x₁ ∷ x₂ ∷ x₃ ∷ x₄ ∷ x₅ ∷ []) l Per A a d = omega arith
adds (x₀ ∷ x₁ ∷ x₂ ∷ x₃ ∷ x₄ ∷ x₅ ∷ []) l Per B a d = omega arith
adds (x₀ ∷ x₁ ∷ x₂ ∷ x₃ ∷ x₄ ∷ x₅ ∷ []) l Per C a d = omega arith
adds (x₀ ∷ x₁ ∷ x₂ ∷ x₃ ∷ x₄ ∷ x₅ ∷ []) l Per CD a d = omega arith
adds (x₀ ∷ x₁ ∷ x₂ ∷ x₃ ∷ x₄ ∷ x₅ ∷ []) l Per D a d = omega arith
adds [] l cover c a d = absurd (omega arith)
adds (x₀ ∷ []) l cover c a d = absurd (omega arith)
adds (x₀ ∷ x₁ ∷ []) l cover c a d = absurd (omega arith)
adds (x₀ ∷ x₁ ∷ x₂ ∷ []) l cover c a d = absurd (omega arith)
adds (x₀ ∷ x₁ ∷ x₂ ∷ x₃ ∷ []) l cover c a d = absurd (omega arith)
adds (x₀ ∷ x₁ ∷ x₂ ∷ x₃ ∷ x₄ ∷ []) l cover c a d = absurd (omega arith)
adds (x₀ ∷ x₁ ∷ x₂ ∷ x₃ ∷ x₄ ∷ x₅ ∷ x₆ ∷ xs) l cover c a d = absurd (omega arith)

from_gathered : (xs : List Area) (ps : List SubArea) (d : ℕ) → length xs ≡ 6 → volume_from (gathered_from xs ps) d ≡ volume_from xs d + volume_of ps d
unfolding gathered_from volume_of sum_of
from_gathered xs [] d l = omega arith
from_gathered xs (p ∷ ps) d l =
    let e = from_gathered (with_part xs p) ps d (length-set xs (area_place p) _ ∙ l) in
    let a = adds xs l p.cover (runoff_column p.soil) (area_of p) d in
    omega arith

-- V from the six areas of a list of sub-areas is V of the list.
pub volume_gathered : (ps : List SubArea) (d : ℕ) → volume_from (areas_of ps) d ≡ volume_of ps d
unfolding volume_from
volume_gathered ps d = let e = from_gathered (replicate 6 no_area) ps d refl in omega arith

-- What a sub-area adds to the first of the six areas.
first_adds : (xs : List Area) → length xs ≡ 6 → (cover : Cover) (k a : ℕ)
    → area_at (set xs (area_place_under cover k) (record { 0 = area_at xs (area_place_under cover k) + a })) 0 ≡ area_at xs 0 + under cover a
first_adds [] l cover k a = absurd (omega arith)
first_adds (x ∷ xs) l Imp k a = refl
first_adds (x ∷ xs) l Per k a = omega arith

first_gathered : (xs : List Area) (ps : List SubArea) → length xs ≡ 6 → area_at (gathered_from xs ps) 0 ≡ area_at xs 0 + impervious_area ps
unfolding gathered_from sum_of
first_gathered xs [] l = omega arith
first_gathered xs (p ∷ ps) l =
    let e = first_gathered (with_part xs p) ps (length-set xs (area_place p) _ ∙ l) in
    let a = first_adds xs l p.cover (column_place (runoff_column p.soil)) (area_of p) in
    omega arith

-- The first of the six areas is the impervious area.
pub impervious_gathered : (ps : List SubArea) → area_at (areas_of ps) 0 ≡ impervious_area ps
impervious_gathered ps =
    let e = first_gathered (replicate 6 no_area) ps refl in
    omega arith
