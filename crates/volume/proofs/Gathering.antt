-- The six areas are gathered sub-area by sub-area.
-- Assumes nothing.
use Prim.Native.Nat.{ℕ, ◌+◌, ◌≤◌, ◌<◌}
use mathlib.Core.List.{List, [], ◌∷◌}
use mathlib.Core.Path.{◌≡◌, refl, ◌∙◌}
use mir.Syntax.{w64}
use mir.Val.{Fits}
use native.Mathlib.Nat.{lt_of_le_of_lt}
use native.Mathlib.Numerals.{add-one}
use native.Mathlib.Omega.{arith}
use lib.Dec.{lit<}
use lib.ListN.{length, get_or, set, drop, replicate, length-set}
use Rattle.laws.specs.Sum.{sum_of}
use Rattle.units.specs.declared.Area.{Area}
use Rattle.units.specs.declared.Column.{Column}
use Rattle.units.specs.Columns.{column_place}
use Rattle.units.specs.Limits.{most_area}
use Rattle.units.proofs.Columns.{place_most}
use Rattle.site.specs.declared.Cover.{Cover}
use Rattle.site.specs.declared.Cover.TheVariants.{Imp, Per}
use Rattle.site.specs.declared.SubArea.{SubArea}
use Rattle.site.specs.declared.Site.{Site}
use Rattle.site.specs.Soils.{runoff_column}
use Rattle.site.specs.Parts.{parts_of, area_of, blank, total_area}
use Rattle.site.specs.Inner.{Fine}
use Rattle.site.proofs.Parts.{Whole, part_at, none_left}
use Rattle.volume.specs.Areas.{no_area, area_place_under, area_place, area_at, with_part, gathered_from, areas_of, total_of}
use Rattle.volume.specs.Inner.{Six}

under_most : (cover : Cover) (k : ℕ) → k ≤ 4 → area_place_under cover k ≤ 5
under_most Imp k h = omega arith
under_most Per k h = omega arith

-- Each sub-area has its place among the six.
pub place_within : (p : SubArea) → area_place p ≤ 5
place_within p = under_most p.cover (column_place (runoff_column p.soil)) (place_most (runoff_column p.soil))

-- Adding to what stands at a place adds to the total.
pub total_set : (xs : List Area) (k a : ℕ) → k < length xs → total_of (set xs k (record { 0 = area_at xs k + a })) ≡ total_of xs + a
unfolding sum_of
total_set [] k a h = absurd (omega arith)
total_set (x ∷ xs) ℕ.zero a h = omega arith
total_set (x ∷ xs) (ℕ.suc k) a h = let e = total_set xs k a (omega arith) in omega arith

-- What stands at a place is a part of the total.
pub at_most : (xs : List Area) (k : ℕ) → area_at xs k ≤ total_of xs
unfolding sum_of
at_most [] k = omega arith
at_most (x ∷ xs) ℕ.zero = omega arith
at_most (x ∷ xs) (ℕ.suc k) = let e = at_most xs k in omega arith

-- The loop: the six areas so far, with the sub-areas from place i on, come to those of the whole site.
pub record Gathering (s : Site) (i : ℕ) (xs : List Area) : Type 0 where
  pub whole : Whole s
  pub six : length xs ≡ 6
  pub rest : gathered_from xs (drop i (parts_of s)) ≡ areas_of (parts_of s)
  pub total : total_of xs + total_area (drop i (parts_of s)) ≡ total_area (parts_of s)

module _ (s : Site) where
  pub gather_starts : Whole s → Gathering s 0 (replicate 6 no_area)
  unfolding sum_of
  gather_starts w = record { whole = w; six = refl; rest = refl; total = omega arith }

  turn_total : (i : ℕ) (xs : List Area) → Gathering s i xs → i < s.count
      → total_of xs + (area_of (get_or s.parts i blank) + total_area (drop (i + 1) (parts_of s))) ≡ total_area (parts_of s)
  unfolding sum_of
  turn_total i xs g h = rw (part_at s i g.whole h) at g.total

  pub gather_next : (i at : ℕ) (xs : List Area) → Gathering s i xs → i < s.count → at ≡ area_place (get_or s.parts i blank)
      → Gathering s (i + 1) (set xs at (record { 0 = area_at xs at + area_of (get_or s.parts i blank) }))
  unfolding gathered_from
  gather_next i at xs g h e =
      let p = get_or s.parts i blank in
      let w = place_within p in
      let l : area_place p < length xs = omega (arith, g.six) in
      rw e
      (record {
        whole = g.whole;
        six = length-set xs (area_place p) _ ∙ g.six;
        rest = rw (part_at s i g.whole h) at g.rest;
        total = let t = turn_total i xs g h in let u = total_set xs (area_place p) (area_of p) l in omega arith;
      })

  -- What a sub-area is added to, with it, is at most the total area of the site, and so fits.
  pub gather_fits : (i k : ℕ) (xs : List Area) → Fine s → Gathering s i xs → i < s.count → Fits w64 (area_at xs k + area_of (get_or s.parts i blank))
  gather_fits i k xs f g h =
      let t = turn_total i xs g h in
      let m = at_most xs k in
      let l : area_at xs k + area_of (get_or s.parts i blank) ≤ most_area = omega (arith, f.total) in
      record { fits = lt_of_le_of_lt l (lit< tt) }

  pub gather_ends : (i : ℕ) (xs : List Area) → Gathering s i xs → s.count ≤ i → xs ≡ areas_of (parts_of s)
  unfolding gathered_from
  gather_ends i xs g h = rw (none_left s i g.whole h) at g.rest

total_gathered : (xs : List Area) (ps : List SubArea) → length xs ≡ 6 → total_of (gathered_from xs ps) ≡ total_of xs + total_area ps
unfolding gathered_from sum_of
total_gathered xs [] l = omega arith
total_gathered xs (p ∷ ps) l =
    let w = place_within p in
    let e = total_gathered (with_part xs p) ps (length-set xs (area_place p) _ ∙ l) in
    let t = total_set xs (area_place p) (area_of p) (omega arith) in
    omega arith

length_gathered : (xs : List Area) (ps : List SubArea) → length (gathered_from xs ps) ≡ length xs
unfolding gathered_from
length_gathered xs [] = refl
length_gathered xs (p ∷ ps) = length_gathered (with_part xs p) ps ∙ length-set xs (area_place p) _

-- The six areas of a site make up its total area.
pub gathered_six : (ps : List SubArea) → total_area ps ≤ most_area → Six (areas_of ps)
unfolding sum_of
gathered_six ps h =
    record {
      six = length_gathered (replicate 6 no_area) ps;
      small = let e = total_gathered (replicate 6 no_area) ps refl in omega arith;
    }

-- The place of a sub-area, as the code counts it.
pub impervious_place_lem : (p : SubArea) → p.cover ≡ Imp → 0 ≡ area_place p
impervious_place_lem p e = simp e

pub pervious_place_lem : (p : SubArea) (c : Column) (k : ℕ) → p.cover ≡ Per → c ≡ runoff_column p.soil → k ≡ column_place c → k + 1 ≡ area_place p
pervious_place_lem p c k e f g = simp (e, ← f, ← g, add-one k)

pub column_place_lem : (c : Column) (k : ℕ) → k ≡ column_place c → k + 1 ≤ 5
column_place_lem c k e =
    let m = place_most c in
    omega arith
