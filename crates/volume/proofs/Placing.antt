-- Laws of the loop that adds each sub-area's area to what stands at its place among the six.
-- Assumes nothing.
use Prim.Native.Nat.{ℕ, ◌+◌, ◌≤◌, ◌<◌}
use mathlib.Core.List.{List}
use mathlib.Core.Path.{◌≡◌, refl, ◌∙◌}
use mir.Syntax.{w64}
use mir.Val.{Fits}
use native.Mathlib.Nat.{lt_of_le_of_lt}
use native.Mathlib.Numerals.{add-one}
use native.Mathlib.Omega.{arith}
use lib.Dec.{lit<}
use lib.ListN.{length, get_or, set, drop, replicate, length-set, drop_of_length-le}
use lib.Seq.{drop-cons}
use Rattle.laws.specs.Sum.{sum_of}
use Rattle.laws.proofs.Sum.{sum_turn}
use Rattle.units.specs.declared.Area.{Area}
use Rattle.units.specs.Limits.{most_area}
use Rattle.site.specs.declared.SubArea.{SubArea}
use Rattle.site.specs.declared.Site.{Site}
use Rattle.site.specs.Parts.{parts_of, area_of, blank, total_area}
use Rattle.site.specs.Inner.{Fine}
use Rattle.volume.specs.Areas.{no_area, area_place, area_at, gathered_from, areas_of, total_of}
use Rattle.volume.proofs.Gathering.{place_within, total_set, at_most}

-- The six areas so far, with the sub-areas from place i on, come to those of all sub-areas.
pub record Placed (ps : List SubArea) (i : ℕ) (xs : List Area) : Type 0 where
  pub six : length xs ≡ 6
  pub rest : gathered_from xs (drop i ps) ≡ areas_of ps
  pub total : total_of xs + total_area (drop i ps) ≡ total_area ps

module _ (ps : List SubArea) where
  pub none_placed : Placed ps 0 (replicate 6 no_area)
  unfolding sum_of
  none_placed = record { six = refl; rest = refl; total = omega arith }

  module _ (i : ℕ) (xs : List Area) (g : Placed ps i xs) where
    pub placed_next : (at : ℕ) → i < length ps → at ≡ area_place (get_or ps i blank)
        → Placed ps (i + 1) (set xs at (record { 0 = area_at xs at + area_of (get_or ps i blank) }))
    unfolding gathered_from
    placed_next at h e =
        let p = get_or ps i blank in
        let w = place_within p in
        let l : area_place p < length xs = omega (arith, g.six) in
        let t = sum_turn area_of ps i blank h in
        rw e
        (record {
          six = length-set xs (area_place p) _ ∙ g.six;
          rest = rw add-one (rw (drop-cons ps i blank h) at g.rest);
          total = let u = total_set xs (area_place p) (area_of p) l in let z = g.total in omega arith;
        })

    pub all_placed : length ps ≤ i → xs ≡ areas_of ps
    unfolding gathered_from
    all_placed h = rw (drop_of_length-le ps h) at g.rest

-- What a sub-area is added to, with it, is at most the total area of the site, and so fits.
pub placed_fits : (s : Site) (i k : ℕ) (xs : List Area) → Fine s → Placed (parts_of s) i xs → i < length (parts_of s)
    → Fits w64 (area_at xs k + area_of (get_or (parts_of s) i blank))
placed_fits s i k xs f g h =
    let t = sum_turn area_of (parts_of s) i blank h in
    let z = g.total in
    let m = at_most xs k in
    let l : area_at xs k + area_of (get_or (parts_of s) i blank) ≤ most_area = omega (arith, f.total) in
    record { fits = lt_of_le_of_lt l (lit< tt) }
