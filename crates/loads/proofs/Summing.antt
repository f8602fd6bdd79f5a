-- Laws of the loop that sums the loads of sub-areas.
-- Assumes nothing.
use Prim.Native.Nat.{ℕ, ◌+◌, ◌*◌, ◌≤◌, ◌<◌}
use mathlib.Core.Path.{◌≡◌}
use mathlib.Core.List.{List}
use native.Mathlib.Omega.{arith}
use lib.ListN.{length, drop, get_or}
use mir.Syntax.{w64}
use mir.Val.{Fits}
use Rattle.laws.proofs.Sum.{sum_turn, sum_end}
use Rattle.units.specs.Limits.{most_area}
use Rattle.site.specs.declared.SubArea.{SubArea}
use Rattle.site.specs.declared.Site.{Site}
use Rattle.site.specs.Parts.{parts_of, area_of, blank, total_area}
use Rattle.site.specs.Inner.{Fine}
use Rattle.loads.specs.Rates.{table_most}
use Rattle.loads.specs.Loads.{part_load, load_of}

-- The sum so far with what is left is the whole load; and were each rate left the largest, the load would still be small.
pub record Loading (rates : List ℕ) (ps : List SubArea) (i sum : ℕ) : Type 0 where
  pub rest : sum + load_of rates (drop i ps) ≡ load_of rates ps
  pub small : sum + table_most * total_area (drop i ps) ≤ table_most * most_area

pub load_starts : (rates : List ℕ) (s : Site) → Fine s → Loading rates (parts_of s) 0 0
load_starts rates s f =
    let l = f.total in
    record { rest = omega arith; small = omega arith }

module _ (rates : List ℕ) (ps : List SubArea) (i sum : ℕ) (r : Loading rates ps i sum) where
  pub load_ends : length ps ≤ i → sum ≡ load_of rates ps
  load_ends h = let e = r.rest in let z = sum_end (part_load rates) ps i h in omega arith

  module _ (h : i < length ps) where
    abbrev p : SubArea
    p = get_or ps i blank

    area_left : total_area (drop i ps) ≡ area_of p + total_area (drop (i + 1) ps)
    area_left = sum_turn area_of ps i blank h

    pub area_small : area_of p ≤ most_area
    area_small =
        let e = area_left in
        let b = r.small in
        omega arith

    -- the turn at a sub-area of the load v
    module _ (v : ℕ) (e : v ≡ part_load rates p) (l : v ≤ table_most * area_of p) where
      still_small : sum + v + table_most * total_area (drop (i + 1) ps) ≤ table_most * most_area
      still_small =
          let d = area_left in
          let b = r.small in
          omega arith

      pub sum_fits : Fits w64 (sum + v)
      sum_fits = let b = still_small in record { fits = omega arith }

      pub load_next : Loading rates ps (i + 1) (sum + v)
      load_next =
          let d = sum_turn (part_load rates) ps i blank h in
          let w = r.rest in
          record { rest = omega arith; small = still_small }
