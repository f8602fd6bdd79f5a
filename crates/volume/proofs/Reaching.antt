-- The depth of a volume: the largest grid depth whose V is not above it, and the loop that finds it.
-- Assumes nothing.
use Prim.Native.Nat.{ℕ, ◌+◌, ◌-◌, ◌/◌, ◌≤◌, ◌<◌}
use mathlib.Core.Bool.{Bool}
use mathlib.Core.List.{List}
use mathlib.Core.Logic.{⊎_elim}
use mathlib.Core.Path.{◌≡◌}
use native.Mathlib.Nat.{le_trans, mul-le-mul_left, mul-le-mul_right}
use native.Mathlib.Omega.{arith}
use lib.Dec.{leb, lit<}
use borrow.Author.Tests.{le-leb, leb-true}
use Rattle.laws.specs.First.{first}
use Rattle.laws.proofs.First.{Once, first_le, first_before, passes_so_above}
use Rattle.laws.proofs.Order.{lt_or_le}
use Rattle.units.specs.declared.Area.{Area}
use Rattle.units.specs.declared.Column.TheVariants.{A, B, C, CD, D}
use Rattle.units.specs.Limits.{highest_depth, grid_depths}
use Rattle.runoff.proofs.LineRule.{runoff_rises}
use Rattle.site.specs.declared.SubArea.{SubArea}
use Rattle.volume.specs.Volume.{volume_of, depth_within, depth_of}
use Rattle.volume.specs.Areas.{area_at, volume_from}
use Rattle.volume.proofs.Rising.{volume_rises, volume_zero, none_at_zero}

-- For any V: the depth of a volume is on the grid.
pub within_on_grid : (volume_at : ℕ → ℕ) (v : ℕ) → depth_within volume_at v ≤ highest_depth
within_on_grid volume_at v = let l = first_le (λ d. leb (volume_at d) v) grid_depths in omega arith

-- For a V that starts at 0 and never falls: its V is not above the volume, and no depth whose V is not above it is larger.
module _ (volume_at : ℕ → ℕ) (start : volume_at 0 ≡ 0)
    (rises : (d e : ℕ) → d ≤ e → e ≤ highest_depth → volume_at d ≤ volume_at e) (v : ℕ) where
  abbrev test : ℕ → Bool
  test d = leb (volume_at d) v

  once : Once test grid_depths
  once i j h k e = le-leb _ _ (le_trans (rises i j h (omega arith)) (leb-true _ _ e))

  some : 0 < first test grid_depths
  some = passes_so_above test grid_depths 0 once (lit< tt) (le-leb (volume_at 0) v (omega (arith, start)))

  pub within_not_above : volume_at (depth_within volume_at v) ≤ v
  within_not_above =
      let s = some in
      leb-true _ _ (first_before test grid_depths (first test grid_depths - 1) (omega arith))

  pub within_largest_lem : (d : ℕ) → d ≤ highest_depth → volume_at d ≤ v → d ≤ depth_within volume_at v
  within_largest_lem d h k =
      let l = passes_so_above test grid_depths d once (omega arith) (le-leb _ _ k) in
      omega arith

  -- A depth whose V is above the volume is larger.
  pub within_below : (d : ℕ) → v < volume_at d → depth_within volume_at v < d
  within_below d k =
      ⊎_elim (λ (l : depth_within volume_at v < d). l)
      (λ (l : d ≤ depth_within volume_at v).
      let r = rises d (depth_within volume_at v) l (within_on_grid volume_at v) in
      let w = within_not_above in
      absurd (omega arith))
      (lt_or_le (depth_within volume_at v) d)

-- V from six areas never falls with depth.
pub from_rises : (xs : List Area) (d e : ℕ) → d ≤ e → e ≤ highest_depth → volume_from xs d ≤ volume_from xs e
unfolding volume_from
from_rises xs d e h k =
    let i = mul-le-mul_right (area_at xs 0) (mul-le-mul_left 300 h) in
    let a = mul-le-mul_left (area_at xs 1) (runoff_rises A d e h k) in
    let b = mul-le-mul_left (area_at xs 2) (runoff_rises B d e h k) in
    let c = mul-le-mul_left (area_at xs 3) (runoff_rises C d e h k) in
    let cd = mul-le-mul_left (area_at xs 4) (runoff_rises CD d e h k) in
    let l = mul-le-mul_left (area_at xs 5) (runoff_rises D d e h k) in
    omega arith

-- V from six areas starts at 0.
from_zero : (xs : List Area) → volume_from xs 0 ≡ 0
unfolding volume_from
from_zero xs = simp (none_at_zero A, none_at_zero B, none_at_zero C, none_at_zero CD, none_at_zero D) (omega arith)

-- The loop: the depth is among the depths from low on, as many as the width, and all of them are on the grid.
pub record Closing (xs : List Area) (v low width : ℕ) : Type 0 where
  pub least : low ≤ depth_within (volume_from xs) v
  pub most : depth_within (volume_from xs) v < low + width
  pub within : low + width ≤ grid_depths

module _ (xs : List Area) (v : ℕ) where
  pub closing_starts : Closing xs v 0 grid_depths
  closing_starts =
      let l = within_on_grid (volume_from xs) v in
      record { least = omega arith; most = omega arith; within = omega arith }

  module _ (low width : ℕ) (c : Closing xs v low width) where
    pub closing_ends : width ≤ 1 → low ≡ depth_within (volume_from xs) v
    closing_ends h = omega (arith, c.least, c.most)

    module _ (h : 1 < width) where
      -- The depth halfway is on the grid.
      pub halfway : low + width / 2 ≤ highest_depth
      halfway = omega (arith, c.within)

      module _ (r : ℕ) (e : r ≡ volume_from xs (low + width / 2)) where
        -- Where V there is not above the volume, the depth is not below it;
        pub closing_up : r ≤ v → Closing xs v (low + width / 2) (width - width / 2)
        closing_up k =
            let m = c.most in
            let w = c.within in
            let l = within_largest_lem (volume_from xs) (from_zero xs) (from_rises xs) v (low + width / 2) halfway (omega arith) in
            record { least = l; most = omega arith; within = omega arith }

        -- where it is above, the depth is below.
        pub closing_down : v < r → Closing xs v low (width - width / 2)
        closing_down k =
            let w = c.within in
            let l = within_below (volume_from xs) (from_zero xs) (from_rises xs) v (low + width / 2) (omega arith) in
            record { least = c.least; most = omega arith; within = omega arith }

-- The depth of a volume is the largest grid depth d with V(d) not above the volume.
module _ (ps : List SubArea) (v : ℕ) where
  pub depth_on_grid : depth_of ps v ≤ highest_depth
  unfolding depth_of
  depth_on_grid = within_on_grid (volume_of ps) v

  pub depth_within_lem : volume_of ps (depth_of ps v) ≤ v
  unfolding depth_of
  depth_within_lem = within_not_above (volume_of ps) (volume_zero ps) (volume_rises ps) v

  pub depth_largest : (d : ℕ) → d ≤ highest_depth → volume_of ps d ≤ v → d ≤ depth_of ps v
  unfolding depth_of
  depth_largest = within_largest_lem (volume_of ps) (volume_zero ps) (volume_rises ps) v
