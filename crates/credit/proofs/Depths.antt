-- The depth of a volume, and the least depth of a target: what the promises need of them.
-- Assumes nothing.
use Prim.Native.Nat.{ℕ, ◌≤◌, ◌<◌}
use mathlib.Core.List.{List}
use mathlib.Core.Logic.{⊎_elim}
use mathlib.Core.Path.{◌≡◌}
use native.Mathlib.Nat.{le_refl, le_trans, le_antisymm}
use native.Mathlib.Omega.{arith}
use lib.Dec.{ltb}
use borrow.Author.Tests.{ltb-true, ltb-false, lt-ltb, le-ltb}
use Rattle.laws.proofs.First.{first_before, first_fails, first_mono, fails_so_below}
use Rattle.laws.proofs.Order.{lt_or_le}
use Rattle.units.specs.Limits.{highest_depth, grid_depths}
use Rattle.site.specs.declared.SubArea.{SubArea}
use Rattle.site.specs.Parts.{impervious_area}
use Rattle.volume.specs.Volume.{volume_of, depth_of}
use Rattle.volume.proofs.Rising.{volume_rises, volume_strict}
use Rattle.volume.proofs.Reaching.{depth_on_grid, depth_within_lem, depth_largest}
use Rattle.curve.specs.Curve.{depth_reaching}

module _ (ps : List SubArea) where
  -- More storage is no less deep.
  pub depth_mono : (v w : ℕ) → v ≤ w → depth_of ps v ≤ depth_of ps w
  depth_mono v w h = depth_largest ps w (depth_of ps v) (depth_on_grid ps v) (le_trans (depth_within_lem ps v) h)

  -- A volume below V at a depth is less deep.
  pub depth_below : (d v : ℕ) → v < volume_of ps d → depth_of ps v < d
  depth_below d v h =
      ⊎_elim (λ (l : depth_of ps v < d). l)
      (λ (l : d ≤ depth_of ps v).
      let r = volume_rises ps d (depth_of ps v) l (depth_on_grid ps v) in
      let w = depth_within_lem ps v in
      absurd (omega arith))
      (lt_or_le (depth_of ps v) d)

  -- The depth of V at a depth is that depth, where there is impervious area.
  pub depth_back : (d : ℕ) → 0 < impervious_area ps → d ≤ highest_depth → depth_of ps (volume_of ps d) ≡ d
  depth_back d i h =
      ⊎_elim
      (λ (l : d < depth_of ps (volume_of ps d)).
      let r = volume_strict ps d (depth_of ps (volume_of ps d)) i l (depth_on_grid ps (volume_of ps d)) in
      let w = depth_within_lem ps (volume_of ps d) in
      absurd (omega arith))
      (λ (l : depth_of ps (volume_of ps d) ≤ d). le_antisymm l (depth_largest ps (volume_of ps d) d h (le_refl (volume_of ps d))))
      (lt_or_le d (depth_of ps (volume_of ps d)))

module _ (percent_at : ℕ → ℕ) where
  -- Before the least depth of a target the percent is below the target,
  pub before_reaching : (target d : ℕ) → d < depth_reaching percent_at target → percent_at d < target
  before_reaching target d h = ltb-true (percent_at d) target (first_before (λ d. ltb (percent_at d) target) grid_depths d h)

  -- and a higher target has no smaller one.
  pub reaching_mono : (t u : ℕ) → t ≤ u → depth_reaching percent_at t ≤ depth_reaching percent_at u
  reaching_mono t u h =
      first_mono (λ d. ltb (percent_at d) t) (λ d. ltb (percent_at d) u) grid_depths
      (λ d l e. lt-ltb (percent_at d) u (let p = ltb-true (percent_at d) t e in omega arith))

  -- Where the percent at depth 200 is at least the target, the least depth is one of the grid, and its percent is at least the target.
  module _ (target : ℕ) (h : target ≤ percent_at highest_depth) where
    pub reaching_on_grid : depth_reaching percent_at target ≤ highest_depth
    reaching_on_grid = fails_so_below (λ d. ltb (percent_at d) target) grid_depths highest_depth (le-ltb (percent_at highest_depth) target h)

    pub reaching_reaches : target ≤ percent_at (depth_reaching percent_at target)
    reaching_reaches =
        let l = reaching_on_grid in
        ltb-false (percent_at (depth_reaching percent_at target)) target
        (first_fails (λ d. ltb (percent_at d) target) grid_depths (omega arith))
