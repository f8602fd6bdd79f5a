-- V on C is V by the old rules, and V is nowhere below that.
-- Assumes nothing.
use Prim.Native.Nat.{ℕ, ◌*◌, ◌≤◌, ◌<◌}
use mathlib.Core.Bool.{true, ◌&&◌, and-eq-true_iff}
use mathlib.Core.List.{List, [], ◌∷◌, map}
use mathlib.Core.Path.{◌≡◌, refl, sym}
use native.Mathlib.Nat.{le_refl, mul-le-mul_left}
use native.Mathlib.Omega.{arith}
use lib.Dec.{leb}
use borrow.Author.Tests.{leb-true}
use Rattle.laws.specs.Sum.{sum_of}
use Rattle.laws.specs.Table.{values_from, table_of}
use Rattle.laws.proofs.And.{and_right}
use Rattle.laws.proofs.Order.{never_both}
use Rattle.laws.proofs.Sum.{sum_mono}
use Rattle.laws.proofs.Table.{every, carry, length_table, table_at}
use Rattle.units.specs.declared.Column.TheVariants as column
use Rattle.units.specs.Limits.{most_area, highest_depth, grid_depths}
use Rattle.runoff.specs.Runoff.{runoff_of, by_rows, from_row}
use Rattle.site.specs.declared.Cover.{Cover}
use Rattle.site.specs.declared.Cover.TheVariants.{Imp, Per}
use Rattle.site.specs.declared.Soil.{Soil}
use Rattle.site.specs.declared.Soil.TheVariants.{A, B, C, CD, D, U, NoSoil}
use Rattle.site.specs.declared.SubArea.{SubArea}
use Rattle.site.specs.Soils.{suits, runoff_column}
use Rattle.site.specs.Parts.{area_of}
use Rattle.site.specs.Judging.{fits}
use Rattle.site.specs.Promises.{all_fit}
use Rattle.volume.specs.Volume.{if_pervious, pervious_runoff, volume_of}
use Rattle.rewrite.specs.OldRules.{old_column, old_runoff, old_volume_of}
use Rattle.rewrite.specs.Promises.{on_c, part_on_c, NeverSmaller}
use Rattle.rewrite.proofs.Sites.{impervious_kept}

-- On C a sub-area that fits sheds what it shed: `-` never stands under pervious cover.
runoff_old : (d : ℕ) (cover : Cover) (soil : Soil) (a : ℕ) → suits cover soil ≡ true
    → if_pervious cover (a * runoff_of (runoff_column (on_c soil)) d) ≡ if_pervious cover (a * runoff_of (old_column soil) d)
runoff_old d Imp soil a s = refl
runoff_old d Per A a s = refl
runoff_old d Per B a s = refl
runoff_old d Per C a s = refl
runoff_old d Per CD a s = refl
runoff_old d Per D a s = refl
runoff_old d Per U a s = refl
runoff_old d Per NoSoil a s = absurd (never_both refl (sym s))

suited : (p : SubArea) → fits p ≡ true → suits p.cover p.soil ≡ true
suited p f = and_right (leb 1 (area_of p) && leb (area_of p) most_area) (suits p.cover p.soil) f

pervious_old : (d : ℕ) (ps : List SubArea) → all_fit ps ≡ true → sum_of (pervious_runoff d) (map part_on_c ps) ≡ sum_of (old_runoff d) ps
unfolding sum_of all_fit
pervious_old d [] f = refl
pervious_old d (p ∷ ps) f =
    let g = (and-eq-true_iff (fits p) (all_fit ps)).0 f in
    let a = runoff_old d p.cover p.soil (area_of p) (suited p g.0) in
    let b = pervious_old d ps g.1 in
    omega arith

pub volume_old : (ps : List SubArea) → all_fit ps ≡ true → (d : ℕ) → volume_of (map part_on_c ps) d ≡ old_volume_of ps d
unfolding volume_of old_volume_of
volume_old ps f d = rw (impervious_kept ps, pervious_old d ps f)

-- Runoff on D is nowhere below runoff on C: one computed test over the grid,
none_below : every (λ d x. leb (runoff_of column.C d) x) (table_of (runoff_of column.D) grid_depths) ≡ true
unfolding runoff_of by_rows from_row values_from
none_below = refl

-- carried to each depth,
c_below_d : (d : ℕ) → d ≤ highest_depth → runoff_of column.C d ≤ runoff_of column.D d
c_below_d d h =
    let l : d < grid_depths = omega arith in
    leb-true _ _
    (rw (table_at (runoff_of column.D) grid_depths d l) at
    (carry (λ k x. leb (runoff_of column.C k) x) (table_of (runoff_of column.D) grid_depths) none_below d (rw (length_table (runoff_of column.D) grid_depths) l)))

-- to each soil and to V.
soil_never_below : (soil : Soil) (d : ℕ) → d ≤ highest_depth → runoff_of (old_column soil) d ≤ runoff_of (runoff_column soil) d
soil_never_below A d h = le_refl _
soil_never_below B d h = le_refl _
soil_never_below C d h = le_refl _
soil_never_below CD d h = le_refl _
soil_never_below D d h = le_refl _
soil_never_below U d h = c_below_d d h
soil_never_below NoSoil d h = c_below_d d h

part_never_below : (d : ℕ) → d ≤ highest_depth → (p : SubArea) → old_runoff d p ≤ pervious_runoff d p
part_never_below d h p = at p.cover
  where
    at : (cover : Cover) → if_pervious cover (area_of p * runoff_of (old_column p.soil) d) ≤ if_pervious cover (area_of p * runoff_of (runoff_column p.soil) d)
    at Imp = le_refl 0
    at Per = mul-le-mul_left (area_of p) (soil_never_below p.soil d h)

pub never_smaller : NeverSmaller
unfolding volume_of old_volume_of
never_smaller ps d h =
    let l = sum_mono (old_runoff d) (pervious_runoff d) (part_never_below d h) ps in
    omega arith
