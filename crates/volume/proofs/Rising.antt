-- V never falls with depth, rises strictly where there is impervious area, is 0 at depth 0, and stays within the limit.
-- Assumes nothing.
use Prim.Native.Nat.{ℕ, suc, ◌+◌, ◌*◌, ◌≤◌, ◌<◌}
use mathlib.Core.List.{List, [], ◌∷◌}
use mathlib.Core.Path.{◌≡◌, refl}
use native.Mathlib.Nat.{le_refl, mul-le-mul_left, mul-le-mul_right}
use native.Mathlib.Omega.{arith}
use lib.Dec.{lit≤}
use Rattle.laws.specs.Sum.{sum_of}
use Rattle.laws.proofs.Sum.{sum_mono}
use Rattle.units.specs.declared.Column.{Column}
use Rattle.units.specs.declared.Column.TheVariants.{A, B, C, CD, D}
use Rattle.units.specs.Limits.{most_area, largest, highest_depth}
use Rattle.runoff.specs.Runoff.{runoff_of, by_rows, from_row}
use Rattle.runoff.proofs.LineRule.{runoff_rises, runoff_most}
use Rattle.site.specs.declared.Cover.{Cover}
use Rattle.site.specs.declared.Cover.TheVariants.{Imp, Per}
use Rattle.site.specs.declared.SubArea.{SubArea}
use Rattle.site.specs.Soils.{runoff_column}
use Rattle.site.specs.Parts.{area_of, impervious_area, under, total_area}
use Rattle.volume.specs.Volume.{if_pervious, pervious_runoff, volume_of}

if_mono : (cover : Cover) {m n : ℕ} → m ≤ n → if_pervious cover m ≤ if_pervious cover n
if_mono Imp h = le_refl 0
if_mono Per h = h

-- The pervious part never falls with depth.
pervious_rises : (ps : List SubArea) (d e : ℕ) → d ≤ e → e ≤ highest_depth → sum_of (pervious_runoff d) ps ≤ sum_of (pervious_runoff e) ps
pervious_rises ps d e h k =
    sum_mono (pervious_runoff d) (pervious_runoff e)
    (λ p. if_mono p.cover (mul-le-mul_left (area_of p) (runoff_rises (runoff_column p.soil) d e h k))) ps

-- V never falls with depth.
pub volume_rises : (ps : List SubArea) (d e : ℕ) → d ≤ e → e ≤ highest_depth → volume_of ps d ≤ volume_of ps e
unfolding volume_of
volume_rises ps d e h k =
    let p = pervious_rises ps d e h k in
    let q = mul-le-mul_right (impervious_area ps) (mul-le-mul_left 300 h) in
    omega arith

-- V rises strictly where there is impervious area.
pub volume_strict : (ps : List SubArea) (d e : ℕ) → 0 < impervious_area ps → d < e → e ≤ highest_depth → volume_of ps d < volume_of ps e
unfolding volume_of
volume_strict ps d e i h k =
    let l : d ≤ e = omega arith in
    let p = pervious_rises ps d e l k in
    let q : 300 * suc d * impervious_area ps ≤ 300 * e * impervious_area ps = mul-le-mul_right (impervious_area ps) (mul-le-mul_left 300 h) in
    omega arith

-- No soil sheds anything at depth 0.
pub none_at_zero : (c : Column) → runoff_of c 0 ≡ 0
unfolding runoff_of by_rows from_row
none_at_zero A = refl
none_at_zero B = refl
none_at_zero C = refl
none_at_zero CD = refl
none_at_zero D = refl

if_none : (cover : Cover) (a n : ℕ) → n ≡ 0 → if_pervious cover (a * n) ≡ 0
if_none Imp a n e = refl
if_none Per a n e = rw e (omega arith)

pervious_zero : (ps : List SubArea) → sum_of (pervious_runoff 0) ps ≡ 0
unfolding sum_of
pervious_zero [] = refl
pervious_zero (p ∷ ps) =
    let a = if_none p.cover (area_of p) (runoff_of (runoff_column p.soil) 0) (none_at_zero (runoff_column p.soil)) in
    let b = pervious_zero ps in
    omega arith

-- V(0) = 0.
pub volume_zero : (ps : List SubArea) → volume_of ps 0 ≡ 0
unfolding volume_of
volume_zero ps =
    let e = pervious_zero ps in
    omega arith

part_most : (cover : Cover) (a n : ℕ) → n ≤ 60_000 → 60_000 * under cover a + if_pervious cover (a * n) ≤ 60_000 * a
part_most Imp a n h = omega arith
part_most Per a n h =
    let m = mul-le-mul_left a h in
    omega arith

-- At depth 200 the two parts come to at most 60,000 times the total area.
both_most : (ps : List SubArea) → 60_000 * impervious_area ps + sum_of (pervious_runoff highest_depth) ps ≤ 60_000 * total_area ps
unfolding sum_of
both_most [] = omega arith
both_most (p ∷ ps) =
    let r = runoff_most (runoff_column p.soil) highest_depth (lit≤ tt) in
    let a = part_most p.cover (area_of p) (runoff_of (runoff_column p.soil) highest_depth) (omega arith) in
    let b = both_most ps in
    omega arith

-- V(200) of a record that is judged fine fits: it never passes 10^13.
pub volume_fits : (ps : List SubArea) → total_area ps ≤ most_area → volume_of ps highest_depth ≤ largest
unfolding volume_of
volume_fits ps h =
    let b = both_most ps in
    omega arith
