-- Laws of the sum that V is made of: its terms, column by column, and that neither they nor their sum grow too large.
-- Assumes nothing.
use Rattle.std.specs.Prelude.{Result, Ok}
use Rattle.refusal.specs.declared.Refusal.{Refusal}
use Prim.Native.Nat.{ℕ, suc, ◌+◌, ◌*◌, ◌≤◌, ◌<◌}
use mathlib.Core.List.{List, [], ◌∷◌}
use mathlib.Core.Path.{◌≡◌, refl, sym, ◌∙◌, ap}
use mir.Syntax.{w64}
use mir.Val.{Fits}
use native.Mathlib.Nat.{mul-le-mul_left, mul-le-mul_right}
use native.Mathlib.Numerals.{add-one}
use native.Mathlib.Omega.{arith}
use lib.Dec.{lit≤}
use lib.ListN.{length, get_or, drop, drop_of_length-le}
use lib.Seq.{drop-cons}
use borrow.Author.Tests.{le-leb}
use Rattle.laws.specs.Sum.{sum_of}
use Rattle.laws.proofs.Sum.{sum_turn}
use Rattle.units.specs.declared.Area.{Area}
use Rattle.units.specs.declared.Depth.{Depth}
use Rattle.units.specs.declared.Column.{Column}
use Rattle.units.specs.declared.Column.TheVariants.{A, B, C, CD, D}
use Rattle.units.specs.Limits.{most_area, highest_depth}
use Rattle.runoff.specs.declared.RunoffDepth.{RunoffDepth}
use Rattle.runoff.specs.Runoff.{entry_of, runoff_of, runoff_sheet, given}
use Rattle.runoff.proofs.LineRule.{sheet_at, runoff_most}
use Rattle.volume.specs.Areas.{no_area, area_at, total_of, soils_runoff, volume_from}
use Rattle.volume.proofs.Gathering.{at_most}

-- On the constant sheet the look-up at a grid depth finds the runoff.
pub found_is : (sheet : List ℕ) (c : Column) (d : Depth) {found : Result RunoffDepth Refusal} {x : RunoffDepth} → sheet ≡ runoff_sheet → d.0 ≤ highest_depth
    → found ≡ entry_of sheet c d → found ≡ Ok x → x.0 ≡ runoff_of c d.0
found_is sheet c d s h e f =
    let g : entry_of sheet c d ≡ Ok (record { 0 = runoff_of c d.0 }) = simp (le-leb d.0 highest_depth h, s, sheet_at c d.0 h) in
    ap (λ (r : Result RunoffDepth Refusal). (given r).1) (sym f ∙ e ∙ g)

-- the soil columns, in the order of the six areas
abbrev pub columns : List Column
columns = A ∷ B ∷ C ∷ CD ∷ D ∷ []

-- area × runoff, over columns
pub soils_from : List Column → List Area → ℕ → ℕ
soils_from [] xs d = 0
soils_from (c ∷ cs) [] d = 0
soils_from (c ∷ cs) (x ∷ xs) d = x.0 * runoff_of c d + soils_from cs xs d

all_soils : (xs : List Area) (d : ℕ) → length xs ≡ 6 → soils_from columns (drop 1 xs) d ≡ soils_runoff xs d
unfolding soils_from
all_soils (x₀ ∷ x₁ ∷ x₂ ∷ x₃ ∷ x₄ ∷ x₅ ∷ []) d l = omega arith
all_soils [] d l = absurd (omega arith)
all_soils (x₀ ∷ []) d l = absurd (omega arith)
all_soils (x₀ ∷ x₁ ∷ []) d l = absurd (omega arith)
all_soils (x₀ ∷ x₁ ∷ x₂ ∷ []) d l = absurd (omega arith)
all_soils (x₀ ∷ x₁ ∷ x₂ ∷ x₃ ∷ []) d l = absurd (omega arith)
all_soils (x₀ ∷ x₁ ∷ x₂ ∷ x₃ ∷ x₄ ∷ []) d l = absurd (omega arith)
all_soils (x₀ ∷ x₁ ∷ x₂ ∷ x₃ ∷ x₄ ∷ x₅ ∷ x₆ ∷ xs) d l = absurd (omega arith)

-- The sum so far, with the columns from place i on, is the whole sum; and were each runoff left 60,000, it would still be small.
pub record Summing (xs : List Area) (d i sum : ℕ) : Type 0 where
  pub six : length xs ≡ 6
  pub rest : sum + soils_from (drop i columns) (drop (i + 1) xs) d ≡ 300 * d * area_at xs 0 + soils_runoff xs d
  pub small : sum + 60_000 * total_of (drop (i + 1) xs) ≤ 60_000 * most_area

module _ (xs : List Area) (d : ℕ) where
  module _ (l : length xs ≡ 6) (s : total_of xs ≤ most_area) (h : d ≤ highest_depth) where
    first_small : 300 * d * area_at xs 0 ≤ 60_000 * area_at xs 0
    first_small = let k : 300 * d ≤ 60_000 = omega arith in mul-le-mul_right (area_at xs 0) k

    pub first_fits : Fits w64 (300 * d * area_at xs 0)
    first_fits =
        let m = at_most xs 0 in
        let f = first_small in
        record { fits = omega arith }

    pub sum_starts : Summing xs d 0 (300 * d * area_at xs 0)
    sum_starts =
        let f = first_small in
        let t = sum_turn (λ (x : Area). x.0) xs 0 no_area (omega arith) in
        let a = all_soils xs d l in
        record { six = l; rest = omega arith; small = omega arith }

  module _ (i sum : ℕ) (g : Summing xs d i sum) where
    module _ (h : i < 5) (k : d ≤ highest_depth) (r : ℕ) (e : r ≡ runoff_of (get_or columns i A) d) where
      left : soils_from (drop i columns) (drop (i + 1) xs) d
          ≡ area_at xs (i + 1) * runoff_of (get_or columns i A) d + soils_from (drop (i + 1) columns) (drop (i + 1 + 1) xs) d
      unfolding soils_from
      left = let n = g.six in rw (drop-cons columns i A (omega arith), drop-cons xs (i + 1) no_area (omega arith), add-one i, add-one (suc i)) refl

      -- a term is at most 60,000 times its area
      term_small : area_at xs (i + 1) * r ≤ area_at xs (i + 1) * 60_000
      term_small = let m = runoff_most (get_or columns i A) d k in mul-le-mul_left (area_at xs (i + 1)) (omega arith)

      pub term_fits : Fits w64 (area_at xs (i + 1) * r)
      term_fits =
          let n = g.six in
          let m = term_small in
          let t = sum_turn (λ (x : Area). x.0) xs (i + 1) no_area (omega arith) in
          let s = g.small in
          record { fits = omega arith }

      sum_small : sum + area_at xs (i + 1) * r + 60_000 * total_of (drop (i + 1 + 1) xs) ≤ 60_000 * most_area
      sum_small =
          let n = g.six in
          let m = term_small in
          let t = sum_turn (λ (x : Area). x.0) xs (i + 1) no_area (omega arith) in
          let s = g.small in
          omega arith

      pub sum_fits : Fits w64 (sum + area_at xs (i + 1) * r)
      sum_fits = let s = sum_small in record { fits = omega arith }

      pub sum_next : Summing xs d (i + 1) (sum + area_at xs (i + 1) * r)
      sum_next =
          let z = left in
          let w = g.rest in
          let p = ap (λ (n : ℕ). area_at xs (i + 1) * n) e in
          record { six = g.six; rest = omega arith; small = sum_small }

    module _ (h : 5 ≤ i) where
      pub whole_fits : Fits w64 (121 * sum)
      whole_fits = let s = g.small in record { fits = omega arith }

      -- Where no column is left, the sum makes V.
      pub sum_ends : 121 * sum ≡ volume_from xs d
      unfolding soils_from volume_from
      sum_ends =
          let w = none_left (drop (i + 1) xs) in
          let z = g.rest in
          omega arith
        where
          none_left : (ys : List Area) → soils_from (drop i columns) ys d ≡ 0
          none_left ys = rw (drop_of_length-le columns h) refl

-- The six areas are parts of their total.
six_le : (xs : List Area) → area_at xs 0 + (area_at xs 1 + (area_at xs 2 + (area_at xs 3 + (area_at xs 4 + area_at xs 5)))) ≤ total_of xs
unfolding sum_of
six_le [] = omega arith
six_le (a ∷ []) = omega arith
six_le (a ∷ b ∷ []) = omega arith
six_le (a ∷ b ∷ c ∷ []) = omega arith
six_le (a ∷ b ∷ c ∷ d ∷ []) = omega arith
six_le (a ∷ b ∷ c ∷ d ∷ e ∷ []) = omega arith
six_le (a ∷ b ∷ c ∷ d ∷ e ∷ f ∷ xs) = omega arith

-- V(200) from six areas is at most that of the largest site, all of it impervious.
pub from_most : (xs : List Area) → total_of xs ≤ most_area → volume_from xs highest_depth ≤ 7_260_000 * most_area
unfolding volume_from
from_most xs s =
    let m = six_le xs in
    let a = mul-le-mul_left (area_at xs 1) (runoff_most A highest_depth (lit≤ tt)) in
    let b = mul-le-mul_left (area_at xs 2) (runoff_most B highest_depth (lit≤ tt)) in
    let c = mul-le-mul_left (area_at xs 3) (runoff_most C highest_depth (lit≤ tt)) in
    let cd = mul-le-mul_left (area_at xs 4) (runoff_most CD highest_depth (lit≤ tt)) in
    let d = mul-le-mul_left (area_at xs 5) (runoff_most D highest_depth (lit≤ tt)) in
    omega arith
