-- Laws of a sum over sub-areas, and of the loop that makes it.
-- Assumes nothing.
use Prim.Native.Nat.{ℕ, ◌+◌, ◌*◌, ◌^◌, ◌≤◌, ◌<◌}
use mathlib.Core.Path.{◌≡◌, sym}
use mathlib.Core.List.{List}
use native.Mathlib.Nat.{mul-le-mul_left}
use native.Mathlib.Omega.{arith}
use lib.ListN.{drop, get_or}
use Rattle.laws.specs.Sum.{sum_of}
use Rattle.laws.proofs.Sum.{sum_mono, sum_scaled, sum_is}
use Rattle.std.specs.List.{sum_by}
use Rattle.units.specs.Limits.{most_area}
use Rattle.site.specs.declared.Cover.{Cover}
use Rattle.site.specs.declared.Cover.TheVariants.{Imp, Per}
use Rattle.site.specs.declared.SubArea.{SubArea}
use Rattle.site.specs.declared.Site.{Site}
use Rattle.site.specs.Parts.{parts_of, blank, area_of, under, impervious_of, total_area, impervious_area}
use Rattle.site.specs.Inner.{Fine}
use Rattle.site.proofs.Parts.{Whole, part_at, none_left}

under_le : (cover : Cover) (area : ℕ) → under cover area ≤ area
under_le Imp area = omega arith
under_le Per area = omega arith

-- The impervious area is a part of the total area.
pub impervious_le : (ps : List SubArea) → impervious_area ps ≤ total_area ps
impervious_le = sum_mono impervious_of area_of (λ p. under_le p.cover (area_of p))

-- The sum of numbers of the sub-areas of a record that is judged fine, each at most a multiple of its area, is within that multiple of the
-- largest area.
module _ (amount : SubArea → ℕ) (k : ℕ) (s : Site) (f : Fine s) (h : (p : SubArea) → amount p ≤ k * area_of p) where
  pub sum_fits : sum_by amount (parts_of s) ≤ k * most_area
  sum_fits =
      let e = sum_is amount (parts_of s) in
      let l = sum_scaled k amount area_of h (parts_of s) in
      let t = f.total in
      omega (arith, mul-le-mul_left k t)

-- The impervious area of a record that is judged fine fits, being a part of the total area.
pub impervious_fits : (s : Site) → Fine s → sum_by impervious_of (parts_of s) < 2 ^ 64
impervious_fits s f =
    let e = sum_is impervious_of (parts_of s) in
    let l = impervious_le (parts_of s) in
    let t = f.total in
    omega arith

pub impervious_summed : (s : Site) → sum_by impervious_of (parts_of s) ≡ impervious_area (parts_of s)
impervious_summed s = sym (sum_is impervious_of (parts_of s))

-- The loop of a sum: what is gathered before place i, with what is left, is the whole sum.
pub record Summed (amount : SubArea → ℕ) (s : Site) (i sum : ℕ) : Type 0 where
  pub whole : Whole s
  pub rest : sum + sum_of amount (drop i (parts_of s)) ≡ sum_of amount (parts_of s)

module _ (amount : SubArea → ℕ) (s : Site) where
  pub sum_starts : Whole s → Summed amount s 0 0
  sum_starts w = record { whole = w; rest = omega arith }

  -- the sum of what is left, with the sub-area at place i told apart
  left : (i sum : ℕ) → Summed amount s i sum → i < s.count
      → sum + (amount (get_or s.parts i blank) + sum_of amount (drop (i + 1) (parts_of s))) ≡ sum_of amount (parts_of s)
  unfolding sum_of
  left i sum r h = rw (part_at s i r.whole h) at r.rest

  -- v is what the sub-area at place i adds
  pub sum_next : (i sum v : ℕ) → Summed amount s i sum → i < s.count → v ≡ amount (get_or s.parts i blank)
      → Summed amount s (i + 1) (sum + v)
  sum_next i sum v r h a = record { whole = r.whole; rest = let e = left i sum r h in omega arith }

  -- What is gathered next is at most the whole sum.
  pub sum_within : (i sum v : ℕ) → Summed amount s i sum → i < s.count → v ≡ amount (get_or s.parts i blank)
      → sum + v ≤ sum_of amount (parts_of s)
  sum_within i sum v r h a = let e = left i sum r h in omega arith

  pub sum_ends : (i sum : ℕ) → Summed amount s i sum → s.count ≤ i → sum ≡ sum_of amount (parts_of s)
  unfolding sum_of
  sum_ends i sum r h =
      let e : sum + 0 ≡ sum_of amount (parts_of s) = rw (none_left s i r.whole h) at r.rest in
      omega arith
