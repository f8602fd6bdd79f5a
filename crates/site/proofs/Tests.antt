-- The tests of 2 and 3, as the code makes them.
-- Assumes nothing.
use Rattle.std.specs.Prelude.{Result, Ok, Err}
use Rattle.refusal.specs.declared.Refusal.{Refusal}
use Prim.Native.Nat.{ℕ, ◌+◌, ◌≤◌}
use mathlib.Core.Bool.{Bool, true, false, not}
use mathlib.Core.List.{[], ◌∷◌}
use mathlib.Core.Path.{◌≡◌, refl, sym, ◌∙◌, ap}
use native.Mathlib.Nat.{lt_of_le_of_lt}
use mir.Syntax.{w64}
use mir.Val.{Fits}
use lib.Dec.{lit<}
use borrow.Author.Tests.{leb-true, not-true, not-false}
use Rattle.refusal.specs.declared.Refusal.TheVariants.{UnfitSubArea, TotalAreaPassed}
use Rattle.laws.specs.Turn.{in_turn}
use Rattle.units.specs.declared.Area.{Area}
use Rattle.units.specs.Limits.{most_area}
use Rattle.site.specs.declared.SubArea.{SubArea}
use Rattle.site.specs.Parts.{area_of}
use Rattle.site.specs.Judging.{fits, has_room, judged_from, after_judging}
use Rattle.site.specs.Inner.{grown_by}
use Rattle.site.proofs.Judging.{never_granted}

-- Where there is room, the sum is no number of more than 64 bits.
pub sum_fits : (total area : ℕ) {b : Bool} → b ≡ has_room total area → not b ≡ false → Fits w64 (total + area)
sum_fits total area e f =
    record { fits = lt_of_le_of_lt (leb-true (total + area) most_area (sym e ∙ not-false _ f)) (lit< tt) }

-- What an area makes of a total, by the test of 3.
module _ (total area : ℕ) {b : Bool} (e : b ≡ has_room total area) where
  pub grow_crowded : not b ≡ true → Err TotalAreaPassed ≡ grown_by total area
  grow_crowded f = simp (sym e ∙ not-true _ f)

  pub grow_granted : not b ≡ false → Ok (record { 0 = total + area }) ≡ grown_by total area
  grow_granted f = simp (sym e ∙ not-false _ f)

-- The answers to one sub-area more, by the test of 2.
module _ (total : ℕ) (p : SubArea) {b : Bool} (e : b ≡ fits p) where
  pub try_unfit : not b ≡ true → Err UnfitSubArea ≡ judged_from total (p ∷ [])
  unfolding judged_from
  try_unfit f = simp (sym e ∙ not-true _ f)

  pub try_fit : not b ≡ false → {x : Result Area Refusal} → x ≡ grown_by total (area_of p) → x ≡ judged_from total (p ∷ [])
  unfolding judged_from
  try_fit f g = simp (sym e ∙ not-false _ f) g

-- What a granted sub-area tells: the new total is the one that is answered, and at most the largest area.
pub try_grants : (total : ℕ) (p : SubArea) (a : Area) → judged_from total (p ∷ []) ≡ Ok a → (total + area_of p ≤ most_area) × (total + area_of p ≡ a.0)
unfolding judged_from
try_grants total p a = told (fits p) (has_room total (area_of p)) refl
  where
    told : (b d : Bool) → has_room total (area_of p) ≡ d
        → in_turn Err (Ok (record { 0 = total + area_of p })) ((b, UnfitSubArea) ∷ (d, TotalAreaPassed) ∷ []) ≡ Ok a
        → (total + area_of p ≤ most_area) × (total + area_of p ≡ a.0)
    told true true f e = (leb-true (total + area_of p) most_area f, ap (after_judging (λ why. 0) (λ n. n)) e)
    told true false f e = absurd (never_granted e)
    told false d f e = absurd (never_granted e)
