-- Laws of the walk that judges a record: each sub-area is tried on those before it, and then the numbers.
-- Assumes nothing.
use Rattle.std.specs.Prelude.{Result, Ok, Err}
use Prim.Native.Nat.{ℕ, ◌+◌, ◌≤◌, ◌<◌}
use mathlib.Core.Bool.{Bool, true, false, not}
use mathlib.Core.List.{List, [], ◌∷◌}
use mathlib.Core.Path.{◌≡◌, refl, sym, ◌∙◌, ap}
use native.Mathlib.Omega.{arith}
use lib.ListN.{length, drop, get_or}
use lib.Seq.{length-take-le}
use borrow.Author.Tests.{lt-leb, not-true, not-false}
use Rattle.laws.specs.Turn.{in_turn}
use Rattle.refusal.specs.declared.Refusal.{Refusal}
use Rattle.refusal.specs.declared.Refusal.TheVariants.{UnfitSubArea, TotalAreaPassed, SiteFull, NumberNotHeld}
use Rattle.units.specs.declared.Area.{Area}
use Rattle.site.specs.declared.SubArea.{SubArea}
use Rattle.site.specs.declared.Site.{Site}
use Rattle.site.specs.Parts.{parts_of, numbers_of, area_of, blank, most_parts}
use Rattle.site.specs.Judging.{fits, has_room, judged_from, after_judging, numbered, with_numbers, judged}
use Rattle.site.proofs.Parts.{Whole, part_at, none_left}
use Rattle.site.proofs.Judging.{by_parts}

-- The sub-areas before place i passed and have the total area; what is left decides. The record has 32 places for numbers.
pub record Running (s : Site) (i total : ℕ) : Type 0 where
  pub whole : Whole s
  pub numbers : length s.numbers ≡ most_parts
  pub rest : judged_from total (drop i (parts_of s)) ≡ judged_from 0 (parts_of s)

-- A count above 32 is refused.
pub overfull : (s : Site) → most_parts < s.count → Err SiteFull ≡ judged s
unfolding judged
overfull s h = simp (lt-leb _ _ h)

pub starts : (s : Site) → Whole s → length s.numbers ≡ most_parts → Running s 0 0
starts s w n = record { whole = w; numbers = n; rest = refl }

-- A sub-area is tried, and those behind it on the new total.
pub one_by_one : (total : ℕ) (p : SubArea) (ps : List SubArea)
    → judged_from total (p ∷ ps) ≡ after_judging Err (λ more. judged_from more ps) (judged_from total (p ∷ []))
unfolding judged_from
one_by_one total p ps = told (fits p) (has_room total (area_of p))
  where
    told : (b d : Bool)
        → in_turn Err (judged_from (total + area_of p) ps) ((b, UnfitSubArea) ∷ (d, TotalAreaPassed) ∷ [])
        ≡ after_judging Err (λ more. judged_from more ps)
        (in_turn Err (Ok (record { 0 = total + area_of p })) ((b, UnfitSubArea) ∷ (d, TotalAreaPassed) ∷ []))
    told true true = refl
    told true false = refl
    told false d = refl

module _ (s : Site) (i total : ℕ) (r : Running s i total) (h : i < s.count) {x : Result Area Refusal}
    (e : x ≡ judged_from total (get_or s.parts i blank ∷ [])) where
  -- the judging of what is left, by the answer to the sub-area at place i
  turn : after_judging Err (λ more. judged_from more (drop (i + 1) (parts_of s))) x ≡ judged_from 0 (parts_of s)
  turn =
      ap (after_judging Err (λ more. judged_from more (drop (i + 1) (parts_of s)))) e
      ∙ sym (one_by_one total (get_or s.parts i blank) (drop (i + 1) (parts_of s)))
      ∙ ap (judged_from total) (sym (part_at s i r.whole h))
      ∙ r.rest

  -- What is granted is the next total area, and what is refused the record's refusal.
  pub passes : {a : Area} → x ≡ Ok a → Running s (i + 1) a.0
  passes f = record { whole = r.whole; numbers = r.numbers; rest = rw f at turn }

  pub refuses : {why : Refusal} → x ≡ Err why → Err why ≡ judged s
  refuses f =
      ap (after_judging Err (with_numbers (numbered s))) (rw f at turn) ∙ sym (by_parts s r.whole.count)

-- There are as many numbers as sub-areas.
module _ (s : Site) (i total : ℕ) (r : Running s i total) where
  pub numbers_there : s.count ≤ length s.numbers
  numbers_there = let n = r.numbers in let c = r.whole.count in omega arith

  pub numbers_counted : s.count ≡ length (numbers_of s)
  numbers_counted = sym (length-take-le s.count s.numbers numbers_there)

-- Where no sub-area is left, the numbers decide.
module _ (s : Site) (i : ℕ) (total : Area) (r : Running s i total.0) (h : s.count ≤ i) {b : Bool} (e : b ≡ numbered s) where
  all_tried : Ok total ≡ judged_from 0 (parts_of s)
  unfolding judged_from
  all_tried = rw (none_left s i r.whole h) at r.rest

  by_numbers : with_numbers (numbered s) total.0 ≡ judged s
  by_numbers = ap (after_judging Err (with_numbers (numbered s))) all_tried ∙ sym (by_parts s r.whole.count)

  pub ends_fine : not b ≡ false → Ok total ≡ judged s
  ends_fine f = rw (sym e ∙ not-false _ f) at by_numbers

  pub ends_unnumbered : not b ≡ true → Err NumberNotHeld ≡ judged s
  ends_unnumbered f = rw (sym e ∙ not-true _ f) at by_numbers
