-- Laws of a walk over sub-areas that tries each on the total area of those before it, and of the numbers that are tried then.
-- Assumes nothing.
use Rattle.std.specs.Prelude.{Result, Ok, Err}
use Prim.Native.Nat.{ℕ, ◌+◌, ◌≤◌, ◌<◌}
use mathlib.Core.Bool.{Bool, true, false, not}
use mathlib.Core.List.{List, [], ◌∷◌}
use mathlib.Core.Path.{◌≡◌, refl, sym, ◌∙◌, ap}
use native.Mathlib.Numerals.{add-one}
use lib.ListN.{length, drop, get_or, drop_of_length-le}
use lib.Seq.{drop-cons}
use borrow.Author.Tests.{not-true, not-false}
use Rattle.refusal.specs.declared.Refusal.{Refusal}
use Rattle.refusal.specs.declared.Refusal.TheVariants.{NumberNotHeld}
use Rattle.units.specs.declared.Area.{Area}
use Rattle.site.specs.declared.SubArea.{SubArea}
use Rattle.site.specs.declared.Site.{Site}
use Rattle.site.specs.Parts.{parts_of, blank, most_parts}
use Rattle.site.specs.Judging.{judged_from, after_judging, numbered, with_numbers, judged}
use Rattle.site.proofs.Judging.{by_parts}
use Rattle.site.proofs.Walking.{one_by_one}

-- The sub-areas before place i passed and have the total area; what is left decides.
pub record Tried (ps : List SubArea) (i total : ℕ) : Type 0 where
  pub rest : judged_from total (drop i ps) ≡ judged_from 0 ps

pub none_tried : (ps : List SubArea) → Tried ps 0 0
none_tried ps = record { rest = refl }

module _ (ps : List SubArea) (i total : ℕ) (r : Tried ps i total) (h : i < length ps) {x : Result Area Refusal}
    (e : x ≡ judged_from total (get_or ps i blank ∷ [])) where
  -- the judging of what is left, by the answer to the sub-area at place i
  turn : after_judging Err (λ more. judged_from more (drop (i + 1) ps)) x ≡ judged_from 0 ps
  turn =
      ap (after_judging Err (λ more. judged_from more (drop (i + 1) ps))) e
      ∙ sym (one_by_one total (get_or ps i blank) (drop (i + 1) ps))
      ∙ rw add-one (ap (judged_from total) (sym (drop-cons ps i blank h)))
      ∙ r.rest

  -- What is granted is the next total area, and what is refused the refusal of all of them.
  pub tried_next : {a : Area} → x ≡ Ok a → Tried ps (i + 1) a.0
  tried_next f = record { rest = rw f at turn }

  pub tried_refused : {why : Refusal} → x ≡ Err why → Err why ≡ judged_from 0 ps
  tried_refused f = rw f at turn

-- Where none is left, the total area is granted.
pub tried_all : (ps : List SubArea) (i : ℕ) (total : Area) → Tried ps i total.0 → length ps ≤ i → Ok total ≡ judged_from 0 ps
unfolding judged_from
tried_all ps i total r h = rw (drop_of_length-le ps h) at r.rest

-- A record of at most 32 sub-areas is judged by them, and then by its numbers.
module _ (s : Site) (h : s.count ≤ most_parts) where
  pub part_refused : {why : Refusal} → Err why ≡ judged_from 0 (parts_of s) → Err why ≡ judged s
  part_refused e = ap (after_judging Err (with_numbers (numbered s))) e ∙ sym (by_parts s h)

  module _ {total : Area} (e : Ok total ≡ judged_from 0 (parts_of s)) {b : Bool} (n : b ≡ numbered s) where
    by_numbers : with_numbers (numbered s) total.0 ≡ judged s
    by_numbers = ap (after_judging Err (with_numbers (numbered s))) e ∙ sym (by_parts s h)

    pub numbers_fine : not b ≡ false → Ok total ≡ judged s
    numbers_fine f = rw (sym n ∙ not-false _ f) at by_numbers

    pub numbers_refused : not b ≡ true → Err NumberNotHeld ≡ judged s
    numbers_refused f = rw (sym n ∙ not-true _ f) at by_numbers
