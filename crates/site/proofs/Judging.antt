-- Laws of the judging of a record: what one that is judged fine has.
-- Assumes nothing.
use Rattle.std.specs.Prelude.{Result, Ok, Err}
use Prim.Native.Nat.{ℕ, ◌+◌, ◌≤◌}
use mathlib.Core.Bool.{Bool, true, false, and-eq-true_iff}
use mathlib.Core.Path.{◌≡◌, refl, sym, ◌∙◌, ap}
use mathlib.Core.List.{List, [], ◌∷◌}
use native.Mathlib.Nat.{add_assoc, add-zero, zero-add}
use native.Mathlib.Omega.{arith}
use lib.Dec.{leb}
use borrow.Author.Tests.{le-leb, leb-true}
use Rattle.laws.specs.Sum.{sum_of}
use Rattle.laws.specs.Turn.{in_turn}
use Rattle.refusal.specs.declared.Refusal.{Refusal}
use Rattle.refusal.specs.declared.Refusal.TheVariants.{UnfitSubArea, TotalAreaPassed, SiteFull}
use Rattle.units.specs.Limits.{most_area}
use Rattle.units.specs.declared.Area.{Area}
use Rattle.site.specs.declared.SubArea.{SubArea}
use Rattle.std.specs.Result.{IsErrAnd}
use Rattle.std.proofs.lemmas.Result.{err_from_is_err_and}
use Rattle.site.specs.declared.Site.{Site}
use Rattle.site.specs.Parts.{parts_of, area_of, most_parts, total_area, impervious_area}
use Rattle.site.specs.Judging.{fits, has_room, judged_from, after_judging, numbered, with_numbers, judged, impervious}
use Rattle.site.specs.Inner.{Fine}
use Rattle.site.specs.Promises.{all_fit}

-- No refusal is a grant.
pub never_granted : {why : Refusal} {a : Area} → Err why ≡ Ok a → ⊥
never_granted e = let z : ◌≡◌ {A = ℕ} 0 1 = cc in omega arith

-- Where the total area is granted, each test passed.
passed : (b d : Bool) (x : Result Area Refusal) (a : Area) → in_turn Err x ((b, UnfitSubArea) ∷ (d, TotalAreaPassed) ∷ []) ≡ Ok a
    → (b ≡ true) × ((d ≡ true) × (x ≡ Ok a))
passed true true x a e = (refl, (refl, e))
passed true false x a e = absurd (never_granted e)
passed false d x a e = absurd (never_granted e)

-- What is granted from a running total on: each sub-area fits, and the total with their area is what is granted, at most the largest.
from_total : (total : ℕ) (ps : List SubArea) (a : Area) → total ≤ most_area → judged_from total ps ≡ Ok a
    → (all_fit ps ≡ true) × (total + total_area ps ≡ a.0) × (a.0 ≤ most_area)
unfolding judged_from sum_of all_fit
from_total total [] a h e =
    let z : total ≡ a.0 = ap (after_judging (λ why. 0) (λ n. n)) e in
    (refl, omega arith, omega arith)
from_total total (p ∷ ps) a h e =
    let t = passed (fits p) (has_room total (area_of p)) (judged_from (total + area_of p) ps) a e in
    let l = leb-true (total + area_of p) most_area t.1.0 in
    let n = from_total (total + area_of p) ps a l t.1.1 in
    (simp t.0 n.0, omega arith, n.2)

-- Sub-areas that are granted fit, and their total area is at most the largest.
pub parts_fine : (ps : List SubArea) (a : Area) → judged_from 0 ps ≡ Ok a → (all_fit ps ≡ true) × (total_area ps ≤ most_area)
parts_fine ps a e = let t = from_total 0 ps a (omega arith) e in let z = t.1 in let l = t.2 in (t.0, omega arith)

-- Where a record is granted, its count, its sub-areas and its numbers passed.
record_passed : (s : Site) (a : Area) (b d : Bool) (x : Result Area Refusal) → leb s.count most_parts ≡ b
    → in_turn Err (after_judging Err (with_numbers d) x) ((b, SiteFull) ∷ []) ≡ Ok a
    → (s.count ≤ most_parts) × (x ≡ Ok a) × (d ≡ true)
record_passed s a true true (Ok total) f e = (leb-true s.count most_parts f, e, refl)
record_passed s a true false (Ok total) f e = absurd (never_granted e)
record_passed s a true d (Err why) f e = absurd (never_granted e)
record_passed s a false d x f e = absurd (never_granted e)

-- What a record that is judged fine has.
pub judged_has : (s : Site) (a : Area) → judged s ≡ Ok a
    → (s.count ≤ most_parts) × (all_fit (parts_of s) ≡ true) × (total_area (parts_of s) ≡ a.0) × (a.0 ≤ most_area) × (numbered s ≡ true)
unfolding judged
judged_has s a e =
    let g = record_passed s a (leb s.count most_parts) (numbered s) (judged_from 0 (parts_of s)) refl e in
    let t = from_total 0 (parts_of s) a (omega arith) g.1 in
    (g.0, t.0, omega arith, t.2, g.2)

-- A record that is judged fine has at most 32 sub-areas and at most the largest area.
pub judged_fine : (s : Site) (a : Area) → judged s ≡ Ok a → Fine s
judged_fine s a e =
    let h = judged_has s a e in
    record { count = h.0; total = omega arith }

-- Sub-areas that fit are granted from a running total on, where the total stays at most the largest.
from_fits : (total : ℕ) (ps : List SubArea) → all_fit ps ≡ true → total + total_area ps ≤ most_area
    → judged_from total ps ≡ Ok (record { 0 = total + total_area ps })
unfolding judged_from sum_of all_fit
from_fits total [] f h = simp add-zero
from_fits total (p ∷ ps) f h =
    let b = (and-eq-true_iff (fits p) (all_fit ps)).0 f in
    let room = le-leb (total + area_of p) most_area (omega arith) in
    simp (b.0, room, ← add_assoc) (from_fits (total + area_of p) ps b.1 (omega arith))

-- Sub-areas that fit are granted with their total area, where it is at most the largest.
pub fine_parts : (ps : List SubArea) → all_fit ps ≡ true → total_area ps ≤ most_area → judged_from 0 ps ≡ Ok (record { 0 = total_area ps })
fine_parts ps f h = from_fits 0 ps f (omega arith) ∙ ap (λ (n : ℕ). Ok (record { 0 = n })) (zero-add _)

-- A record of at most 32 sub-areas is judged by them, and then by its numbers.
pub by_parts : (s : Site) → s.count ≤ most_parts → judged s ≡ after_judging Err (with_numbers (numbered s)) (judged_from 0 (parts_of s))
unfolding judged
by_parts s h = simp (le-leb _ _ h)

-- A record that has what is asked is judged fine.
pub has_judged : (s : Site) (a : Area) → s.count ≤ most_parts → all_fit (parts_of s) ≡ true
    → total_area (parts_of s) ≡ a.0 → a.0 ≤ most_area → numbered s ≡ true → judged s ≡ Ok a
has_judged s a h f t l n =
    by_parts s h ∙ rw (n, fine_parts (parts_of s) f (omega arith)) (ap (λ (m : ℕ). Ok (record { 0 = m })) t)

-- A call whose record is judged: a fine record goes on with its total area, and a refused one stops the call.
module _ {A : Type 0} (refused : Refusal → A) (onward : ℕ → A) (s : Site) {found : Result Area Refusal} (e : found ≡ judged s) where
  pub goes_on : {total : Area} → found ≡ Ok total → onward total.0 ≡ after_judging refused onward (judged s)
  goes_on f = simp (sym e ∙ f)

  pub stops : {why : Refusal} → found ≡ Err why → refused why ≡ after_judging refused onward (judged s)
  stops f = simp (sym e ∙ f)

-- The impervious area of a record that is judged fine, and the refusal of another.
module _ (s : Site) {found : Result Area Refusal} (e : found ≡ judged s) where
  pub impervious_granted : {total : Area} (sum : Area) → found ≡ Ok total → sum.0 ≡ impervious_area (parts_of s) → Ok sum ≡ impervious s
  unfolding impervious
  impervious_granted sum f g = simp (sym e ∙ f, ← g)

  pub impervious_refused : {why : Refusal} → found ≡ Err why → Err why ≡ impervious s
  unfolding impervious
  impervious_refused f = simp (sym e ∙ f)

-- What is known of a record that is judged fine,
module _ (s : Site) {found : Result Area Refusal} {total : Area} (e : found ≡ judged s) (f : found ≡ Ok total) where
  pub fine_known : Fine s
  fine_known = judged_fine s total (sym e ∙ f)

  pub count_known : s.count ≤ most_parts
  count_known = fine_known.count

-- and how a call ends that hands on the refusal of another.
pub impervious_exit : (s : Site) {found result : Result Area Refusal} {why : Refusal} → found ≡ judged s → found ≡ Err why
    → IsErrAnd result (λ y. y ≡ why) → result ≡ impervious s
impervious_exit s {result} e f h = let p = err_from_is_err_and result h in rw (p.1, p.2) (impervious_refused s e f)
