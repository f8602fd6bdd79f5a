-- The promises of a site record, proved.
-- Assumes nothing.
use Rattle.std.specs.Prelude.{Result, Ok, Err}
use Prim.Native.Nat.{ℕ, ◌+◌, ◌≤◌, ◌<◌}
use mathlib.Core.Path.{◌≡◌, refl, sym, ◌∙◌, ap}
use mathlib.Core.Bool.{true, and-eq-true_iff}
use mathlib.Core.List.{List, [], ◌∷◌, ◌++◌}
use native.Mathlib.Numerals.{add-one}
use native.Mathlib.Omega.{arith}
use lib.ListN.{get_or}
use lib.Seq.{take-suc-set, get_or-set_other}
use borrow.Author.Tests.{le-leb, lt-leb}
use Rattle.laws.proofs.Sum.{sum_more}
use Rattle.refusal.specs.declared.Refusal.{Refusal}
use Rattle.refusal.specs.Refusal.{granted}
use Rattle.refusal.proofs.Numbers.{refusal_not_granted}
use Rattle.units.specs.declared.Area.{Area}
use Rattle.units.specs.Limits.{most_area}
use Rattle.site.specs.declared.SubArea.{SubArea}
use Rattle.site.specs.declared.Site.{Site}
use Rattle.site.specs.Adding.{Added}
use Rattle.site.specs.Parts.{most_parts, parts_of, numbers_of, area_of, total_area, blank, empty_site}
use Rattle.site.specs.Judging.{fits, judged_from, after_judging, rises_to, judged, impervious, given}
use Rattle.site.specs.Adding.{spent_at, kept, stored, settled, add_answer, added_to, added}
use Rattle.site.specs.Promises.{all_fit, NumberedExactly, FineExactly, FullExactly, UnnumberedExactly, FirstRefused, TriedInTurn, InMemory, SameSubAreas, BySubAreasAlone, AddGrantedExactly, AddTries, AddRefused, RefusedKeeps, GrantedHolds, OnlyThePlaceAtTheCount, AddsAgree, EmptyFine}
use Rattle.site.proofs.Judging.{never_granted, judged_has, has_judged}
use Rattle.site.proofs.Walking.{overfull, one_by_one}
use Rattle.site.proofs.Tests.{grow_crowded, grow_granted}
use Rattle.site.proofs.Numbering.{rises_are, are_rising, rises_more}
use Rattle.site.proofs.Refusing.{full_above, unnumbered_only, unnumbered_there, refused_first}
use Rattle.site.proofs.Adding.{Grants, grants, add_unfit, add_full, add_spent, add_grows, add_settles, add_answers, add_agrees}

-- the numbers given back tell the answer
pub given_granted : (x : Result Area Refusal) (a : ℕ) → given x ≡ (granted, a) → x ≡ Ok (record { 0 = a })
given_granted (Ok area) a e = ap (λ (n : ℕ). Ok (record { 0 = n })) (ap (λ (g : ℕ × ℕ). g.1) e)
given_granted (Err why) a e = absurd (refusal_not_granted why (ap (λ (g : ℕ × ℕ). g.0) e))

pub given_refused : (x : Result Area Refusal) → ((given x).0 ≡ granted → ⊥) → (why : Refusal) × (x ≡ Err why)
given_refused (Ok area) h = absurd (h refl)
given_refused (Err why) h = (why, refl)

pub given_some : (x : Result Area Refusal) → (given x).0 ≡ granted → (a : Area) × (x ≡ Ok a)
given_some (Ok area) h = (area, refl)
given_some (Err why) h = absurd (refusal_not_granted why h)

pub numbered_exactly : NumberedExactly
numbered_exactly s = (rises_are s.counter (numbers_of s), are_rising s.counter (numbers_of s))

pub fine_exactly : FineExactly
fine_exactly s a = (
  λ e. judged_has s (record { 0 = a }) (given_granted (judged s) a e),
  λ h. ap given (has_judged s (record { 0 = a }) h.0 h.1 h.2 h.3 h.4),
)

pub full_exactly : FullExactly
full_exactly s = (full_above s, λ h. ap (λ (x : Result Area Refusal). (given x).0) (sym (overfull s h)))

pub unnumbered_exactly : UnnumberedExactly
unnumbered_exactly s = (unnumbered_only s, λ h. unnumbered_there s h.0 h.1 h.2 h.3)

pub first_refused : FirstRefused
first_refused = refused_first

pub tried_in_turn : TriedInTurn
tried_in_turn = one_by_one

pub adds_agree : AddsAgree
adds_agree s p total e =
    let a = add_agrees s p (record { 0 = total }) (given_granted (judged s) total e) in
    (a, sym (add_answers s total p) ∙ ap (λ (x : Added). x.answer) a)

-- An answer worked out from the count, the counter and the total of a record that is judged fine is what the add gives back.
gives_back : (s : Site) (p : SubArea) (total : ℕ) {x : Result Area Refusal} → given (judged s) ≡ (granted, total)
    → x ≡ add_answer s.count s.counter total p → given (added s p).answer ≡ given x
gives_back s p total j e = ap given (sym (e ∙ (adds_agree s p total j).1))

pub add_granted_exactly : AddGrantedExactly
add_granted_exactly s p total a j = (only, there)
  where
    only : given (added s p).answer ≡ (granted, a)
        → (fits p ≡ true) × (s.count < most_parts) × (s.counter < spent_at) × (total + area_of p ≡ a) × (a ≤ most_area)
    only h =
        let g = grants s.count s.counter total p (record { 0 = a }) ((adds_agree s p total j).1 ∙ given_granted (added s p).answer a h) in
        let n : total + area_of p ≡ a = ap (λ (x : Area). x.0) g.new_total in
        let w = g.within in
        (g.fit, g.place, g.unspent, n, omega arith)

    there : (fits p ≡ true) × (s.count < most_parts) × (s.counter < spent_at) × (total + area_of p ≡ a) × (a ≤ most_area)
        → given (added s p).answer ≡ (granted, a)
    there h =
        let n = h.3 in
        let l = h.4 in
        let room = le-leb (total + area_of p) most_area (omega arith) in
        gives_back s p total j (add_grows s.count s.counter total p (sym h.0) refl h.1 h.2 (grow_granted total (area_of p) (sym room) refl))
        ∙ ap (λ (m : ℕ). (granted, m)) n

refused_record : (s : Site) (p : SubArea) (why : Refusal) → judged s ≡ Err why → (added s p).answer ≡ Err why
unfolding added
refused_record s p why e = simp e

pub add_refused : AddRefused
add_refused s p = (fine, own)
  where
    fine : (total : ℕ) → given (judged s) ≡ (granted, total) → AddTries s total p (given (added s p).answer)
    fine total j =
        record {
          unfit = λ f. gives_back s p total j (add_unfit s.count s.counter total p (sym f) refl);
          full = λ f h. gives_back s p total j (add_full s.count s.counter total p (sym f) refl (omega arith));
          spent = λ f h n. gives_back s p total j (add_spent s.count s.counter total p (sym f) refl h n);
          passed = λ f h n l.
              gives_back s p total j
              (add_grows s.count s.counter total p (sym f) refl h n (grow_crowded total (area_of p) (sym (lt-leb (total + area_of p) most_area l)) refl));
        }

    own : ((given (judged s)).0 ≡ granted → ⊥) → given (added s p).answer ≡ ((given (judged s)).0, 0)
    own h =
        let r = given_refused (judged s) h in
        ap given (refused_record s p r.0 r.1) ∙ ap (λ (x : Result Area Refusal). ((given x).0, 0)) (sym r.1)

pub empty_judged : judged empty_site ≡ Ok (record { 0 = 0 })
unfolding judged judged_from rises_to
empty_judged = refl

pub empty_fine : EmptyFine
empty_fine = ap given empty_judged

-- Fine records of the same sub-areas have the same total area.
same_total : (s t : Site) → SameSubAreas s t → judged s ≡ judged t
same_total s t r =
    let here = given_some (judged s) r.first in
    let there = given_some (judged t) r.second in
    let same = ap total_area r.parts in
    here.1
    ∙ ap (λ (n : ℕ). Ok (record { 0 = n })) (sym (judged_has s here.0 here.1).2 ∙ same ∙ (judged_has t there.0 there.1).2)
    ∙ sym there.1

pub by_sub_areas_alone : BySubAreasAlone
unfolding impervious
by_sub_areas_alone s t r = (same_total s t r, simp (same_total s t r, r.parts))

-- A refused answer comes with the site as it was and no number.
settled_refused : (s : Site) (p : SubArea) (x : Result Area Refusal) {why : Refusal} → (settled s p x).answer ≡ Err why → settled s p x ≡ kept s why
settled_refused s p (Ok a) h = absurd (never_granted (sym h))
settled_refused s p (Err r) h = λ i. record { answer = h i; site = s; number = 0 }

pub keeps : (s : Site) (p : SubArea) (why : Refusal) → (added s p).answer ≡ Err why → added s p ≡ kept s why
unfolding added
keeps s p why = told (judged s)
  where
    told : (x : Result Area Refusal)
        → (after_judging (kept s) (λ total. added_to s total p) x).answer ≡ Err why
        → after_judging (kept s) (λ total. added_to s total p) x ≡ kept s why
    told (Ok total) = rw (add_settles s total.0 p) (settled_refused s p (add_answer s.count s.counter total.0 p))
    told (Err r) = λ h i. record { answer = h i; site = s; number = 0 }

pub refused_keeps : RefusedKeeps
refused_keeps s p h =
    let r = given_refused (added s p).answer h in
    let k = keeps s p r.0 r.1 in
    (ap (λ (x : Added). x.site) k, ap (λ (x : Added). x.number) k)

-- A granted answer comes with the sub-area stored and its number.
settled_granted : (s : Site) (p : SubArea) (x : Result Area Refusal) {a : Area} → (settled s p x).answer ≡ Ok a → settled s p x ≡ settled s p (Ok a)
settled_granted s p (Ok b) h = λ i. record { answer = h i; site = stored s p; number = s.counter }
settled_granted s p (Err why) h = absurd (never_granted h)

pub stores : (s : Site) (p : SubArea) (a : Area) → (added s p).answer ≡ Ok a → added s p ≡ settled s p (Ok a)
unfolding added
stores s p a = told (judged s)
  where
    told : (x : Result Area Refusal)
        → (after_judging (kept s) (λ total. added_to s total p) x).answer ≡ Ok a
        → after_judging (kept s) (λ total. added_to s total p) x ≡ settled s p (Ok a)
    told (Ok total) = rw (add_settles s total.0 p) (settled_granted s p (add_answer s.count s.counter total.0 p))
    told (Err why) = λ h. absurd (never_granted h)

pub only_the_place_at_the_count : OnlyThePlaceAtTheCount
only_the_place_at_the_count s p h =
    let g = given_some (added s p).answer h in
    let e = ap (λ (x : Added). x.site) (stores s p g.0 g.1) in (
      ap (λ (t : Site). t.count) e,
      λ k n. (
        ap (λ (t : Site). get_or t.parts k blank) e ∙ get_or-set_other s.parts s.count k p blank n,
        ap (λ (t : Site). get_or t.numbers k 0) e ∙ get_or-set_other s.numbers s.count k s.counter 0 n,
      ),
    )

-- One sub-area more that fits leaves all fitting.
all_fit_more : (ps : List SubArea) (p : SubArea) → all_fit ps ≡ true → fits p ≡ true → all_fit (ps ++ (p ∷ [])) ≡ true
unfolding all_fit
all_fit_more [] p f g = simp g
all_fit_more (q ∷ ps) p f g =
    let b = (and-eq-true_iff (fits q) (all_fit ps)).0 f in
    simp b.0 (all_fit_more ps p b.1 g)

-- A site with a sub-area stored holds it after the others,
pub parts_stored : (s : Site) (p : SubArea) → InMemory s → s.count < most_parts → parts_of (stored s p) ≡ parts_of s ++ (p ∷ [])
parts_stored s p z h = let l = z.parts in rw add-one (take-suc-set s.parts s.count p (omega arith))

-- and its number after the others.
pub numbers_stored : (s : Site) (p : SubArea) → InMemory s → s.count < most_parts → numbers_of (stored s p) ≡ numbers_of s ++ (s.counter ∷ [])
numbers_stored s p z h = let l = z.numbers in rw add-one (take-suc-set s.numbers s.count s.counter (omega arith))

-- A site that is judged fine and has room is judged fine when a sub-area is stored.
pub stored_fine : (s : Site) (p : SubArea) (total : Area) → InMemory s → judged s ≡ Ok total → fits p ≡ true → s.count < most_parts
    → total.0 + area_of p ≤ most_area → judged (stored s p) ≡ Ok (record { 0 = total.0 + area_of p })
stored_fine s p total z j f h l =
    let e = parts_stored s p z h in
    let k = judged_has s total j in
    has_judged (stored s p) (record { 0 = total.0 + area_of p })
    (omega arith)
    (rw e (all_fit_more (parts_of s) p k.1 f))
    (rw e (sum_more area_of (parts_of s) p ∙ ap (λ (n : ℕ). n + area_of p) k.2))
    l
    (rw (numbers_stored s p z h) (rises_more s.counter 0 (numbers_of s) k.4))

-- what a granted add tells of its record: it is judged fine with a total area from which the add is granted
pub from_fine : (s : Site) (p : SubArea) (a : Area) → (added s p).answer ≡ Ok a
    → (total : Area) × (judged s ≡ Ok total) × Grants s.count s.counter total.0 p a
unfolding added
from_fine s p a = told (judged s) refl
  where
    told : (x : Result Area Refusal) → judged s ≡ x
        → (after_judging (kept s) (λ total. added_to s total p) x).answer ≡ Ok a
        → (total : Area) × (judged s ≡ Ok total) × Grants s.count s.counter total.0 p a
    told (Ok total) j e = (total, j, grants s.count s.counter total.0 p a (sym (add_answers s total.0 p) ∙ e))
    told (Err why) j e = absurd (never_granted e)

pub granted_holds : GrantedHolds
granted_holds s p a z e =
    let x = given_granted (added s p).answer a e in
    let f = from_fine s p (record { 0 = a }) x in
    let g = f.2 in
    rw (stores s p (record { 0 = a }) x) (
      parts_stored s p z g.place,
      ap given (stored_fine s p f.0 z f.1 g.fit g.place g.within ∙ ap Ok g.new_total),
      refl,
      numbers_stored s p z g.place,
      refl,
    )
