-- Laws of adding a sub-area: each answer by the tests that lead to it.
-- Assumes nothing.
use Rattle.std.specs.Prelude.{Result, Ok, Err}
use Prim.Native.Nat.{ℕ, ◌+◌, ◌≤◌, ◌<◌}
use mathlib.Core.Bool.{Bool, true, false, not}
use mathlib.Core.Path.{◌≡◌, refl, sym, ◌∙◌, ap}
use mathlib.Core.List.{[], ◌∷◌}
use lib.Dec.{ltb}
use lib.ListN.{length-set}
use borrow.Author.Tests.{le-ltb, lt-ltb, ltb-true, leb-true, not-true, not-false}
use Rattle.laws.specs.Turn.{in_turn}
use Rattle.refusal.specs.declared.Refusal.{Refusal}
use Rattle.refusal.specs.declared.Refusal.TheVariants.{UnfitSubArea, TotalAreaPassed, SiteFull, NumbersSpent}
use Rattle.units.specs.declared.Area.{Area}
use Rattle.units.specs.Limits.{most_area}
use Rattle.site.specs.declared.SubArea.{SubArea}
use Rattle.site.specs.declared.Site.{Site}
use Rattle.site.specs.Parts.{area_of, most_parts}
use Rattle.site.specs.Judging.{fits, has_room, judged, after_judging}
use Rattle.site.specs.Adding.{spent_at, Added, with_number, placed, kept, settled, stored, add_answer, added_to, added}
use Rattle.site.specs.Promises.{InMemory}
use Rattle.site.specs.Inner.{grown_by}
use Rattle.site.proofs.Judging.{never_granted, stops}

module _ (count counter total : ℕ) (p : SubArea) {b : Bool} (e : b ≡ fits p) where
  pub add_unfit : not b ≡ true → Err UnfitSubArea ≡ add_answer count counter total p
  unfolding add_answer
  add_unfit f = simp (sym e ∙ not-true _ f)

  pub add_full : not b ≡ false → most_parts ≤ count → Err SiteFull ≡ add_answer count counter total p
  unfolding add_answer
  add_full f h = simp (sym e ∙ not-false _ f, le-ltb _ _ h)

  pub add_spent : not b ≡ false → count < most_parts → spent_at ≤ counter → Err NumbersSpent ≡ add_answer count counter total p
  unfolding add_answer
  add_spent f h n = simp (sym e ∙ not-false _ f, lt-ltb _ _ h, le-ltb _ _ n)

  pub add_grows : not b ≡ false → count < most_parts → counter < spent_at → {x : Result Area Refusal} → x ≡ grown_by total (area_of p)
      → x ≡ add_answer count counter total p
  unfolding add_answer
  add_grows f h n g = simp (sym e ∙ not-false _ f, lt-ltb _ _ h, lt-ltb _ _ n) g

-- What a granted answer tells: the sub-area fits, there is a place and a number for it, and the new total is at most the largest area.
pub record Grants (count counter total : ℕ) (p : SubArea) (a : Area) : Type 0 where
  pub fit : fits p ≡ true
  pub place : count < most_parts
  pub unspent : counter < spent_at
  pub within : total + area_of p ≤ most_area
  pub new_total : record { 0 = total + area_of p } ≡ a

pub grants : (count counter total : ℕ) (p : SubArea) (a : Area) → add_answer count counter total p ≡ Ok a → Grants count counter total p a
unfolding add_answer
grants count counter total p a = told (fits p) (ltb count most_parts) (ltb counter spent_at) (has_room total (area_of p)) refl refl refl refl
  where
    told : (b d u e : Bool) → fits p ≡ b → ltb count most_parts ≡ d → ltb counter spent_at ≡ u → has_room total (area_of p) ≡ e
        → in_turn Err (Ok (record { 0 = total + area_of p })) ((b, UnfitSubArea) ∷ (d, SiteFull) ∷ (u, NumbersSpent) ∷ (e, TotalAreaPassed) ∷ []) ≡ Ok a
        → Grants count counter total p a
    told true true true true f g n h x =
        record {
          fit = f;
          place = ltb-true count most_parts g;
          unspent = ltb-true counter spent_at n;
          within = leb-true (total + area_of p) most_area h;
          new_total = ap (after_judging (λ why. a) (λ n. record { 0 = n })) x;
        }
    told true true true false f g n h x = absurd (never_granted x)
    told true true false e f g n h x = absurd (never_granted x)
    told true false u e f g n h x = absurd (never_granted x)
    told false d u e f g n h x = absurd (never_granted x)

-- Where an add is granted there is a place for the sub-area at the count, and a number for it.
module _ (count counter total : ℕ) (p : SubArea) {x : Result Area Refusal} {a : Area} (e : x ≡ add_answer count counter total p) (f : x ≡ Ok a) where
  pub granted_place : count < most_parts
  granted_place = (grants count counter total p a (sym e ∙ f)).place

  pub granted_number : counter < spent_at
  granted_number = (grants count counter total p a (sym e ∙ f)).unspent

-- An add gives its answer and what goes with it.
pub add_settles : (s : Site) (total : ℕ) (p : SubArea) → added_to s total p ≡ settled s p (add_answer s.count s.counter total p)
unfolding added_to
add_settles s total p = refl

pub add_answers : (s : Site) (total : ℕ) (p : SubArea) → (added_to s total p).answer ≡ add_answer s.count s.counter total p
add_answers s total p = rw (add_settles s total p) (told (add_answer s.count s.counter total p))
  where
    told : (x : Result Area Refusal) → (settled s p x).answer ≡ x
    told (Ok a) = refl
    told (Err why) = refl

-- Whoever has the answer and stores the sub-area where it is granted has what the add gives.
module _ (s : Site) (total : ℕ) (p : SubArea) {x : Result Area Refusal} (e : x ≡ add_answer s.count s.counter total p) where
  pub add_stores : {a : Area} → x ≡ Ok a → record { answer = x; site = stored s p; number = s.counter } ≡ added_to s total p
  add_stores f = rw (add_settles s total p, ← e, f) refl

  pub add_keeps : {why : Refusal} → x ≡ Err why → record { answer = x; site = s; number = 0 } ≡ added_to s total p
  add_keeps f = rw (add_settles s total p, ← e, f) refl

-- Where a record is judged fine with a total area, the add that is told this total gives what the public add gives.
pub add_agrees : (s : Site) (p : SubArea) (total : Area) → judged s ≡ Ok total → added_to s total.0 p ≡ added s p
unfolding added
add_agrees s p total e = simp e

-- A site with a sub-area stored has its 32 places.
pub memory_stored : (s : Site) (p : SubArea) → InMemory s → InMemory (stored s p)
memory_stored s p m =
    record {
      parts = length-set s.parts s.count p ∙ m.parts;
      numbers = length-set s.numbers s.count s.counter ∙ m.numbers;
    }

-- What an add answers, and the site that it leaves: where the answer grants, and where it refuses.
module _ (s : Site) (total : ℕ) (p : SubArea) {x : Result Area Refusal} (e : x ≡ add_answer s.count s.counter total p) where
  pub stores_site : {a : Area} → x ≡ Ok a → stored s p ≡ (added_to s total p).site
  stores_site f = ap (λ (a : Added). a.site) (add_stores s total p e f)

  pub stores_answer : {a : Area} → x ≡ Ok a → Ok (record { total = a; number = s.counter }) ≡ placed (added_to s total p)
  stores_answer f = ap (with_number s.counter) (sym f) ∙ ap placed (add_stores s total p e f)

  pub keeps_site : {why : Refusal} → x ≡ Err why → s ≡ (added_to s total p).site
  keeps_site f = ap (λ (a : Added). a.site) (add_keeps s total p e f)

  pub keeps_answer : {why : Refusal} → x ≡ Err why → Err why ≡ placed (added_to s total p)
  keeps_answer f = ap (with_number 0) (sym f) ∙ ap placed (add_keeps s total p e f)

-- An add to a record that is refused.
pub add_stops : (s : Site) (p : SubArea) {found : Result Area Refusal} {why : Refusal} → found ≡ judged s → found ≡ Err why → kept s why ≡ added s p
unfolding added
add_stops s p e f = stops (kept s) (λ total. added_to s total p) s e f
