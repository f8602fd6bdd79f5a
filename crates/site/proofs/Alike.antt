-- What stands in a record past its count changes nothing: two records that agree up to the count and in the counter are answered
-- alike.
-- Assumes nothing.
use Rattle.std.specs.Prelude.{Result, Ok, Err}
use Rattle.refusal.specs.declared.Refusal.{Refusal}
use Prim.Native.Nat.{ℕ, ◌+◌, ◌-◌, ◌<◌}
use mathlib.Core.Bool.{Bool, true, false}
use mathlib.Core.List.{List, [], ◌∷◌, ◌++◌}
use mathlib.Core.Path.{◌≡◌, refl, sym, ◌∙◌, ap}
use native.Mathlib.Omega.{arith}
use lib.Dec.{leb}
use lib.ListN.{take, drop, get_or}
use Rattle.laws.specs.Turn.{in_turn}
use Rattle.refusal.specs.declared.Refusal.TheVariants.{SiteFull, NumberNotHeld}
use Rattle.units.specs.declared.Area.{Area}
use Rattle.site.specs.declared.SubArea.{SubArea}
use Rattle.site.specs.declared.Site.{Site}
use Rattle.site.specs.Parts.{most_parts, numbers_of, area_of, blank}
use Rattle.site.specs.Judging.{judged_from, after_judging, rises_to, with_numbers, judged, impervious}
use Rattle.site.specs.Adding.{kept, stored, settled, add_answer, added_to, added}
use Rattle.site.specs.Removing.{place_of, holds, untouched, taken_out, removed_from, removed}
use Rattle.site.specs.Promises.{InMemory, Alike, PastCountUnread}
use Rattle.site.specs.Inner.{Told}
use Rattle.site.proofs.Adding.{grants, add_settles}
use Rattle.site.proofs.Promises.{parts_stored, numbers_stored}
use Rattle.site.proofs.Removals.{stands, from_held, parts_without, numbers_without, keeps}

module _ (s t : Site) (r : Alike s t) where
  judged_alike : judged s ≡ judged t
  unfolding judged
  judged_alike = ap_all r.count r.parts r.numbers r.counter
    where
      ap_all : {n m c d : ℕ} {ps qs : List SubArea} {ks ls : List ℕ} → n ≡ m → ps ≡ qs → ks ≡ ls → c ≡ d
          → in_turn Err (after_judging Err (with_numbers (rises_to c 0 ks)) (judged_from 0 ps)) ((leb n most_parts, SiteFull) ∷ [])
          ≡ in_turn Err (after_judging Err (with_numbers (rises_to d 0 ls)) (judged_from 0 qs)) ((leb m most_parts, SiteFull) ∷ [])
      ap_all e f g h = simp (e, f, g, h)

  impervious_alike : impervious s ≡ impervious t
  unfolding impervious
  impervious_alike = simp (judged_alike, r.parts)

  module _ (p : SubArea) (total : ℕ) where
    answer_alike : add_answer s.count s.counter total p ≡ add_answer t.count t.counter total p
    answer_alike = λ i. add_answer (r.count i) (r.counter i) total p

    settled_alike : (x : Result Area Refusal) → ((settled s p x).answer ≡ (settled t p x).answer) × ((settled s p x).number ≡ (settled t p x).number)
    settled_alike (Ok a) = (refl, r.counter)
    settled_alike (Err why) = (refl, refl)

    added_to_answer : ((added_to s total p).answer ≡ (added_to t total p).answer) × ((added_to s total p).number ≡ (added_to t total p).number)
    added_to_answer =
        rw (add_settles s total p, add_settles t total p, ← answer_alike) (settled_alike (add_answer s.count s.counter total p))

    stored_alike : InMemory s → InMemory t → s.count < most_parts → Alike (stored s p) (stored t p)
    stored_alike y z h =
        let c = r.count in
        let g : t.count < most_parts = omega arith in
        record {
          count = ap (λ (n : ℕ). n + 1) r.count;
          parts = parts_stored s p y h ∙ ap (λ (ps : List SubArea). ps ++ (p ∷ [])) r.parts ∙ sym (parts_stored t p z g);
          numbers = numbers_stored s p y h ∙ (λ i. r.numbers i ++ (r.counter i ∷ [])) ∙ sym (numbers_stored t p z g);
          counter = ap (λ (n : ℕ). n + 1) r.counter;
        }

    added_to_site : InMemory s → InMemory t → Alike (added_to s total p).site (added_to t total p).site
    added_to_site y z =
        rw (add_settles s total p, add_settles t total p, ← answer_alike) (told (add_answer s.count s.counter total p) refl)
      where
        told : (x : Result Area Refusal) → add_answer s.count s.counter total p ≡ x → Alike (settled s p x).site (settled t p x).site
        told (Ok a) e = stored_alike y z (grants s.count s.counter total p a e).place
        told (Err why) e = r

  module _ (p : SubArea) where
    added_answer : ((added s p).answer ≡ (added t p).answer) × ((added s p).number ≡ (added t p).number)
    unfolding added
    added_answer = rw (← judged_alike) (told (judged s))
      where
        told : (x : Result Area Refusal)
            → ((after_judging (kept s) (λ total. added_to s total p) x).answer ≡ (after_judging (kept t) (λ total. added_to t total p) x).answer)
            × ((after_judging (kept s) (λ total. added_to s total p) x).number ≡ (after_judging (kept t) (λ total. added_to t total p) x).number)
        told (Ok total) = added_to_answer p total.0
        told (Err why) = (refl, refl)

    added_site : InMemory s → InMemory t → Alike (added s p).site (added t p).site
    unfolding added
    added_site y z = rw (← judged_alike) (told (judged s))
      where
        told : (x : Result Area Refusal)
            → Alike (after_judging (kept s) (λ total. added_to s total p) x).site (after_judging (kept t) (λ total. added_to t total p) x).site
        told (Ok total) = added_to_site p total.0 y z
        told (Err why) = r

  module _ (n : ℕ) where
    removed_from_answer : (total : ℕ) → (removed_from s total n).answer ≡ (removed_from t total n).answer
    unfolding removed_from
    removed_from_answer total = rw r.numbers (told (holds n (numbers_of t)))
      where
        told : (b : Bool)
            → (in_turn (untouched s) (taken_out s total (place_of n (numbers_of t))) ((b, NumberNotHeld) ∷ [])).answer
            ≡ (in_turn (untouched t) (taken_out t total (place_of n (numbers_of t))) ((b, NumberNotHeld) ∷ [])).answer
        told true = λ i. Ok (record { 0 = total - area_of (get_or (r.parts i) (place_of n (numbers_of t)) blank) })
        told false = refl

    removed_answer_lem : (removed s n).answer ≡ (removed t n).answer
    unfolding removed
    removed_answer_lem = rw (← judged_alike) (told (judged s))
      where
        told : (x : Result Area Refusal)
            → (after_judging (untouched s) (λ total. removed_from s total n) x).answer ≡ (after_judging (untouched t) (λ total. removed_from t total n) x).answer
        told (Ok total) = removed_from_answer total.0
        told (Err why) = refl

    -- both have the number at the same place
    without_alike : (a : Area) → InMemory s → InMemory t → (removed s n).answer ≡ Ok a → (removed t n).answer ≡ Ok a
        → Alike (removed s n).site (removed t n).site
    without_alike a y z e f =
        let here = from_held s n a e in
        let there = from_held t n a f in
        let i = place_of n (numbers_of s) in
        let k = place_of n (numbers_of t) in
        let same : i ≡ k = ap (place_of n) r.numbers in
        let u : Told s here.0 = record { memory = y; fine = here.1 } in
        let v : Told t there.0 = record { memory = z; fine = there.1 } in
        rw (here.3, there.3)
        (record {
          count = ap (λ (m : ℕ). m - 1) r.count;
          parts =
              parts_without s here.0 u n i here.2 (stands s n here.2)
              ∙ (λ j. take (same j) (r.parts j) ++ drop (same j + 1) (r.parts j))
              ∙ sym (parts_without t there.0 v n k there.2 (stands t n there.2));
          numbers =
              numbers_without s here.0 u n i here.2 (stands s n here.2)
              ∙ (λ j. take (same j) (r.numbers j) ++ drop (same j + 1) (r.numbers j))
              ∙ sym (numbers_without t there.0 v n k there.2 (stands t n there.2));
          counter = r.counter;
        })

    removed_site : InMemory s → InMemory t → Alike (removed s n).site (removed t n).site
    removed_site y z = told (removed s n).answer refl
      where
        told : (x : Result Area Refusal) → (removed s n).answer ≡ x → Alike (removed s n).site (removed t n).site
        told (Ok a) e = without_alike a y z e (sym removed_answer_lem ∙ e)
        told (Err why) e = rw (keeps s n why e, keeps t n why (sym removed_answer_lem ∙ e)) r

pub past_count_unread : PastCountUnread
past_count_unread s t r =
    (judged_alike s t r, impervious_alike s t r, added_answer s t r, added_site s t r, removed_answer_lem s t r, removed_site s t r)
