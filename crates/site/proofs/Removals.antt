-- The promises of a removal, proved.
-- Assumes nothing.
use Rattle.std.specs.Prelude.{Result, Ok, Err}
use Prim.Native.Nat.{ℕ, ◌+◌, ◌-◌, ◌≤◌, ◌<◌}
use mathlib.Core.Bool.{Bool, true, false, not, and-eq-true_iff}
use mathlib.Core.List.{List, [], ◌∷◌, ◌++◌}
use mathlib.Core.Logic.{⊎_elim}
use mathlib.Core.Path.{◌≡◌, refl, sym, ◌∙◌, ap}
use native.Mathlib.Numerals.{add-one}
use native.Mathlib.Omega.{arith}
use lib.ListN.{length, take, drop, get_or}
use lib.Seq.{split_at, length-take-le}
use borrow.Author.Tests.{lt-ltb, le-ltb, ltb-true, eqb-true, eq-eqb, not-false}
use Rattle.laws.specs.Turn.{in_turn}
use Rattle.laws.specs.ClosedUp.{closed_up}
use Rattle.laws.proofs.Order.{lt_or_le}
use Rattle.laws.proofs.First.{first_fails, fails_so_below}
use Rattle.laws.proofs.ClosedUp.{take_closed, get_d_closed, sum_without}
use Rattle.refusal.specs.declared.Refusal.{Refusal}
use Rattle.refusal.specs.declared.Refusal.TheVariants.{NumberNotHeld}
use Rattle.refusal.specs.Refusal.{number_of, granted}
use Rattle.units.specs.declared.Area.{Area}
use Rattle.site.specs.declared.SubArea.{SubArea}
use Rattle.site.specs.declared.Site.{Site}
use Rattle.site.specs.Removing.{Removed}
use Rattle.site.specs.Parts.{most_parts, parts_of, numbers_of, area_of, total_area, blank}
use Rattle.site.specs.Judging.{fits, after_judging, judged, given}
use Rattle.site.specs.Removing.{place_of, holds, without, untouched, taken_out, removed_from, removed}
use Rattle.site.specs.Promises.{all_fit, RemovalKeeps, LeftWithout, RemovalHolds, HoldsNumber, RemovedOnlyHeld, RemovalRefused}
use Rattle.site.specs.Inner.{Told}
use Rattle.site.proofs.Judging.{never_granted, judged_has, has_judged}
use Rattle.site.proofs.Numbering.{rises_less}
use Rattle.site.proofs.Removing.{another, numbers_counted, parts_counted, removal_agrees}
use Rattle.site.proofs.Promises.{given_granted, given_refused, given_some}

-- A removal tries whether the number is held; where it is, its sub-area is taken out.
abbrev tried : Site → ℕ → ℕ → Bool → Removed
tried s total i held = in_turn (untouched s) (taken_out s total i) ((held, NumberNotHeld) ∷ [])

module _ (s : Site) (n : ℕ) where
  -- the place of the number
  abbrev at : ℕ
  at = place_of n (numbers_of s)

  pub keeps : (why : Refusal) → (removed s n).answer ≡ Err why → removed s n ≡ untouched s why
  unfolding removed removed_from
  keeps why = told (judged s)
    where
      settle : (total : ℕ) (b : Bool) → (tried s total at b).answer ≡ Err why → tried s total at b ≡ untouched s why
      settle total true h = absurd (never_granted (sym h))
      settle total false h = λ i. record { answer = h i; site = s }

      told : (x : Result Area Refusal)
          → (after_judging (untouched s) (λ total. tried s total at (holds n (numbers_of s))) x).answer ≡ Err why
          → after_judging (untouched s) (λ total. tried s total at (holds n (numbers_of s))) x ≡ untouched s why
      told (Ok total) = settle total.0 (holds n (numbers_of s))
      told (Err r) = λ h i. record { answer = h i; site = s }

  -- what a granted removal tells: its record is judged fine, the number is held, and its sub-area is taken out
  pub from_held : (a : Area) → (removed s n).answer ≡ Ok a
      → (total : Area) × (judged s ≡ Ok total) × (at < length (numbers_of s)) × (removed s n ≡ taken_out s total.0 at)
  unfolding removed removed_from
  from_held a = told (judged s) refl
    where
      settle : (total : ℕ) (b : Bool) → holds n (numbers_of s) ≡ b → (tried s total at b).answer ≡ Ok a
          → (at < length (numbers_of s)) × (tried s total at b ≡ taken_out s total at)
      settle total true f h = (ltb-true at (length (numbers_of s)) f, refl)
      settle total false f h = absurd (never_granted h)

      told : (x : Result Area Refusal) → judged s ≡ x
          → (after_judging (untouched s) (λ total. tried s total at (holds n (numbers_of s))) x).answer ≡ Ok a
          → (total : Area) × (judged s ≡ Ok total) × (at < length (numbers_of s)) × (after_judging (untouched s) (λ total. tried s total at (holds n (numbers_of s))) x ≡ taken_out s total.0 at)
      told (Ok total) j h = let r = settle total.0 (holds n (numbers_of s)) refl h in (total, j, r.0, r.1)
      told (Err why) j h = absurd (never_granted h)

  -- The number stands at its place.
  pub stands : at < length (numbers_of s) → get_or (numbers_of s) at 0 ≡ n
  stands h = eqb-true _ _ (not-false _ (first_fails (another n (numbers_of s)) (length (numbers_of s)) h))

  -- A number that stands at some place has a place.
  has_place : HoldsNumber s n → at < length (numbers_of s)
  has_place h =
      let l = fails_so_below (another n (numbers_of s)) (length (numbers_of s)) h.0 (ap not (eq-eqb _ n h.2)) in
      let m = h.1 in
      omega arith

-- A number that stands at no place is refused,
sent_back : (s : Site) (total n : ℕ) → length (numbers_of s) ≤ place_of n (numbers_of s) → removed_from s total n ≡ untouched s NumberNotHeld
unfolding removed_from
sent_back s total n h = rw (le-ltb (place_of n (numbers_of s)) (length (numbers_of s)) h)

-- another is not,
let_through : (s : Site) (total n : ℕ) → place_of n (numbers_of s) < length (numbers_of s) → (given (removed_from s total n).answer).0 ≡ granted
unfolding removed_from
let_through s total n h = rw (lt-ltb (place_of n (numbers_of s)) (length (numbers_of s)) h)

-- and a refused record gives its own number.
refused_record : (s : Site) (n : ℕ) (why : Refusal) → judged s ≡ Err why → (removed s n).answer ≡ Err why
unfolding removed
refused_record s n why e = simp e

pub removal_keeps : RemovalKeeps
removal_keeps s n h =
    let r = given_refused (removed s n).answer h in
    ap (λ (x : Removed). x.site) (keeps s n r.0 r.1)

-- Sub-areas that all fit do so without one of them.
all_fit_less : (ps : List SubArea) (p : SubArea) (qs : List SubArea) → all_fit (ps ++ (p ∷ qs)) ≡ true → all_fit (ps ++ qs) ≡ true
unfolding all_fit
all_fit_less [] p qs f = ((and-eq-true_iff (fits p) (all_fit qs)).0 f).1
all_fit_less (q ∷ ps) p qs f =
    let b = (and-eq-true_iff (fits q) (all_fit (ps ++ (p ∷ qs)))).0 f in
    simp b.0 (all_fit_less ps p qs b.1)

-- A place of a record that is judged fine, at which a number stands.
module _ (s : Site) (total : Area) (t : Told s total) (n i : ℕ) (h : i < length (numbers_of s)) (e : get_or (numbers_of s) i 0 ≡ n) where
  below : i < s.count
  below = let c = numbers_counted s total t in omega arith

  part_there : i < length (parts_of s)
  part_there = let c = parts_counted s total t in let b = below in omega arith

  -- the first places, up to the count
  last : s.count - 1 + 1 ≡ s.count
  last = let b = below in omega arith

  module _ {A : Type 0} (xs : List A) (l : length xs ≡ most_parts) where
    within : s.count - 1 + 1 ≤ length xs
    within = let c = (judged_has s total t.fine).0 in let b = below in omega arith

    closed : take (s.count - 1) (closed_up i (s.count - 1) xs) ≡ take i (take s.count xs) ++ drop (i + 1) (take s.count xs)
    closed =
        let b = below in
        take_closed xs i (s.count - 1) (omega arith) within
        ∙ ap (λ (k : ℕ). take i (take k xs) ++ drop (i + 1) (take k xs)) last

    past_closed : (k : ℕ) (z : A) → s.count - 1 ≤ k → get_or (closed_up i (s.count - 1) xs) k z ≡ get_or xs k z
    past_closed k z m = let b = below in get_d_closed xs i (s.count - 1) (omega arith) within k z m

  -- The others are left, and their numbers.
  pub parts_without : parts_of (without s i) ≡ take i (parts_of s) ++ drop (i + 1) (parts_of s)
  parts_without = closed s.parts t.memory.parts

  pub numbers_without : numbers_of (without s i) ≡ take i (numbers_of s) ++ drop (i + 1) (numbers_of s)
  numbers_without = closed s.numbers t.memory.numbers

  taken_out_lem : LeftWithout s n (without s i)
  taken_out_lem =
      let b = below in
      let here = part_there in
      record {
        before = take i (parts_of s);
        taken = get_or (parts_of s) i blank;
        after = drop (i + 1) (parts_of s);
        parts = rw add-one (split_at (parts_of s) i blank part_there);
        left = parts_without;
        lower = take i (numbers_of s);
        higher = drop (i + 1) (numbers_of s);
        numbers = rw (add-one, ← e) (split_at (numbers_of s) i 0 h);
        others = numbers_without;
        abreast = length-take-le i (numbers_of s) (omega arith) ∙ sym (length-take-le i (parts_of s) (omega arith));
        count = last;
        counter = refl;
        past = λ k m. (past_closed s.parts t.memory.parts k blank m, past_closed s.numbers t.memory.numbers k 0 m);
      }

  -- What is left has the total area without the area that is taken,
  pub left_area : total_area (parts_of (without s i)) + area_of (get_or (parts_of s) i blank) ≡ total.0
  left_area =
      ap (λ (ps : List SubArea). total_area ps + area_of (get_or (parts_of s) i blank)) parts_without
      ∙ sum_without (parts_of s) i area_of blank part_there
      ∙ (judged_has s total t.fine).2

  -- and the site without the sub-area is judged fine with it.
  pub without_fine : judged (without s i) ≡ Ok (record { 0 = total.0 - area_of (get_or (parts_of s) i blank) })
  without_fine =
      let o = taken_out_lem in
      let k = judged_has s total t.fine in
      let c = k.0 in
      let most = k.3 in
      let area = left_area in
      has_judged (without s i) (record { 0 = total.0 - area_of (get_or (parts_of s) i blank) })
      (omega arith)
      (rw o.left (all_fit_less o.before o.taken o.after (rw o.parts at k.1)))
      (omega arith)
      (omega arith)
      (rw o.others (rises_less s.counter 0 n o.lower o.higher (rw o.numbers at k.4)))

pub removal_holds : RemovalHolds
removal_holds s n a z e =
    let x = given_granted (removed s n).answer a e in
    let f = from_held s n (record { 0 = a }) x in
    let t : Told s f.0 = record { memory = z; fine = f.1 } in
    let h = f.2 in
    let out = f.3 in
    let i = place_of n (numbers_of s) in
    rw out (taken_out_lem s f.0 t n i h (stands s n h), ap given (without_fine s f.0 t n i h (stands s n h) ∙ sym (ap (λ (r : Removed). r.answer) out) ∙ x))

pub removed_only_held : RemovedOnlyHeld
removed_only_held s n j = (only, there)
  where
    only : (given (removed s n).answer).0 ≡ granted → HoldsNumber s n
    only h =
        let g = given_some (removed s n).answer h in
        let l = (from_held s n g.0 g.1).2 in
        (place_of n (numbers_of s), l, stands s n l)

    there : HoldsNumber s n → (given (removed s n).answer).0 ≡ granted
    there h =
        let g = given_some (judged s) j in
        ap (λ (r : Removed). (given r.answer).0) (sym (removal_agrees s n g.0 g.1)) ∙ let_through s g.0.0 n (has_place s n h)

pub removal_refused : RemovalRefused
removal_refused s n = (unheld, own)
  where
    unheld : (given (judged s)).0 ≡ granted → (HoldsNumber s n → ⊥) → given (removed s n).answer ≡ (number_of NumberNotHeld, 0)
    unheld j none =
        let g = given_some (judged s) j in
        ⊎_elim
        (λ (h : place_of n (numbers_of s) < length (numbers_of s)). absurd (none (place_of n (numbers_of s), h, stands s n h)))
        (λ (h : length (numbers_of s) ≤ place_of n (numbers_of s)). ap (λ (r : Removed). given r.answer) (sym (removal_agrees s n g.0 g.1)) ∙ ap (λ (r : Removed). given r.answer) (sent_back s g.0.0 n h))
        (lt_or_le (place_of n (numbers_of s)) (length (numbers_of s)))

    own : ((given (judged s)).0 ≡ granted → ⊥) → given (removed s n).answer ≡ ((given (judged s)).0, 0)
    own h = let r = given_refused (judged s) h in ap given (refused_record s n r.0 r.1) ∙ ap (λ (x : Result Area Refusal). ((given x).0, 0)) (sym r.1)
