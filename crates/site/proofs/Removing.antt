-- Laws of removing a sub-area: the place of its number, and the loop that closes the gap.
-- Assumes nothing.
use Rattle.std.specs.Prelude.{Ok, Err}
use Prim.Native.Nat.{ℕ, ◌-◌, ◌≤◌, ◌<◌}
use mathlib.Core.Bool.{Bool, true, false, not, cond}
use mathlib.Core.List.{List}
use mathlib.Core.Path.{◌≡◌, refl, sym, ◌∙◌, ap}
use native.Mathlib.Omega.{arith}
use lib.Dec.{eqb, ltb}
use lib.ListN.{length, get_or}
use lib.Seq.{get_or-take, length-take-le}
use borrow.Author.Tests.{lt-ltb, le-ltb, ltb-false}
use Rattle.laws.proofs.ClosedUp.{sum_without}
use Rattle.laws.proofs.First.{first_is}
use Rattle.std.specs.Bool.{◌==◌}
use Rattle.std.specs.List.{position, position_or_len}
use Rattle.std.proofs.Common.{Option, Some, None, Result, Ok, Err}
use Rattle.std.proofs.lemmas.List.Quantifiers.{position-Some}
use Rattle.std.proofs.lemmas.List.Sums.{fails_before_first}
use Rattle.refusal.specs.declared.Refusal.{Refusal}
use Rattle.refusal.specs.declared.Refusal.TheVariants.{NumberNotHeld}
use Rattle.units.specs.declared.Area.{Area}
use Rattle.site.specs.declared.Site.{Site}
use Rattle.site.specs.Parts.{most_parts, parts_of, numbers_of, area_of, blank}
use Rattle.site.specs.Judging.{judged}
use Rattle.site.specs.Removing.{Removed, place_of, without, untouched, taken_out, removed_from, removed}
use Rattle.site.specs.Promises.{InMemory}
use Rattle.site.specs.Inner.{Told}
use Rattle.site.proofs.Judging.{judged_has, stops}

-- another number stands at a place
abbrev pub another : ℕ → List ℕ → ℕ → Bool
another n ks i = not (eqb (get_or ks i 0) n)

-- The first place at which a number stands, as the library looks for it,
pub place_found : (n : ℕ) (ks : List ℕ) (i : ℕ) → position (λ k. k == n) ks ≡ Some i → (i ≡ place_of n ks) × (i < length ks)
place_found n ks i e =
    let f = position-Some (λ k. k == n) ks i 0 e in
    (first_is (another n ks) (length ks) i (omega arith) (λ k h. ap not (f.2 k h)) (λ h. ap not f.1), f.0)

-- and where it finds none, the number stands at no place.
pub place_missing : (n : ℕ) (ks : List ℕ) → position (λ k. k == n) ks ≡ None → place_of n ks ≡ length ks
place_missing n ks e = sym (first_is (another n ks) (length ks) (length ks) (omega arith) before (λ h. absurd (omega arith)))
  where
    past : (j : ℕ) (b : Bool) → ltb j (length ks) ≡ b → cond b (Some j) None ≡ None → length ks ≤ j
    past j true f g = absurd (cc)
    past j false f g = ltb-false j (length ks) f

    before : (k : ℕ) → k < length ks → another n ks k ≡ true
    before k h =
        let l = past (position_or_len (λ j. j == n) ks) (ltb (position_or_len (λ j. j == n) ks) (length ks)) refl e in
        ap not (fails_before_first (λ j. j == n) ks k 0 (omega arith))

-- A record in memory that is judged fine with a total area, and a number to remove.
module _ (s : Site) (total : Area) (j : Told s total) where
  pub count_within : s.count ≤ most_parts
  count_within = (judged_has s total j.fine).0

  pub numbers_there : s.count ≤ length s.numbers
  numbers_there = let l = count_within in let n = j.memory.numbers in omega arith

  pub numbers_counted : s.count ≡ length (numbers_of s)
  numbers_counted = sym (length-take-le s.count s.numbers numbers_there)

  pub parts_counted : s.count ≡ length (parts_of s)
  parts_counted =
      let l = count_within in
      let n = j.memory.parts in
      sym (length-take-le s.count s.parts (omega arith))

  -- A number that stands at no place is refused.
  pub not_held : (n : ℕ) {x : Option ℕ} → x ≡ position (λ k. k == n) (numbers_of s) → x ≡ None → record { answer = Err NumberNotHeld; site = s } ≡ removed_from s total.0 n
  unfolding removed_from
  not_held n e f = let m = place_missing n (numbers_of s) (sym e ∙ f) in simp (le-ltb (place_of n (numbers_of s)) (length (numbers_of s)) (omega arith))

  -- The sub-area of another is a part of the total area, and is taken out.
  module _ (n i : ℕ) {x : Option ℕ} (e : x ≡ position (λ k. k == n) (numbers_of s)) (f : x ≡ Some i) where
    at : i ≡ place_of n (numbers_of s)
    at = (place_found n (numbers_of s) i (sym e ∙ f)).0

    h : i < s.count
    h = let c = numbers_counted in let p = place_found n (numbers_of s) i (sym e ∙ f) in omega arith

    same_part : get_or (parts_of s) i blank ≡ get_or s.parts i blank
    same_part = get_or-take s.count s.parts i blank h

    pub area_within : area_of (get_or s.parts i blank) ≤ total.0
    area_within =
        let l = h in
        let c = parts_counted in
        let t = (judged_has s total j.fine).2 in
        let w = sum_without (parts_of s) i area_of blank (omega arith) in
        let p = ap area_of same_part in
        omega arith

    pub takes_out : {t : Site} → t ≡ without s i
        → record { answer = Ok (record { 0 = total.0 - area_of (get_or s.parts i blank) }); site = t } ≡ removed_from s total.0 n
    unfolding removed_from
    takes_out g =
        let l = h in
        let p = at in
        let c = numbers_counted in
        simp (lt-ltb (place_of n (numbers_of s)) (length (numbers_of s)) (omega arith))
        ((λ k. record { answer = Ok (record { 0 = total.0 - area_of (sym same_part k) }); site = g k }) ∙ ap (taken_out s total.0) at)

-- Where a record is judged fine with a total area, the removal that is told this total gives what the public removal gives.
pub removal_agrees : (s : Site) (n : ℕ) (total : Area) → judged s ≡ Ok total → removed_from s total.0 n ≡ removed s n
unfolding removed
removal_agrees s n total e = simp e

-- A removal from a record that is refused,
pub removal_stops : (s : Site) (n : ℕ) {found : Result Area Refusal} {why : Refusal} → found ≡ judged s → found ≡ Err why → untouched s why ≡ removed s n
unfolding removed
removal_stops s n e f = stops (untouched s) (λ total. removed_from s total n) s e f

-- and from one that is judged fine.
module _ (s : Site) (m : InMemory s) (n : ℕ) {found : Result Area Refusal} {total : Area} (e : found ≡ judged s) (f : found ≡ Ok total) where
  judged_so : judged s ≡ Ok total
  judged_so = sym e ∙ f

  pub told : Told s total
  told = record { memory = m; fine = judged_so }

  pub none_held : {x : Option ℕ} → x ≡ position (λ k. k == n) (numbers_of s) → x ≡ None → untouched s NumberNotHeld ≡ removed s n
  none_held g h = not_held s total told n g h ∙ removal_agrees s n total judged_so

  pub held_out : (i : ℕ) {x : Option ℕ} → x ≡ position (λ k. k == n) (numbers_of s) → x ≡ Some i
      → record { answer = Ok (record { 0 = total.0 - area_of (get_or s.parts i blank) }); site = without s i } ≡ removed s n
  held_out i g h = takes_out s total told n i g h refl ∙ removal_agrees s n total judged_so
