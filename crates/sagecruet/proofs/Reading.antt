-- The walk over the numbers of the sub-areas.
-- Assumes nothing.
use Prim.Native.Nat.{ℕ, suc, ◌+◌, ◌-◌, ◌*◌, ◌≤◌, ◌<◌}
use mathlib.Core.Bool.{Bool, true, false, ◌&&◌}
use mathlib.Core.List.{List, ◌∷◌}
use mathlib.Core.Path.{◌≡◌, refl, sym, ◌∙◌, ap}
use mir.Syntax.{w32, w64}
use mir.Val.{Fits}
use native.Mathlib.Nat.{sub-zero, add-zero, lt_of_le_of_lt}
use native.Mathlib.Omega.{arith}
use lib.Dec.{lit<}
use lib.ListN.{length, get_or, drop, set}
use lib.Seq.{get_or-drop, drop-drop}
use Rattle.std.specs.Prelude.{Ok, Err}
use Rattle.refusal.specs.declared.Refusal.{Refusal}
use Rattle.refusal.specs.declared.Refusal.TheVariants.{MalformedText}
use Rattle.site.specs.declared.SubArea.{SubArea}
use Rattle.site.specs.declared.Site.{Site}
use Rattle.site.specs.Parts.{empty_site}
use Rattle.site.specs.Adding.{stored}
use Rattle.site.specs.Promises.{InMemory}
use Rattle.site.proofs.Adding.{memory_stored}
use Rattle.jobtext.specs.Records.{stored_all, site_of}
use Rattle.sagecruet.specs.Codes.{part_in, worded, parts_in, all_worded}
use Rattle.sagecruet.specs.Inner.{Fours, where_worded}

-- A walk over the numbers stands in front of sub-area i.
pub record Stands (n : ℕ) (xs : List ℕ) (i at : ℕ) : Type 0 where
  pub fours : Fours n xs
  pub within : i ≤ n
  pub place : at ≡ i * 4

stands_none : {n : ℕ} {xs : List ℕ} → Fours n xs → Stands n xs 0 0
stands_none f = record { fours = f; within = omega arith; place = refl }

module _ {n : ℕ} {xs : List ℕ} {i at : ℕ} (w : Stands n xs i at) (h : i < n) where
  stands_next : Stands n xs (i + 1) (at + 4)
  stands_next = let p = w.place in record { fours = w.fours; within = omega arith; place = omega arith }

  left : n - i ≡ suc (n - (i + 1))
  left = omega arith

  there : (k : ℕ) → k < 4 → at + k < length xs
  there k l =
      let p = w.place in
      let f = w.fours.long in
      omega arith

  pub land_there : at < length xs
  land_there = let t = there 0 (lit< tt) in omega arith

  pub cover_there : at + 1 < length xs
  cover_there = there 1 (lit< tt)

  pub soil_there : at + 2 < length xs
  soil_there = there 2 (lit< tt)

  pub area_there : at + 3 < length xs
  area_there = there 3 (lit< tt)

  fits : (k : ℕ) → k ≤ 4 → Fits w64 (at + k)
  fits k l =
      let p = w.place in
      let f = w.fours.few in
      let m : at + k ≤ 132 = omega arith in
      record { fits = lt_of_le_of_lt m (lit< tt) }

  pub one_fits : Fits w64 (at + 1)
  one_fits = fits 1 (omega arith)

  pub two_fits : Fits w64 (at + 2)
  two_fits = fits 2 (omega arith)

  pub three_fits : Fits w64 (at + 3)
  three_fits = fits 3 (omega arith)

  pub four_fits : Fits w64 (at + 4)
  four_fits = fits 4 (omega arith)

-- the four numbers at a place
module _ (xs : List ℕ) (at : ℕ) where
  abbrev here : SubArea
  here = part_in (get_or xs at 0) (get_or xs (at + 1) 0) (get_or xs (at + 2) 0) (get_or xs (at + 3) 0)

  abbrev here_worded : Bool
  here_worded = worded (get_or xs at 0) (get_or xs (at + 1) 0) (get_or xs (at + 2) 0)

  parts_turn : (m : ℕ) → parts_in (suc m) (drop at xs) ≡ here ∷ parts_in m (drop (at + 4) xs)
  unfolding parts_in
  parts_turn m = rw (get_or-drop at xs 0 0, get_or-drop at xs 1 0, get_or-drop at xs 2 0, get_or-drop at xs 3 0, drop-drop 4 at xs, add-zero at)

  worded_turn : (m : ℕ) → all_worded (suc m) (drop at xs) ≡ (here_worded && all_worded m (drop (at + 4) xs))
  unfolding all_worded
  worded_turn m = rw (get_or-drop at xs 0 0, get_or-drop at xs 1 0, get_or-drop at xs 2 0, drop-drop 4 at xs, add-zero at)

-- what is told by codes is granted where they have words, and refused 1 where not
pub told_ok : {X : Type 0} (b : Bool) (x y : X) → Ok y ≡ where_worded b x → (b ≡ true) × (y ≡ x)
told_ok true x y e = (refl, cc)
told_ok false x y e = cc

pub told_err : {X : Type 0} (b : Bool) (x : X) (why : Refusal) → Err why ≡ where_worded b x → (b ≡ false) × (why ≡ MalformedText)
told_err true x why e = cc
told_err false x why e = (refl, cc)

-- The first i sub-areas are stored, and with those that are left the record is whole; the codes of those decide.
pub record Walked (n : ℕ) (xs : List ℕ) (s : Site) (i at : ℕ) : Type 0 where
  pub stands : Stands n xs i at
  pub memory : InMemory s
  pub count : s.count ≡ i
  pub counter : s.counter ≡ i + 1
  pub words : all_worded (n - i) (drop at xs) ≡ all_worded n xs
  pub built : stored_all s (parts_in (n - i) (drop at xs)) ≡ site_of (parts_in n xs)

pub walked_none : {n : ℕ} {xs : List ℕ} {s : Site} → s ≡ empty_site → Fours n xs → Walked n xs s 0 0
walked_none {n} e f =
    rw e
    (record {
      stands = stands_none f;
      memory = record { parts = refl; numbers = refl };
      count = refl;
      counter = refl;
      words = rw (sub-zero n);
      built = rw (sub-zero n);
    })

module _ {n : ℕ} {xs : List ℕ} {s : Site} {i at : ℕ} (w : Walked n xs s i at) where
  module _ (h : i < n) where
    turned : (here_worded xs at && all_worded (n - (i + 1)) (drop (at + 4) xs)) ≡ all_worded n xs
    turned = sym (worded_turn xs at (n - (i + 1))) ∙ (rw (left w.stands h) at w.words)

    pub number_fits : Fits w32 (s.counter + 1)
    number_fits =
        let c = w.counter in
        let f = w.stands.fours.few in
        let m : s.counter + 1 ≤ 34 = omega arith in
        record { fits = lt_of_le_of_lt m (lit< tt) }

    pub walked_stops : {why : Refusal} → Err why ≡ where_worded (here_worded xs at) (here xs at) → Err why ≡ where_worded (all_worded n xs) (site_of (parts_in n xs))
    walked_stops {why} e =
        let t = told_err (here_worded xs at) (here xs at) why e in
        let none = ap (λ (b : Bool). b && all_worded (n - (i + 1)) (drop (at + 4) xs)) (sym t.0) ∙ turned in
        rw (← none, t.1)

    pub walked_next : {p : SubArea} → Ok p ≡ where_worded (here_worded xs at) (here xs at)
        → Walked n xs (record { parts = set s.parts i p; count = i + 1; numbers = set s.numbers i s.counter; counter = s.counter + 1 }) (i + 1) (at + 4)
    unfolding stored_all
    walked_next {p} e =
        let t = told_ok (here_worded xs at) (here xs at) p e in
        let put : stored s p ≡ record { parts = set s.parts i p; count = i + 1; numbers = set s.numbers i s.counter; counter = s.counter + 1 } = rw w.count in
        let counter = w.counter in
        record {
          stands = stands_next w.stands h;
          memory = rw put at (memory_stored s p w.memory);
          count = refl;
          counter = omega arith;
          words = ap (λ (b : Bool). b && all_worded (n - (i + 1)) (drop (at + 4) xs)) (sym t.0) ∙ turned;
          built =
              ap (λ (t : Site). stored_all t (parts_in (n - (i + 1)) (drop (at + 4) xs))) (sym put ∙ ap (stored s) t.1)
              ∙ ap (stored_all s) (sym (parts_turn xs at (n - (i + 1))))
              ∙ (rw (left w.stands h) at w.built);
        }

  pub walked_all : n ≤ i → Ok s ≡ where_worded (all_worded n xs) (site_of (parts_in n xs))
  unfolding stored_all parts_in all_worded
  walked_all h =
      let l = w.stands.within in
      let none : n - i ≡ 0 = omega arith in
      let words : true ≡ all_worded n xs = rw none at w.words in
      let built : s ≡ site_of (parts_in n xs) = rw none at w.built in
      rw (← words, built)
