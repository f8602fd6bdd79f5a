-- Laws of the curves that a site rate is credited by.
-- Assumes nothing.
use Prim.Native.Nat.{ℕ, suc, ◌+◌, ◌-◌, ◌≤◌, ◌<◌}
use mathlib.Core.Bool.{true}
use mathlib.Core.List.{List}
use mathlib.Core.Logic.{⊎_elim}
use mathlib.Core.Path.{◌≡◌}
use native.Mathlib.Nat.{le_trans}
use native.Mathlib.Numerals.{add-one}
use native.Mathlib.Omega.{arith}
use lib.Dec.{leb, ltb, eqb, leb-suc-suc}
use lib.ListN.{length, get_or}
use borrow.Author.Tests.{leb-true, leb-false, le-leb, lt-ltb, le-ltb, eqb-true}
use Rattle.laws.proofs.And.{and_left}
use Rattle.laws.specs.First.{first}
use Rattle.laws.proofs.First.{first_le, first_before, first_fails, first_same, first_mono}
use Rattle.laws.proofs.Order.{lt_or_le}
use Rattle.units.specs.declared.Rate.{Rate}
use Rattle.units.specs.Limits.{most_rate}
use Rattle.sheet.specs.Sheet.{without_rates}
use Rattle.sheet.specs.Rules.{InStep, Rules}
use Rattle.sheet.proofs.Rows.{one_next}
use Rattle.curve.specs.declared.Mode.{Mode}
use Rattle.curve.specs.declared.Mode.TheVariants.{Step, Mix}
use Rattle.curve.specs.declared.Curves.{Curves}
use Rattle.curve.specs.declared.Curves.TheVariants.{One, Two}
use Rattle.curve.specs.Curve.{segment, fastest, curves_of}
use Rattle.curve.specs.Inner.{Rated, Between, Neighbours}

-- The rates reached: how many there are before the first above the site rate.
abbrev reached : List ℕ → ℕ → ℕ
reached rs r = first (λ k. leb (get_or rs k 0) r) (length rs)

-- Not above r is below r + 1.
reached_is : (rs : List ℕ) (r : ℕ) → segment rs (r + 1) ≡ reached rs r
reached_is rs r =
    first_same (λ k. ltb (get_or rs k 0) (r + 1)) (λ k. leb (get_or rs k 0) r) (length rs)
    (λ k l. rw (add-one r) (leb-suc-suc (get_or rs k 0) r))

pub reached_mono : (rs : List ℕ) (r q : ℕ) → r ≤ q → reached rs r ≤ reached rs q
reached_mono rs r q h =
    first_mono (λ k. leb (get_or rs k 0) r) (λ k. leb (get_or rs k 0) q) (length rs)
    (λ k l e. le-leb (get_or rs k 0) q (le_trans (leb-true (get_or rs k 0) r e) h))

module _ {rs : List ℕ} {r : ℕ} (p : Rated rs r) where
  reached_some : 1 ≤ reached rs r
  reached_some =
      ⊎_elim
      (λ (h : reached rs r < 1).
      let n = p.some_rates in
      let e = leb-false (get_or rs (reached rs r) 0) r (first_fails (λ k. leb (get_or rs k 0) r) (length rs) (omega arith)) in
      let z : reached rs r ≡ 0 = omega arith in
      let s = p.slowest in
      let f : r < get_or rs 0 0 = rw z at e in
      absurd (omega arith))
      (λ (h : 1 ≤ reached rs r). h)
      (lt_or_le (reached rs r) 1)

  pub segment_some : {s : ℕ} → s ≡ segment rs (r + 1) → 1 ≤ s
  segment_some e = rw (e, reached_is rs r) reached_some

  pub fastest_is : {s : ℕ} → s ≡ segment rs (r + 1) → s - 1 ≡ fastest rs r
  unfolding fastest
  fastest_is e = rw (e, reached_is rs r)

  -- The fastest is a rate of the sheet,
  pub fastest_in : fastest rs r < length rs
  unfolding fastest
  fastest_in =
      let s = reached_some in
      let l = first_le (λ k. leb (get_or rs k 0) r) (length rs) in
      omega arith

  -- not above the site rate,
  pub fastest_from : get_or rs (fastest rs r) 0 ≤ r
  unfolding fastest
  fastest_from =
      let s = reached_some in
      leb-true (get_or rs (reached rs r - 1) 0) r (first_before (λ k. leb (get_or rs k 0) r) (length rs) (reached rs r - 1) (omega arith))

  -- and the next one is above it.
  pub fastest_to : fastest rs r + 1 < length rs → r < get_or rs (fastest rs r + 1) 0
  unfolding fastest
  fastest_to h =
      let s = reached_some in
      let e : reached rs r - 1 + 1 ≡ reached rs r = omega arith in
      rw e (leb-false (get_or rs (reached rs r) 0) r (first_fails (λ k. leb (get_or rs k 0) r) (length rs) (omega arith)))

-- A sheet without rates has one.
single : (rs : List ℕ) → without_rates rs ≡ true → length rs ≡ 1
unfolding without_rates
single rs e = eqb-true (length rs) 1 (and_left (eqb (length rs) 1) (eqb (get_or rs 0 0) 0) e)

-- Neighbouring rates rise, and stay in range.
module _ {ds rs ps : List ℕ} (s : Rules ds rs ps) (k : ℕ) (h : k + 1 < length rs) where
  stepped : InStep rs (length rs) 1 most_rate
  stepped =
      ⊎_elim (λ (e : without_rates rs ≡ true). let l = single rs e in absurd (omega arith))
      (λ (i : InStep rs (length rs) 1 most_rate). i)
      s.rates

  pub rates_apart : get_or rs k 0 < get_or rs (k + 1) 0
  rates_apart =
      let e : k + 1 ≡ suc k = add-one k in
      rw e
      (let p = (stepped (suc k) (rw e at h)).rises in
      let q = one_next rs (length rs) k (rw e at h) in
      omega arith)

  pub rates_short : get_or rs (k + 1) 0 ≤ most_rate
  rates_short = (stepped (k + 1) h).small

-- What the two modes take.
module _ (rs : List ℕ) (mode : Mode) (r : ℕ) {low : ℕ} (is : low ≡ fastest rs r) where
  pub mix_two : mode ≡ Mix → low + 1 < length rs → Two low (record { 0 = get_or rs low 0 }) (record { 0 = get_or rs (low + 1) 0 }) (record { 0 = r }) ≡ curves_of rs mode r
  unfolding curves_of
  mix_two e h = rw (e, is) (simp (lt-ltb (fastest rs r + 1) (length rs) (rw is at h)))

-- The next place fits a list's length.
pub next_fits : (rs : List ℕ) (r : ℕ) {low : ℕ} → low ≡ fastest rs r → Rated rs r → low + 1 ≤ length rs
next_fits rs r {low} is p =
    let h : low < length rs = rw is (fastest_in p) in
    omega arith

-- They are rates of the sheet, with the site rate between two of them.
pub neighbours : {ds rs ps : List ℕ} {r : ℕ} (mode : Mode) → Rules ds rs ps → Rated rs r → Neighbours rs (curves_of rs mode r)
unfolding curves_of
neighbours Step s p = fastest_in p
neighbours {ds} {rs} {ps} {r} Mix s p =
    ⊎_elim
    (λ (h : fastest rs r + 1 < length rs).
    simp (lt-ltb (fastest rs r + 1) (length rs) h)
    (record {
      next = h;
      apart = rates_apart s (fastest rs r) h;
      short = rates_short s (fastest rs r) h;
      from = fastest_from p;
      to = let l = fastest_to p h in omega arith;
    }))
    (λ (h : length rs ≤ fastest rs r + 1). simp (le-ltb (fastest rs r + 1) (length rs) h) (fastest_in p))
    (lt_or_le (fastest rs r + 1) (length rs))

-- A match on the curves.
pub neighbour_one : (rs : List ℕ) {c : Curves} {j : ℕ} → c ≡ One j → Neighbours rs c → j < length rs
neighbour_one rs e p = rw e at p

pub neighbour_two : (rs : List ℕ) {c : Curves} {j : ℕ} {slow fast r : Rate} → c ≡ Two j slow fast r → Neighbours rs c
    → Between rs j slow.0 fast.0 r.0
neighbour_two rs e p = rw e at p
