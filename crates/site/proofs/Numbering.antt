-- Laws of numbers that rise: the walk over them, what is asked of them, one more and one less.
-- Assumes nothing.
use Prim.Native.Nat.{ℕ, zero, suc, ◌+◌, ◌≤◌, ◌<◌}
use mathlib.Core.Bool.{Bool, true, ◌&&◌, and-eq-true_iff, and_assoc}
use mathlib.Core.List.{List, [], ◌∷◌, ◌++◌}
use mathlib.Core.Path.{◌≡◌, ◌∙◌}
use native.Mathlib.Omega.{arith}
use native.Mathlib.Numerals.{add-one}
use lib.Dec.{ltb}
use lib.ListN.{length, drop, get_or, drop_of_length-le}
use lib.Seq.{drop-cons}
use borrow.Author.Tests.{lt-ltb, ltb-true}
use Rattle.site.specs.Judging.{rises_to}
use Rattle.site.specs.Promises.{Rise}

-- Whether the numbers before place i rise, up to `low`, decides with what is left.
abbrev pub Rising : ℕ → List ℕ → Bool → ℕ → ℕ → Type 0
Rising counter ks rises low i = (rises && rises_to counter low (drop i ks)) ≡ rises_to counter 0 ks

module _ (counter : ℕ) (ks : List ℕ) (rises : Bool) (low i : ℕ) (r : Rising counter ks rises low i) where
  -- The number at place i goes on, or ends it,
  pub rise_on : i < length ks → Rising counter ks (rises && ltb low (get_or ks i 0)) (get_or ks i 0) (i + 1)
  unfolding rises_to
  rise_on h =
      rw add-one
      (and_assoc rises (ltb low (get_or ks i 0)) (rises_to counter (get_or ks i 0) (drop (suc i) ks))
      ∙ (rw (drop-cons ks i 0 h) at r))

  -- and where none is left, the counter does.
  pub rise_ends : length ks ≤ i → rises && ltb low counter ≡ rises_to counter 0 ks
  unfolding rises_to
  rise_ends h = rw (drop_of_length-le ks h) at r

-- what is asked of numbers that rise from above `low`
record RiseFrom (counter low : ℕ) (ks : List ℕ) : Type 0 where
  pub started : low < counter
  pub above : (i : ℕ) → i < length ks → low < get_or ks i 0
  pub strictly : (i j : ℕ) → i < j → j < length ks → get_or ks i 0 < get_or ks j 0
  pub below : (i : ℕ) → i < length ks → get_or ks i 0 < counter

-- one number before others that rise from it
rise_before : (counter low k : ℕ) (ks : List ℕ) → low < k → RiseFrom counter k ks → RiseFrom counter low (k ∷ ks)
rise_before counter low k ks h r =
    let s = r.started in
    record { started = omega arith; above = above; strictly = strictly; below = below }
  where
    above : (i : ℕ) → i < length (k ∷ ks) → low < get_or (k ∷ ks) i 0
    above zero l = h
    above (suc i) l = let a = r.above i (omega arith) in omega arith

    strictly : (i j : ℕ) → i < j → j < length (k ∷ ks) → get_or (k ∷ ks) i 0 < get_or (k ∷ ks) j 0
    strictly i zero m l = absurd (omega arith)
    strictly zero (suc j) m l = r.above j (omega arith)
    strictly (suc i) (suc j) m l = r.strictly i j (omega arith) (omega arith)

    below : (i : ℕ) → i < length (k ∷ ks) → get_or (k ∷ ks) i 0 < counter
    below zero l = r.started
    below (suc i) l = r.below i (omega arith)

-- and those behind the first rise from it
rise_behind : (counter low k : ℕ) (ks : List ℕ) → RiseFrom counter low (k ∷ ks) → RiseFrom counter k ks
rise_behind counter low k ks r =
    record {
      started = r.below 0 (omega arith);
      above = λ i l. r.strictly 0 (suc i) (omega arith) (omega arith);
      strictly = λ i j m l. r.strictly (suc i) (suc j) (omega arith) (omega arith);
      below = λ i l. r.below (suc i) (omega arith);
    }

rises_so : (counter low : ℕ) (ks : List ℕ) → rises_to counter low ks ≡ true → RiseFrom counter low ks
unfolding rises_to
rises_so counter low [] e =
    record { started = ltb-true low counter e; above = λ i l. absurd (omega arith); strictly = λ i j m l. absurd (omega arith); below = λ i l. absurd (omega arith) }
rises_so counter low (k ∷ ks) e =
    let b = (and-eq-true_iff (ltb low k) (rises_to counter k ks)).0 e in
    rise_before counter low k ks (ltb-true low k b.0) (rises_so counter k ks b.1)

so_rises : (counter low : ℕ) (ks : List ℕ) → RiseFrom counter low ks → rises_to counter low ks ≡ true
unfolding rises_to
so_rises counter low [] r = lt-ltb low counter r.started
so_rises counter low (k ∷ ks) r =
    simp (lt-ltb low k (r.above 0 (omega arith))) (so_rises counter k ks (rise_behind counter low k ks r))

pub rises_are : (counter : ℕ) (ks : List ℕ) → rises_to counter 0 ks ≡ true → Rise counter ks
rises_are counter ks e =
    let r = rises_so counter 0 ks e in
    record { started = r.started; positive = r.above; strictly = r.strictly; below = r.below }

pub are_rising : (counter : ℕ) (ks : List ℕ) → Rise counter ks → rises_to counter 0 ks ≡ true
are_rising counter ks r =
    so_rises counter 0 ks (record { started = r.started; above = r.positive; strictly = r.strictly; below = r.below })

-- The counter behind numbers that rise to it rises to one more.
pub rises_more : (counter low : ℕ) (ks : List ℕ) → rises_to counter low ks ≡ true → rises_to (counter + 1) low (ks ++ (counter ∷ [])) ≡ true
unfolding rises_to
rises_more counter low [] e = simp (e, lt-ltb counter (counter + 1) (omega arith))
rises_more counter low (k ∷ ks) e =
    let b = (and-eq-true_iff (ltb low k) (rises_to counter k ks)).0 e in
    simp b.0 (rises_more counter k ks b.1)

-- Numbers that rise from above one rise from above a lower one,
rises_lower : (counter low k : ℕ) (ks : List ℕ) → low < k → rises_to counter k ks ≡ true → rises_to counter low ks ≡ true
unfolding rises_to
rises_lower counter low k [] h e = lt-ltb low counter (let l = ltb-true k counter e in omega arith)
rises_lower counter low k (j ∷ ks) h e =
    let b = (and-eq-true_iff (ltb k j) (rises_to counter j ks)).0 e in
    simp (lt-ltb low j (let l = ltb-true k j b.0 in omega arith)) b.1

-- and without one of them the others rise.
pub rises_less : (counter low k : ℕ) (ks ls : List ℕ) → rises_to counter low (ks ++ (k ∷ ls)) ≡ true → rises_to counter low (ks ++ ls) ≡ true
unfolding rises_to
rises_less counter low k [] ls e =
    let b = (and-eq-true_iff (ltb low k) (rises_to counter k ls)).0 e in
    rises_lower counter low k ls (ltb-true low k b.0) b.1
rises_less counter low k (j ∷ ks) ls e =
    let b = (and-eq-true_iff (ltb low j) (rises_to counter j (ks ++ (k ∷ ls)))).0 e in
    simp b.0 (rises_less counter j k ks ls b.1)
