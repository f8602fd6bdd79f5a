-- Laws of the segment in which a depth lies.
-- Assumes nothing.
use Prim.Native.Nat.{ℕ, zero, suc, ◌+◌, ◌-◌, ◌≤◌, ◌<◌}
use mathlib.Core.Bool.{Bool, true, false}
use mathlib.Core.List.{List, [], ◌∷◌}
use mathlib.Core.Path.{◌≡◌, ◌∙◌}
use mathlib.Core.Logic.{⊎_elim}
use native.Mathlib.Nat.{add-zero, zero-add, le_antisymm, le_trans, min-le_left, min-le_right, le-min}
use native.Mathlib.Omega.{arith}
use lib.Dec.{ltb}
use lib.ListN.{length, get_or}
use borrow.Author.Tests.{ltb-true, ltb-false, lt-ltb}
use Rattle.std.specs.List.{prefix_len}
use Rattle.laws.specs.First.{first_from}
use Rattle.laws.proofs.First.{first_le, first_before, first_fails, first_all, first_mono}
use Rattle.laws.proofs.Order.{lt_or_le, passes_or_fails}
use Rattle.sheet.specs.Sheet.{previous}
use Rattle.sheet.proofs.Rows.{one_start, one_next}
use Rattle.curve.specs.Curve.{held, segment}

-- A deeper depth is read no less deep.
pub held_mono : (ds : List ℕ) {d e : ℕ} → d ≤ e → held ds d ≤ held ds e
held_mono ds {d} {e} h = le-min (le_trans (min-le_left d (get_or ds (length ds - 1) 0)) h) (min-le_right d (get_or ds (length ds - 1) 0))

pub held_last : (ds : List ℕ) (d : ℕ) → held ds d ≤ get_or ds (length ds - 1) 0
held_last ds d = min-le_right d (get_or ds (length ds - 1) 0)

-- A deeper depth lies in no earlier segment.
pub segment_mono : (ds : List ℕ) (x z : ℕ) → x ≤ z → segment ds x ≤ segment ds z
segment_mono ds x z h =
    first_mono (λ k. ltb (get_or ds k 0) x) (λ k. ltb (get_or ds k 0) z) (length ds)
    (λ k l e. lt-ltb (get_or ds k 0) z (let m = ltb-true (get_or ds k 0) x e in omega arith))

-- The number before place k is below what every earlier number is below.
before_below : (ds : List ℕ) (n k x : ℕ) → k < n → ((i : ℕ) → i < k → get_or ds i 0 < x) → previous ds n k ≤ x
before_below ds n zero x h f = rw (one_start ds n) (omega arith)
before_below ds n (suc k) x h f =
    rw (one_next ds n k h)
    (let l = f k (omega arith) in omega arith)

module _ (ds : List ℕ) (some : 1 ≤ length ds) (x : ℕ) (h : x ≤ get_or ds (length ds - 1) 0) where
  -- A depth up to the last lies in a segment of the sheet,
  pub segment_in : segment ds x < length ds
  segment_in =
      ⊎_elim (λ (l : segment ds x < length ds). l)
      (λ (l : length ds ≤ segment ds x).
      let e = first_all (λ k. ltb (get_or ds k 0) x) (length ds) (le_antisymm (first_le (λ k. ltb (get_or ds k 0) x) (length ds)) l) (length ds - 1) (omega arith) in
      let m = ltb-true (get_or ds (length ds - 1) 0) x e in
      absurd (omega arith))
      (lt_or_le (segment ds x) (length ds))

  -- not beyond its end,
  pub segment_to : x ≤ get_or ds (segment ds x) 0
  segment_to = ltb-false (get_or ds (segment ds x) 0) x (first_fails (λ k. ltb (get_or ds k 0) x) (length ds) segment_in)

  -- and not before its start.
  pub segment_from : previous ds (length ds) (segment ds x) ≤ x
  segment_from =
      before_below ds (length ds) (segment ds x) x segment_in
      (λ i l. ltb-true (get_or ds i 0) x (first_before (λ k. ltb (get_or ds k 0) x) (length ds) i l))

-- The numbers before the first that is not below x are as many as are below x from the front on.
prefix_from : (p : ℕ → Bool) (xs : List ℕ) (test : ℕ → Bool) (a : ℕ) → ((k : ℕ) → k < length xs → test (a + k) ≡ p (get_or xs k 0))
    → a + prefix_len p xs ≡ first_from test a (length xs)
unfolding first_from
prefix_from p [] test a h = add-zero a
prefix_from p (y ∷ xs) test a h =
    let e : test a ≡ p y = simp add-zero at (h 0 (omega arith)) in
    ⊎_elim
    (λ (t : p y ≡ true).
    let r = prefix_from p xs test (suc a) (λ k l. let z : a + suc k ≡ suc a + k = omega arith in rw z at (h (suc k) (omega arith))) in
    simp (e ∙ t, t) (omega (arith, r)))
    (λ (f : p y ≡ false). simp (e ∙ f, f, add-zero))
    (passes_or_fails (p y))

pub taken_while : (xs : List ℕ) (x : ℕ) → prefix_len (λ y. ltb y x) xs ≡ segment xs x
taken_while xs x = simp zero-add at (prefix_from (λ y. ltb y x) xs (λ k. ltb (get_or xs k 0) x) 0 (λ k l. rw (zero-add k)))
