-- Laws of the walk over one row, which carries the number before, and of the walk over rows.
-- Assumes nothing.
use Prim.Native.Nat.{ℕ, zero, suc, ◌+◌, ◌-◌, ◌*◌, ◌%◌, ◌≤◌, ◌<◌}
use mathlib.Core.Bool.{Bool, true, false, not}
use mathlib.Core.List.{List, ◌++◌}
use mathlib.Core.Logic.{⊎_elim}
use mathlib.Core.Path.{◌≡◌, refl, sym, ◌∙◌, ap, subst}
use native.Mathlib.Nat.{suc-mul, mod-eq_of_lt, mul-add-mod_self_right}
use native.Mathlib.Numerals.{add-one}
use native.Mathlib.Omega.{arith}
use lib.Dec.{ltb}
use lib.ListN.{length, get_or, drop, length-append, length-drop, get_or-append}
use lib.Seq.{get_or-drop, drop-append_seam, drop-drop}
use borrow.Author.Tests.{lt-ltb, le-ltb, ltb-true, ltb-false, not-true, not-false}
use Rattle.std.specs.Prelude.{Some, None}
use Rattle.laws.proofs.First.{first_before, first_fails}
use Rattle.laws.proofs.Order.{lt_or_le, passes_or_fails}
use Rattle.laws.proofs.Walk.{Walked, walk_start, walk_on, walk_found, walk_end}
use Rattle.sheet.specs.Sheet.{in_step, previous, offending, found}
use Rattle.sheet.proofs.Rows.{row_start, row_next, one_start, one_next}

-- the number at place k is in step, in rows of n
abbrev pub tested : List ℕ → ℕ → ℕ → ℕ → ℕ → Bool
tested xs n gap most k = in_step gap most (previous xs n k) (get_or xs k 0)

-- A place below the count is found, and one at the count or beyond is none.
some_found : (place count : ℕ) → place < count → Some place ≡ found place count
some_found place count h = simp (lt-ltb place count h)

none_found : (place count : ℕ) → count ≤ place → None ≡ found place count
none_found place count h = simp (le-ltb place count h)

-- What is found is the place, below the count, and where none is it is not below.
some_is : (place count : ℕ) {k : ℕ} → Some k ≡ found place count → (k ≡ place) × (place < count)
some_is place count e =
    ⊎_elim (λ (t : ltb place count ≡ true). let e' = simp t at e in ((cc), ltb-true place count t))
    (λ (f : ltb place count ≡ false). let e' = simp f at e in absurd (cc)) (passes_or_fails (ltb place count))

none_is : (place count : ℕ) → None ≡ found place count → count ≤ place
none_is place count e =
    ⊎_elim (λ (t : ltb place count ≡ true). let e' = simp t at e in absurd (cc))
    (λ (f : ltb place count ≡ false). ltb-false place count f) (passes_or_fails (ltb place count))

-- The walk has come to place i of a row, with this number before it.
pub record Carried (xs : List ℕ) (gap most low i : ℕ) : Type 0 where
  pub walked : Walked (tested xs (length xs) gap most) (length xs) i
  pub below : i < length xs → low ≡ previous xs (length xs) i

module _ (xs : List ℕ) (gap most : ℕ) where
  pub carry_start : Carried xs gap most 0 0
  carry_start = record { walked = walk_start; below = λ h. sym (one_start xs (length xs)) }

  module _ (low i : ℕ) (r : Carried xs gap most low i) where
    pub carry_end : length xs ≤ i → None ≡ found (offending xs (length xs) gap most) (length xs)
    carry_end h = none_found (offending xs (length xs) gap most) (length xs) (rw (sym (walk_end r.walked h)) h)

    module _ (h : i < length xs) {b : Bool} (e : b ≡ in_step gap most low (get_or xs i 0)) where
      -- the test that is made is the definition's
      same_test : tested xs (length xs) gap most i ≡ b
      same_test = ap (λ (k : ℕ). in_step gap most k (get_or xs i 0)) (sym (r.below h)) ∙ sym e

      pub carry_found : not b ≡ true → Some i ≡ found (offending xs (length xs) gap most) (length xs)
      carry_found f = rw (sym (walk_found r.walked (same_test ∙ not-true _ f))) (some_found i (length xs) h)

      pub carry_on : not b ≡ false → Carried xs gap most (get_or xs i 0) (i + 1)
      carry_on f =
          record {
            walked = walk_on r.walked h (same_test ∙ not-false _ f);
            below = λ l. rw add-one (sym (one_next xs (length xs) i (rw add-one at l)));
          }

-- The walk has come to row j of n: every number of the rows before is in step, and these are left.
pub record Rowed (xs : List ℕ) (n gap most j : ℕ) (rest : List ℕ) : Type 0 where
  pub walked : Walked (tested xs n gap most) (length xs) (j * n)
  pub left : rest ≡ drop (j * n) xs

module _ (xs : List ℕ) (n gap most : ℕ) where
  module _ (j : ℕ) {rest : List ℕ} (r : Rowed xs n gap most j rest) where
    -- As many are left as stand from the row on.
    left_length : j * n + length rest ≡ length xs
    left_length = let l = ap length r.left ∙ length-drop (j * n) xs in let w = r.walked.within in omega arith

    -- Where less than a row is left of whole rows there is nothing.
    pub rows_end : length xs % n ≡ 0 → length rest < n → None ≡ found (offending xs n gap most) (length xs)
    rows_end e h =
        let z : length rest ≡ 0 = sym (mod-eq_of_lt h) ∙ sym (mul-add-mod_self_right j n (length rest)) ∙ ap (λ (k : ℕ). k % n) left_length ∙ e in
        let l = left_length in
        let p : length xs ≤ j * n = omega arith in
        none_found (offending xs n gap most) (length xs) (subst (λ (k : ℕ). length xs ≤ k) (walk_end r.walked p) p)

    -- The next row is cut off.
    module _ (row others : List ℕ) (cut : rest ≡ row ++ others) (whole : length row ≡ n) where
      -- It lies in the list.
      row_within : j * n + n ≤ length xs
      row_within = let l = left_length in let c = ap length cut ∙ length-append row others in omega arith

      row_number : (k : ℕ) → k < n → get_or row k 0 ≡ get_or xs (j * n + k) 0
      row_number k l = sym (get_or-append row others 0 k (omega arith)) ∙ ap (λ (s : List ℕ). get_or s k 0) (sym cut ∙ r.left) ∙ get_or-drop (j * n) xs k 0

      row_previous : (k : ℕ) → k < n → previous row n k ≡ previous xs n (j * n + k)
      row_previous zero l = one_start row n ∙ sym (row_start xs n j)
      row_previous (suc k) l = one_next row n k l ∙ row_number k (omega arith) ∙ sym (row_next xs n j k l)

      -- A place of the row is tried as the place of the list is.
      row_tested : (k : ℕ) → k < n → tested row (length row) gap most k ≡ tested xs n gap most (j * n + k)
      row_tested k l = rw (whole, row_previous k l, row_number k l)

      -- The walk comes as far into the row as its numbers are in step.
      reached : (e : ℕ) → e ≤ n → ((k : ℕ) → k < e → tested row (length row) gap most k ≡ true)
          → Walked (tested xs n gap most) (length xs) (j * n + e)
      reached e l t =
          record {
            within = let w = row_within in omega arith;
            passed = λ k b. ⊎_elim (λ (c : k < j * n). r.walked.passed k c)
                (λ (c : j * n ≤ k).
                let i : k - j * n < e = omega arith in
                let q : j * n + (k - j * n) ≡ k = omega arith in
                subst (λ (x : ℕ). tested xs n gap most x ≡ true) q (sym (row_tested (k - j * n) (omega arith)) ∙ t (k - j * n) i))
                (lt_or_le k (j * n));
          }

      before : (k : ℕ) → k < offending row (length row) gap most → tested row (length row) gap most k ≡ true
      before k l = first_before (tested row (length row) gap most) (length row) k l

      pub row_found : {place : ℕ} → Some place ≡ found (offending row (length row) gap most) (length row)
          → Some (j * n + place) ≡ found (offending xs n gap most) (length xs)
      row_found {place} e =
          let s = some_is (offending row (length row) gap most) (length row) e in
          let l : place < n = subst (λ (k : ℕ). place < k) whole (rw s.0 s.1) in
          let w = row_within in
          let at : j * n + place ≡ offending xs n gap most =
          walk_found (reached place (omega arith) (λ k b. before k (rw (sym s.0) b)))
          (sym (row_tested place l) ∙ subst (λ (x : ℕ). tested row (length row) gap most x ≡ false) (sym s.0)
          (first_fails (tested row (length row) gap most) (length row) s.1)) in
          rw (sym at) (some_found (j * n + place) (length xs) (omega arith))

      -- What is left then stands from the next row on.
      others_left : others ≡ drop (suc j * n) xs
      others_left =
          sym (drop-append_seam row others)
          ∙ ap (drop (length row)) (sym cut ∙ r.left)
          ∙ drop-drop (length row) (j * n) xs
          ∙ rw (whole, suc-mul j n) refl

      pub row_passes : None ≡ found (offending row (length row) gap most) (length row) → Rowed xs n gap most (j + 1) others
      row_passes e =
          let p = none_is (offending row (length row) gap most) (length row) e in
          rw add-one
          (record {
            walked = rw (suc-mul j n) (reached n (omega arith) (λ k b. before k (omega arith)));
            left = others_left;
          })
