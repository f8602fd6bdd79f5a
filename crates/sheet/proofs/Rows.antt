-- Laws of numbers in rows: what stands before a place of a row, and that a row in step rises.
-- Assumes nothing.
use Prim.Native.Nat.{ℕ, zero, suc, ◌+◌, ◌-◌, ◌*◌, ◌≤◌, ◌<◌}
use mathlib.Core.List.{List}
use mathlib.Core.Logic.{⊎_elim}
use mathlib.Core.Path.{◌≡◌}
use native.Mathlib.Nat.{add-zero, zero-add, zero-mul, suc-mul, mul-mod_left, mul-add-mod_self_right, mod-eq_of_lt, mul-le-mul_right, le_refl, le_of_suc-le-suc, eq-or-lt_of_le}
use native.Mathlib.Omega.{arith}
use lib.Dec.{eqb-suc-zero}
use lib.ListN.{length, get_or}
use Rattle.sheet.specs.Sheet.{previous}
use Rattle.sheet.specs.Rules.{InStep}

-- Place k of row j, of m rows of n, is one of the m * n places.
pub row_place : (j k m n : ℕ) → j < m → k < n → j * n + k < m * n
row_place j k m n h l =
    let p : suc j * n ≤ m * n = mul-le-mul_right n h in
    let q : suc j * n ≡ j * n + n = suc-mul j n in
    omega arith

module _ (xs : List ℕ) (n : ℕ) where
  -- At the start of a row 0 stands before.
  pub row_start : (j : ℕ) → previous xs n (j * n + 0) ≡ 0
  unfolding previous
  row_start j = simp (add-zero, mul-mod_left)

  -- Further on it is the number at the place before.
  pub row_next : (j k : ℕ) → suc k < n → previous xs n (j * n + suc k) ≡ get_or xs (j * n + k) 0
  unfolding previous
  row_next j k h =
      let e : j * n + suc k - 1 ≡ j * n + k = omega arith in
      simp (mul-add-mod_self_right j n (suc k), mod-eq_of_lt h, eqb-suc-zero k, e)

  -- In a row in step the number at a place is not above the one before any later place.
  pub row_rises : {gap most : ℕ} → InStep xs n gap most → (j k m : ℕ) → k < m → m < n → j * n + m ≤ length xs
      → get_or xs (j * n + k) 0 ≤ previous xs n (j * n + m)
  row_rises s j k zero a b c = absurd (omega arith)
  row_rises s j k (suc m) a b c =
      rw (row_next j m b)
      (⊎_elim (λ (e : k ≡ m). rw e (le_refl _))
      (λ (l : k < m).
      let p = row_rises s j k m l (omega arith) (omega arith) in
      let q = (s (j * n + m) (omega arith)).rises in
      omega arith)
      (eq-or-lt_of_le (le_of_suc-le-suc a)))

  -- The same of a list that is one row.
  pub one_start : previous xs n 0 ≡ 0
  one_start = simp (zero-mul, add-zero) at (row_start 0)

  pub one_next : (k : ℕ) → suc k < n → previous xs n (suc k) ≡ get_or xs k 0
  one_next k h = simp (zero-mul, zero-add) at (row_next 0 k h)

  pub one_rises : {gap most : ℕ} → InStep xs n gap most → (k m : ℕ) → k < m → m < n → n ≤ length xs → get_or xs k 0 ≤ previous xs n m
  one_rises s k m a b c = simp (zero-mul, zero-add) at (row_rises s 0 k m a b (simp (zero-mul, zero-add) (omega arith)))
