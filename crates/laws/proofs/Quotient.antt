-- Laws of quotients rounded down.
-- Assumes nothing.
use Prim.Native.Nat.{ℕ, ◌*◌, ◌/◌, ◌≤◌, ◌<◌}
use mathlib.Core.Path.{◌≡◌, sym}
use native.Mathlib.Nat.{le-div_iff_mul-le, div-mul-le_self, le_antisymm, le_of_eq, mul-le-mul_right, le_of_mul-le-mul_right}
use native.Mathlib.Omega.{arith}

-- A fraction that is not above another does not round down to more. With b ≡ d: monotone in the numerator.
pub floor_le : (a b c d : ℕ) → 0 < b → 0 < d → a * d ≤ c * b → a / b ≤ c / d
floor_le a b c d pb pd h =
    let q : a / b * b * d ≤ a * d = mul-le-mul_right d (div-mul-le_self a b) in
    let r : a / b * d * b ≤ c * b = omega arith in
    (le-div_iff_mul-le pd).1 (le_of_mul-le-mul_right r pb)

-- Equal fractions round down alike: a common factor cancels.
pub floor_same : (a b c d : ℕ) → 0 < b → 0 < d → a * d ≡ c * b → a / b ≡ c / d
floor_same a b c d pb pd e = le_antisymm (floor_le a b c d pb pd (le_of_eq e)) (floor_le c d a b pd pb (le_of_eq (sym e)))

-- Monotone in the numerator.
pub floor_mono : {a c : ℕ} (b : ℕ) → 0 < b → a ≤ c → a / b ≤ c / b
floor_mono {a} {c} b pb h = floor_le a b c b pb pb (mul-le-mul_right b h)
