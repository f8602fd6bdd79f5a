-- Laws of the straight line between two points, times its width.
-- Assumes nothing.
use Prim.Native.Nat.{ℕ, ◌+◌, ◌-◌, ◌*◌, ◌≤◌}
use mathlib.Core.Path.{◌≡◌}
use native.Mathlib.Nat.{sub_self, mul-le-mul_left}
use native.Mathlib.Omega.{arith}
use Rattle.laws.specs.Line.{line}

-- A width is the sum of its two parts.
widths : (x y z : ℕ) → x ≤ y → y ≤ z → z - x ≡ (z - y) + (y - x)
widths x y z a b = omega arith

-- It starts at its first point.
pub line_start : (x₀ y₀ x₁ y₁ : ℕ) → line x₀ y₀ x₁ y₁ x₀ ≡ (x₁ - x₀) * y₀
line_start x₀ y₀ x₁ y₁ = rw (sub_self x₀) (omega arith)

-- It ends at its second point.
pub line_end : (x₀ y₀ x₁ y₁ : ℕ) → line x₀ y₀ x₁ y₁ x₁ ≡ (x₁ - x₀) * y₁
line_end x₀ y₀ x₁ y₁ = rw (sub_self x₁) (omega arith)

-- It never leaves the range of its two points.
pub line_above : (x₀ y₀ x₁ y₁ x low : ℕ) → x₀ ≤ x → x ≤ x₁ → low ≤ y₀ → low ≤ y₁ → (x₁ - x₀) * low ≤ line x₀ y₀ x₁ y₁ x
line_above x₀ y₀ x₁ y₁ x low a b c d =
    let p = mul-le-mul_left (x₁ - x) c in
    let q = mul-le-mul_left (x - x₀) d in
    rw (widths x₀ x x₁ a b) (omega arith)

pub line_below : (x₀ y₀ x₁ y₁ x high : ℕ) → x₀ ≤ x → x ≤ x₁ → y₀ ≤ high → y₁ ≤ high → line x₀ y₀ x₁ y₁ x ≤ (x₁ - x₀) * high
line_below x₀ y₀ x₁ y₁ x high a b c d =
    let p = mul-le-mul_left (x₁ - x) c in
    let q = mul-le-mul_left (x - x₀) d in
    rw (widths x₀ x x₁ a b) (omega arith)

-- Where its ends rise, it never falls.
pub line_rises : (x₀ y₀ x₁ y₁ x z : ℕ) → y₀ ≤ y₁ → x₀ ≤ x → x ≤ z → z ≤ x₁ → line x₀ y₀ x₁ y₁ x ≤ line x₀ y₀ x₁ y₁ z
line_rises x₀ y₀ x₁ y₁ x z h a b c =
    let p = mul-le-mul_left (z - x) h in
    rw (widths x z x₁ b c, widths x₀ x z a b) (omega arith)

-- A line whose two points are no lower is nowhere lower.
pub line_mono : (x₀ y₀ x₁ y₁ z₀ z₁ x : ℕ) → y₀ ≤ z₀ → y₁ ≤ z₁ → line x₀ y₀ x₁ y₁ x ≤ line x₀ z₀ x₁ z₁ x
line_mono x₀ y₀ x₁ y₁ z₀ z₁ x h k =
    let p = mul-le-mul_left (x₁ - x) h in
    let q = mul-le-mul_left (x - x₀) k in
    omega arith
