-- All that the rest of the crate knows of `rounded`: it is the nearest whole number, an exact half going down, and the only one; so a
-- larger fraction never gives a smaller number, equal fractions give the same one, a whole number gives itself, and what is at most a
-- half gives 0. For its code: which test leads where, and that one more fits.
-- Assumes nothing.
use mathlib.Core.Path.{◌≡◌, sym, ◌∙◌, subst}
use mathlib.Core.Logic.{inl, inr}
use Prim.Native.Nat.{ℕ, ◌+◌, ◌-◌, ◌*◌, ◌/◌, ◌%◌, ◌≤◌, ◌<◌}
use native.Mathlib.Nat.{le_antisymm, le_of_eq, le_refl, one-mul, mul_assoc, mul_right_comm, lt_of_mul-lt-mul_right, add-mul, mul-le-mul_right, mul-lt-mul_of_pos_right, le-mul_of_pos_right, lt_of_le_of_lt, mod-lt, div-add-mod'}
use native.Mathlib.Omega.{arith}
use lib.Dec.{lit<}
use borrow.Author.Tests.{lt-ltb, le-ltb}
use mir.Syntax.{w64}
use mir.Val.{Fits}
use Rattle.laws.proofs.Order.{lt_or_le}
use Rattle.probe.specs.Readings.{rounded}
use Rattle.probe.specs.Promises.{Nearest}

-- the definition, by the test that leads there
pub goes_up : (n d : ℕ) → d - n % d < n % d → n / d + 1 ≡ rounded n d
unfolding rounded
goes_up n d t = simp (lt-ltb _ _ t)

pub stays_down : (n d : ℕ) → n % d ≤ d - n % d → n / d ≡ rounded n d
unfolding rounded
stays_down n d t = simp (le-ltb _ _ t)

one_more : (q d : ℕ) → (q + 1) * d ≡ q * d + d
one_more q d = simp (add-mul, one-mul)

twice_and_one : (r d : ℕ) → (r * 2 + 1) * d ≡ r * d * 2 + d
twice_and_one r d = simp (one_more, mul_right_comm r 2 d)

-- with q for n / d and s for n % d
lower : (n d q s : ℕ) → q * d + s ≡ n → s < d → s ≤ d - s → Nearest n d q
lower n d q s e l t = rw (mul_right_comm q 2 d, twice_and_one q d) (omega arith, omega arith)

upper : (n d q s : ℕ) → q * d + s ≡ n → s < d → d - s < s → Nearest n d (q + 1)
upper n d q s e l t = rw (mul_right_comm (q + 1) 2 d, twice_and_one (q + 1) d, one_more q d) (omega arith, omega arith)

pub rounded_nearest : (n d : ℕ) → 0 < d → Nearest n d (rounded n d)
rounded_nearest n d D = elim (lt_or_le (d - n % d) (n % d)) [
  | inl t ↦ subst (Nearest n d) (goes_up n d t) (upper n d (n / d) (n % d) (div-add-mod' n d) (mod-lt n D) t)
  | inr t ↦ subst (Nearest n d) (stays_down n d t) (lower n d (n / d) (n % d) (div-add-mod' n d) (mod-lt n D) t)
]

-- the nearest numbers of two fractions in order are in order
nearest_rises : (a b r c d s : ℕ) → 0 < b → 0 < d → a * d ≤ c * b → Nearest a b r → Nearest c d s → r ≤ s
nearest_rises a b r c d s B D h p q =
    let low : r * 2 * b * d < (a * 2 + b) * d = mul-lt-mul_of_pos_right p.0 D in
    let high : c * 2 * b ≤ (s * 2 + 1) * d * b = mul-le-mul_right b q.1 in
    let below : r * (b * d) < (s + 1) * (b * d) =
    omega (arith, over r b d, add-mul (a * 2) b d, mul_right_comm a 2 d, mul_right_comm c 2 b, under s b d, one_more s (b * d)) in
    let less : r < s + 1 = lt_of_mul-lt-mul_right (b * d) below in
    omega arith
  where
    over : (k x y : ℕ) → k * 2 * x * y ≡ k * (x * y) * 2
    over k x y = mul_assoc (k * 2) x y ∙ mul_right_comm k 2 (x * y)

    under : (k x y : ℕ) → (k * 2 + 1) * y * x ≡ k * (x * y) * 2 + x * y
    under k x y = mul_right_comm (k * 2 + 1) y x ∙ mul_assoc (k * 2 + 1) x y ∙ twice_and_one k (x * y)

pub rounded_only : (n d r : ℕ) → 0 < d → Nearest n d r → r ≡ rounded n d
rounded_only n d r D p =
    let q = rounded_nearest n d D in
    le_antisymm (nearest_rises n d r n d (rounded n d) D D (le_refl (n * d)) p q) (nearest_rises n d (rounded n d) n d r D D (le_refl (n * d)) q p)

pub rounded_rises : (a b c d : ℕ) → 0 < b → 0 < d → a * d ≤ c * b → rounded a b ≤ rounded c d
rounded_rises a b c d B D h =
    nearest_rises a b (rounded a b) c d (rounded c d) B D h (rounded_nearest a b B) (rounded_nearest c d D)

pub rounded_same : (a b c d : ℕ) → 0 < b → 0 < d → a * d ≡ c * b → rounded a b ≡ rounded c d
rounded_same a b c d B D e =
    le_antisymm (rounded_rises a b c d B D (le_of_eq e)) (rounded_rises c d a b D B (le_of_eq (sym e)))

pub rounded_whole : (n : ℕ) → rounded n 1 ≡ n
rounded_whole n = sym (rounded_only n 1 n (lit< tt) (omega arith, omega arith))

pub rounded_half : (n d : ℕ) → 0 < d → n * 2 ≤ d → rounded n d ≡ 0
rounded_half n d D h = sym (rounded_only n d 0 D (omega arith, omega arith))

-- where there is a rest, one more than the quotient is within what was divided
pub next_fits : {n d : ℕ} → Fits w64 n → 0 < d → 0 < n % d → Fits w64 (n / d + 1)
next_fits {n} {d} f D some =
    let whole : n / d * d + n % d ≡ n = div-add-mod' n d in
    let quotient : n / d ≤ n / d * d = le-mul_of_pos_right (n / d) D in
    record { fits = lt_of_le_of_lt (omega arith) f.fits }
