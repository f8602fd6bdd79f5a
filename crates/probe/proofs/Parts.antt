-- The answer to digits * 2 ^ twos / 2 ^ 149, where the power of two is large, where it is small, and between.
-- Assumes nothing.
use Rattle.std.specs.Prelude.{Result, Ok, Err}
use Rattle.units.specs.declared.Rate.{Rate}
use Rattle.refusal.specs.declared.Refusal.{Refusal}
use mathlib.Core.Path.{◌≡◌, sym, ap, ◌∙◌}
use Prim.Native.Nat.{ℕ, ◌+◌, ◌-◌, ◌*◌, ◌%◌, ◌^◌, ◌≤◌, ◌<◌}
use native.Mathlib.Nat.{le_of_lt, le_trans, le_of_eq, mul_assoc, mul_comm, mul_left_comm, mul-one, mul-pos, mul-le-mul, mul-le-mul_left, le-mul_of_pos_right}
use native.Mathlib.Omega.{arith}
use lib.Dec.{lit<, lit≤}
use lib.Pow.{pow-add, pow_mono, pow_pos, shl_exact}
use borrow.Author.Tests.{le-leb, lt-leb}
use mir.Syntax.{w64}
use mir.Val.{Fits}
use Rattle.refusal.specs.declared.Refusal.TheVariants.{ReadingTooFast}
use Rattle.units.specs.Limits.{most_rate}
use Rattle.probe.specs.declared.Scale.{Scale}
use Rattle.probe.specs.Readings.{rounded, within_most}
use Rattle.probe.specs.Inner.{Parts, parts_answer}
use Rattle.probe.proofs.Rounding.{rounded_rises, rounded_same, rounded_whole, rounded_half}

-- a unit of length that is a hundredth of an inch or longer, as a fraction of small numbers
pub record Scaled (hundredths units : ℕ) : Type 0 where
  pub some : 0 < units
  pub long : units ≤ hundredths
  pub small : hundredths ≤ 1_000

pub scaled : (s : Scale) → Scaled s.hundredths s.units
scaled s = record { some = s.some; long = s.long; small = s.small }

pub granted_within : (h : ℕ) → h ≤ most_rate → Ok (record { 0 = h }) ≡ within_most h
unfolding within_most
granted_within h l = simp (le-leb _ _ l)

pub refused_past : (h : ℕ) → most_rate < h → Err ReadingTooFast ≡ within_most h
unfolding within_most
refused_past h l = simp (lt-leb _ _ l)

-- with 2 ^ 149 for w
large : (q p h w u : ℕ) → most_rate + 1 ≤ q → w ≤ p → u ≤ h → (most_rate + 1) * (w * u) ≤ q * p * h * 1
large q p h w u a b c =
    le_trans (mul-le-mul a (mul-le-mul b c)) (le_of_eq (sym (mul-one (q * p * h) ∙ mul_assoc q p h)))

pub too_fast : {h u q k : ℕ} → Scaled h u → Parts q k → 149 ≤ k → Err ReadingTooFast ≡ parts_answer h u q k
unfolding parts_answer
too_fast {h} {u} {q} {k} s p l =
    let lead : 2 ^ 23 ≤ q = p.leads (omega arith) in
    let past : most_rate + 1 ≤ rounded (q * 2 ^ k * h) (2 ^ 149 * u) =
    rw (rounded_whole (most_rate + 1)) at
    (rounded_rises (most_rate + 1) 1 (q * 2 ^ k * h) (2 ^ 149 * u) (lit< tt) (mul-pos (pow_pos 149) s.some)
    (large q (2 ^ k) h (2 ^ 149) u (le_trans (lit≤ tt) lead) (pow_mono l) s.long)) in
    refused_past (rounded (q * 2 ^ k * h) (2 ^ 149 * u)) past

small : (q p h t u : ℕ) → q < 2 ^ 24 → h ≤ 1_000 → 2 ^ 40 ≤ t → 0 < u → q * p * h * 2 ≤ p * t * u
small q p h t u a b c d =
    let product : q * h ≤ 2 ^ 24 * 1_000 = mul-le-mul (le_of_lt a) b in
    let few : q * h * 2 ≤ t = omega arith in
    le_trans (le_of_eq (simp (mul_assoc, mul_comm, mul_left_comm)))
    (le_trans (mul-le-mul_left p few) (le-mul_of_pos_right (p * t) d))

-- 2 ^ 149 in the two parts that halving cancels
split : (k : ℕ) → k < 149 → 2 ^ 149 ≡ 2 ^ k * 2 ^ (149 - k)
split k l = ap (λ (n : ℕ). 2 ^ n) (sym (whole k l)) ∙ pow-add 2 k (149 - k)
  where
    whole : (n : ℕ) → n < 149 → n + (149 - n) ≡ 149
    whole n h = omega arith

pub too_faint : {h u q k : ℕ} {r : Result Rate Refusal} → Scaled h u → Parts q k → k < 149 → 40 ≤ 149 - k → r ≡ within_most 0 → r ≡ parts_answer h u q k
unfolding parts_answer
too_faint {h} {u} {q} {k} {r} s p l f answer =
    let half : q * 2 ^ k * h * 2 ≤ 2 ^ 149 * u =
    rw (split k l) (small q (2 ^ k) h (2 ^ (149 - k)) u p.short s.small (pow_mono f) s.some) in
    answer ∙ ap within_most (sym (rounded_half (q * 2 ^ k * h) (2 ^ 149 * u) (mul-pos (pow_pos 149) s.some) half))

pub product_fits : {h u q k : ℕ} → Scaled h u → Parts q k → Fits w64 (q * h)
product_fits {h} {u} {q} {k} s p =
    let product : q * h ≤ 2 ^ 24 * 1_000 = mul-le-mul (le_of_lt p.short) s.small in
    omega arith

-- few halvings of a small unit lose no bit
pub shifted : {h u j : ℕ} → Scaled h u → j < 40 → u * 2 ^ j % 2 ^ 64 ≡ u * 2 ^ j
shifted {h} {u} {j} s l =
    let few : u < 2 ^ 10 = omega (arith, s.long, s.small) in
    shl_exact 10 j 64 few (omega arith)

pub shifted_positive : {h u j : ℕ} → Scaled h u → j < 40 → 0 < u * 2 ^ j % 2 ^ 64
shifted_positive {h} {u} {j} s l = rw (shifted s l) (mul-pos s.some (pow_pos j))

-- between, the product over the shifted unit is rounded and compared
pub counted : {h u q k w n : ℕ} {r : Result Rate Refusal} → Scaled h u → Parts q k → k < 149 → 149 - k < 40 → w ≡ q
    → n ≡ rounded (w * h) (u * 2 ^ (149 - k) % 2 ^ 64) → r ≡ within_most n → r ≡ parts_answer h u q k
unfolding parts_answer
counted {h} {u} {q} {k} {w} {n} {r} s p l f wide number answer =
    let j = 149 - k in
    let exact : rounded (q * h) (u * 2 ^ j) ≡ rounded (q * 2 ^ k * h) (2 ^ 149 * u) =
    rounded_same (q * h) (u * 2 ^ j) (q * 2 ^ k * h) (2 ^ 149 * u) (mul-pos s.some (pow_pos j)) (mul-pos (pow_pos 149) s.some)
    (rw (split k l) (cancelled q h u (2 ^ k) (2 ^ j))) in
    answer ∙ ap within_most (number ∙ rw (wide, shifted s f) exact)
  where
    cancelled : (a b c x y : ℕ) → a * b * (x * y * c) ≡ a * x * b * (c * y)
    cancelled a b c x y = simp (mul_assoc, mul_comm, mul_left_comm)
