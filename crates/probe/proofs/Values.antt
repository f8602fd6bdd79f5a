-- The answer to a float goes by its exact value alone, with whatever fraction a / c that value is written.
-- Assumes nothing.
use Rattle.std.specs.Prelude.{Err}
use mathlib.Core.Path.{◌≡◌, refl, sym, ap, ◌∙◌, subst}
use mathlib.Core.Bool.{Bool, cond, ◌&&◌}
use Prim.Native.Nat.{ℕ, zero, suc, ◌*◌, ◌<◌}
use native.Mathlib.Nat.{zero-lt-suc, lt_irrefl, zero-mul, mul-pos, mul-mul-mul_comm}
use lib.Dec.{ltb}
use lib.Ieee.{Float, nan, inf, fin, up, down}
use lib.Ieee.Exact.{HasValue}
use lib.Ieee.Fits.{up_pos, down_pos}
use borrow.Author.Tests.{lt-ltb}
use Rattle.refusal.specs.declared.Refusal.TheVariants.{ReadingNotARate}
use Rattle.probe.specs.Readings.{rounded, within_most, answer_in}
use Rattle.probe.proofs.Rounding.{rounded_same}

-- of two equal fractions, both are 0 or neither
none : (u c a d : ℕ) → 0 * u * c ≡ suc a * d → 0 < d → ⊥
none u c a d e D =
    lt_irrefl 0 (subst (λ (n : ℕ). 0 < n) (sym e ∙ ap (λ (n : ℕ). n * c) (zero-mul u) ∙ zero-mul c) (mul-pos (zero-lt-suc a) D))

both_some : (m u c a d : ℕ) → m * u * c ≡ a * d → 0 < u → 0 < c → 0 < d → ltb 0 m ≡ ltb 0 a
both_some zero u c zero d e U C D = refl
both_some zero u c (suc a) d e U C D = absurd (none u c a d e D)
both_some (suc m) u c zero d e U C D =
    absurd (lt_irrefl 0 (subst (λ (n : ℕ). 0 < n) (e ∙ zero-mul d) (mul-pos (mul-pos (zero-lt-suc m) U) C)))
both_some (suc m) u c (suc a) d e U C D = lt-ltb 0 (suc m) (zero-lt-suc m) ∙ sym (lt-ltb 0 (suc a) (zero-lt-suc a))

-- the same fractions, in hundredths
in_hundredths : (n a c d h u : ℕ) → n * c ≡ a * d → n * h * (c * u) ≡ a * h * (d * u)
in_hundredths n a c d h u e = mul-mul-mul_comm n h c u ∙ ap (λ (k : ℕ). k * (h * u)) e ∙ mul-mul-mul_comm a d h u

pub value_decides : (h u : ℕ) (x : Float) (s : Bool) (a c : ℕ) → 0 < u → 0 < c → HasValue x s a c
    → answer_in h u x ≡ cond (s && ltb 0 a) (Err ReadingNotARate) (within_most (rounded (a * h) (c * u)))
unfolding answer_in
value_decides h u nan s a c U C v = absurd v
value_decides h u (inf t) s a c U C v = absurd v
value_decides h u (fin t m e) s a c U C v =
    let sign : t ≡ s = v.0 in
    let digits : ltb 0 m ≡ ltb 0 a = both_some m (up e) c a (down e) v.1 (up_pos e) C (down_pos e) in
    let number : rounded (m * up e * h) (down e * u) ≡ rounded (a * h) (c * u) =
    rounded_same (m * up e * h) (down e * u) (a * h) (c * u) (mul-pos (down_pos e) U) (mul-pos C U)
    (in_hundredths (m * up e) a c (down e) h u v.1) in
    ap (λ (b : Bool). cond (b && ltb 0 m) (Err ReadingNotARate) (within_most (rounded (m * up e * h) (down e * u)))) sign
    ∙ ap (λ (b : Bool). cond (s && b) (Err ReadingNotARate) (within_most (rounded (m * up e * h) (down e * u)))) digits
    ∙ ap (λ (n : ℕ). cond (s && ltb 0 a) (Err ReadingNotARate) (within_most n)) number
