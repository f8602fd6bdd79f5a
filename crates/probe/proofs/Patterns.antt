-- The answer to each pattern of 32 bits: below zero, minus zero, not finite, with an exponent of 0 and with one above it.
-- Assumes nothing.
use Rattle.std.specs.Prelude.{Result, Ok, Err}
use Rattle.units.specs.declared.Rate.{Rate}
use Rattle.refusal.specs.declared.Refusal.{Refusal}
use mathlib.Core.Path.{◌≡◌, refl, sym, ap, ◌∙◌, subst}
use mathlib.Core.Bool.{Bool, true, false, not, true≢false}
use mathlib.Core.Logic.{inl, inr}
use Prim.Native.Nat.{ℕ, zero, suc, ◌+◌, ◌-◌, ◌*◌, ◌/◌, ◌%◌, ◌^◌, ◌≤◌, ◌<◌, zero-le}
use native.Mathlib.Nat.{le_of_lt, lt_irrefl, zero-mul, mul-pos, mod-eq_of_lt, eq-or-lt_of_le, le_of_suc-le-suc}
use native.Mathlib.Numerals.{unary_clauses}
use native.Mathlib.Omega.{arith}
use lib.Dec.{T, eqb-suc-zero, lit<}
use lib.Pow.{pow_pos}
use lib.Ieee.{Float, nan, inf, fin, binary32, ne, fits, is_nan, odd, of_fields, of_bits, to_bits}
use lib.Ieee.Bits.{of_bits-to_bits}
use lib.Ieee.Compare.{differs_from_itself, nan_differs}
use lib.Ieee.Exact.{odd_sign}
use denote.Floats.{passes}
use borrow.Author.Tests.{lt-ltb, le-leb, lt-leb, ne_eqb}
use mir.Syntax.{w32}
use mir.Val.{Fits}
use Rattle.refusal.specs.declared.Refusal.TheVariants.{ReadingNotARate}
use Rattle.probe.specs.Readings.{answer_in}
use Rattle.probe.specs.Inner.{parts_answer}
use Rattle.probe.proofs.Rounding.{rounded_half}
use Rattle.probe.proofs.Parts.{Scaled, granted_within}
use Rattle.probe.proofs.Values.{value_decides}

-- digits and a power of two, after each sign
plus : (h u q k : ℕ) → 0 < u → answer_in h u (odd 24 false q k 149) ≡ parts_answer h u q k
unfolding parts_answer
plus h u q k U = value_decides h u (odd 24 false q k 149) false (q * 2 ^ k) (2 ^ 149) U (pow_pos 149) (odd_sign 24 false q k 149)

minus : (h u q k : ℕ) → 0 < u → 0 < q → answer_in h u (odd 24 true q k 149) ≡ Err ReadingNotARate
minus h u q k U Q =
    value_decides h u (odd 24 true q k 149) true (q * 2 ^ k) (2 ^ 149) U (pow_pos 149) (odd_sign 24 true q k 149)
    ∙ simp (lt-ltb 0 (q * 2 ^ k) (mul-pos Q (pow_pos k)))

-- the fields of a pattern: the exponent's is 0, or below 255 and so with a leading digit, or 255
at_none : (s : Bool) (t : ℕ) → of_fields binary32 s 0 t ≡ odd 24 s t 0 149
unfolding of_fields
at_none s t = refl

at_some : (s : Bool) (x t : ℕ) → (x ≡ 0 → ⊥) → x < 255 → of_fields binary32 s x t ≡ odd 24 s (2 ^ 23 + t) (x - 1) 149
unfolding of_fields
at_some s zero t n l = absurd (n refl)
at_some s (suc x) t n l = simp (unary_clauses, ne_eqb (suc x) 255 (λ e. lt_irrefl 255 (subst (λ (k : ℕ). k < 255) e l)))

at_ones : (h u : ℕ) (s : Bool) (t : ℕ) → answer_in h u (of_fields binary32 s 255 t) ≡ Err ReadingNotARate
unfolding of_fields answer_in
at_ones h u s zero = refl
at_ones h u s (suc t) = simp (eqb-suc-zero t)

-- with a minus sign, whatever is not all zeros is refused
fields_minus : (h u x t : ℕ) → 0 < u → x < 256 → (x ≡ 0 → 0 < t) → answer_in h u (of_fields binary32 true x t) ≡ Err ReadingNotARate
fields_minus h u zero t U X some = rw (at_none true t) (minus h u t 0 U (some refl))
fields_minus h u (suc x) t U X some = elim (eq-or-lt_of_le (le_of_suc-le-suc X)) [
  | inl e ↦ rw e (at_ones h u true t)
  | inr l ↦ rw (at_some true (suc x) t (omega arith) l) (minus h u (2 ^ 23 + t) (suc x - 1) U (omega arith))
]

bits_minus : (b : ℕ) → 2 ^ 31 ≤ b → of_bits binary32 b ≡ of_fields binary32 true (b % 2 ^ 31 / 2 ^ 23) (b % 2 ^ 23)
unfolding of_bits
bits_minus b l = simp (le-leb _ _ l)

bits_plus : (b : ℕ) → b < 2 ^ 31 → of_bits binary32 b ≡ of_fields binary32 false (b / 2 ^ 23) (b % 2 ^ 23)
unfolding of_bits
bits_plus b l = simp (lt-leb _ _ l, mod-eq_of_lt l)

pub below_zero : {h u b : ℕ} → Scaled h u → Fits w32 b → 2 ^ 31 < b → Err ReadingNotARate ≡ answer_in h u (of_bits binary32 b)
below_zero {h} {u} {b} s f l =
    rw (bits_minus b (le_of_lt l))
    (sym (fields_minus h u (b % 2 ^ 31 / 2 ^ 23) (b % 2 ^ 23) s.some (exponent b) (digits b f.fits l)))
  where
    exponent : (n : ℕ) → n % 2 ^ 31 / 2 ^ 23 < 256
    exponent n = omega arith

    digits : (n : ℕ) → n < 2 ^ 32 → 2 ^ 31 < n → n % 2 ^ 31 / 2 ^ 23 ≡ 0 → 0 < n % 2 ^ 23
    digits n a c e = omega arith

pub minus_zero : {h u b : ℕ} → Scaled h u → b ≡ 2 ^ 31 → Ok (record { 0 = 0 }) ≡ answer_in h u (of_bits binary32 b)
unfolding of_bits answer_in
minus_zero {h} {u} {b} s e = rw e (rw (zero-mul h, rounded_half 0 (1 * u) (mul-pos (lit< tt) s.some) zero-le) (granted_within 0 zero-le))

pub not_finite : {h u b : ℕ} → Scaled h u → b ≤ 2 ^ 31 → (b ≡ 2 ^ 31 → ⊥) → 0x7f80_0000 ≤ b
    → Err ReadingNotARate ≡ answer_in h u (of_bits binary32 b)
not_finite {h} {u} {b} s l n f =
    let plus-sign : b < 2 ^ 31 = omega arith in
    let all_ones : b / 2 ^ 23 ≡ 255 = omega arith in
    rw (bits_plus b plus-sign, all_ones) (sym (at_ones h u false (b % 2 ^ 23)))

pub no_exponent : {h u b : ℕ} {r : Result Rate Refusal} → Scaled h u → b < 0x7f80_0000 → b / 2 ^ 23 ≡ 0
    → r ≡ parts_answer h u (b % 2 ^ 23) 0 → r ≡ answer_in h u (of_bits binary32 b)
no_exponent {h} {u} {b} s l z e =
    let plus-sign : b < 2 ^ 31 = omega arith in
    e ∙ rw (bits_plus b plus-sign, z, at_none false (b % 2 ^ 23)) (sym (plus h u (b % 2 ^ 23) 0 s.some))

pub an_exponent : {h u b : ℕ} {r : Result Rate Refusal} → Scaled h u → b < 0x7f80_0000 → (b / 2 ^ 23 ≡ 0 → ⊥)
    → r ≡ parts_answer h u (2 ^ 23 + b % 2 ^ 23) (b / 2 ^ 23 - 1) → r ≡ answer_in h u (of_bits binary32 b)
an_exponent {h} {u} {b} {r} s l n e =
    let plus-sign : b < 2 ^ 31 = omega arith in
    let below-ones : b / 2 ^ 23 < 255 = omega arith in
    e ∙ rw (bits_plus b plus-sign, at_some false (b / 2 ^ 23) (b % 2 ^ 23) n below-ones) (sym (plus h u (2 ^ 23 + b % 2 ^ 23) (b / 2 ^ 23 - 1) s.some))

-- what differs from itself is not a number, and whatever does not has bits that stand for it
pub nan_refused : (h u : ℕ) (x : Float) → ne x x ≡ true → Err ReadingNotARate ≡ answer_in h u x
unfolding answer_in
nan_refused h u x e = rw (differs_from_itself x (passes _ e)) refl

pub a_number : (x : Float) → ne x x ≡ false → T (not (is_nan x))
unfolding is_nan
a_number nan e = absurd (true≢false (sym nan_differs ∙ e))
a_number (inf s) e = tt
a_number (fin s m k) e = tt

pub bits_stand : (h u : ℕ) (x : Float) (r : Result Rate Refusal) → fits binary32 x ≡ true
    → r ≡ answer_in h u (of_bits binary32 (to_bits binary32 x)) → r ≡ answer_in h u x
bits_stand h u x r f e = e ∙ ap (answer_in h u) (of_bits-to_bits binary32 x (passes _ f))
