-- A number's digits read.
-- Assumes nothing.
use Rattle.std.specs.Prelude.{Option, Some, None, ℕ}
use Prim.Native.Nat.{ℕ, ◌+◌, ◌-◌, ◌*◌, ◌^◌, ◌≤◌, ◌<◌}
use mathlib.Core.Path.{◌≡◌, refl}
use mathlib.Core.Bool.{true, false}
use mathlib.Core.List.{List}
use native.Mathlib.Nat.{pow-suc, pow-le-pow_right}
use native.Mathlib.Numerals.{add-one}
use native.Mathlib.Omega.{arith}
use lib.Dec.{leb, ltb, lit<}
use lib.ListN.{length, get_or, drop, drop_of_length-le}
use lib.Seq.{drop-cons}
use borrow.Author.Tests.{le-leb, lt-leb, leb-true, lt-ltb, eq-eqb, ne_eqb}
use Rattle.std.specs.Char.{is_ascii_digit}
use Rattle.laws.proofs.And.{and_right, and_false}
use Rattle.text.specs.Numbers.{most_digits, digit_zero, digit_nine, digits_from, numeral_of}

-- the first i bytes of s are digits and make the number v
pub record Made (s : List ℕ) (v i : ℕ) : Type 0 where
  pub within : i ≤ length s
  pub small : v < 10 ^ i
  pub rest : digits_from (drop i s) v ≡ digits_from s 0

-- a number of fewer than fourteen digits has room for one more
pub room : (s : List ℕ) {v i : ℕ} → Made s v i → i < length s → length s ≤ most_digits → v < 10 ^ 13
room s {v} {i} m h l = let p = pow-le-pow_right {n = 10} (omega arith) {i = i} {j = 13} (omega arith) in let q = m.small in omega arith

module _ {s : List ℕ} where
  pub made_none : Made s 0 0
  made_none = record { within = omega arith; small = lit< tt; rest = refl }

  pub made_not : {v i : ℕ} → Made s v i → i < length s → is_ascii_digit (get_or s i 0) ≡ false → None ≡ digits_from s 0
  unfolding digits_from
  made_not {v} {i} m h n = simp (drop-cons s i 0 h, n) at m.rest

  pub made_next : {v i d : ℕ} → Made s v i → i < length s → is_ascii_digit (get_or s i 0) ≡ true → d ≡ get_or s i 0 - digit_zero → Made s (v * 10 + d) (i + 1)
  unfolding digits_from
  made_next {v} {i} {d} m h t e =
      let q = m.small in
      let high = leb-true (get_or s i 0) digit_nine (and_right (leb digit_zero (get_or s i 0)) (leb (get_or s i 0) digit_nine) t) in
      record {
        within = omega arith;
        small = rw (add-one i, pow-suc 10 i) (omega arith);
        rest = rw (add-one i, e) (simp (drop-cons s i 0 h, t) at m.rest);
      }

  pub made_all : {v i : ℕ} → Made s v i → length s ≤ i → Some v ≡ digits_from s 0
  unfolding digits_from
  made_all m h = rw (drop_of_length-le s h) at m.rest

-- which of its tests decides a number
pub number_long : (s : List ℕ) → most_digits < length s → None ≡ numeral_of s
unfolding numeral_of
number_long s l = rw (le-leb 1 (length s) (omega arith), lt-leb (length s) most_digits l)

pub number_empty : (s : List ℕ) → length s < 1 → None ≡ numeral_of s
unfolding numeral_of
number_empty s h = rw (lt-leb 1 (length s) h)

pub number_led : (s : List ℕ) → length s ≤ most_digits → 2 ≤ length s → get_or s 0 0 ≡ digit_zero → None ≡ numeral_of s
unfolding numeral_of
number_led s l h e = rw (le-leb 1 (length s) (omega arith), le-leb (length s) most_digits l, lt-ltb 1 (length s) (omega arith), eq-eqb (get_or s 0 0) digit_zero e)

pub number_one : (s : List ℕ) {n : Option ℕ} → length s ≡ 1 → n ≡ digits_from s 0 → n ≡ numeral_of s
unfolding numeral_of
number_one s h d = rw (h) d

pub number_read : (s : List ℕ) {n : Option ℕ} → length s ≤ most_digits → 1 ≤ length s → (get_or s 0 0 ≡ digit_zero → ⊥) → n ≡ digits_from s 0 → n ≡ numeral_of s
unfolding numeral_of
number_read s l h ne d = rw (le-leb 1 (length s) h, le-leb (length s) most_digits l, ne_eqb (get_or s 0 0) digit_zero ne, and_false (ltb 1 (length s))) d
