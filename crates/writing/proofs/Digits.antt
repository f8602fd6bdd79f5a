-- A number's digits: how many there are, and how a part is filled with them.
-- Assumes nothing.
use Prim.Native.Nat.{ℕ, zero, suc, ◌+◌, ◌-◌, ◌*◌, ◌/◌, ◌%◌, ◌^◌, ◌≤◌, ◌<◌}
use mathlib.Core.Path.{◌≡◌, sym, ◌∙◌, ap}
use mathlib.Core.List.{List, [], ◌∷◌, ◌++◌, append_assoc, append-nil}
use mathlib.Core.Logic.{◌⊎◌, inl, inr, ⊎_elim}
use native.Mathlib.Nat.{pow-suc, one-le-pow, le-div_iff_mul-le}
use native.Mathlib.Omega.{arith}
use lib.ListN.{length, take, drop, set, length-append, length-set}
use lib.Seq.{length-take-le, take_all, drop-length, set_split, drop_at}
use Rattle.laws.proofs.Order.{lt_or_le}
use Rattle.text.specs.Numbers.{digit_zero, decimal_of}
use Rattle.text.proofs.Decimal.{tenth_below, one_digit, last_digit}
use Rattle.writing.specs.Writing.{put_length, buffer_of}
use Rattle.writing.proofs.Writing.{pasted_start, granted_length, granted_buffer}

-- one digit more than a tenth of the number has
one_more : (n : ℕ) → 10 ≤ n → length (decimal_of n) ≡ length (decimal_of (n / 10)) + 1
one_more n h = rw (last_digit n h) (length-append (decimal_of (n / 10)) ((digit_zero + n % 10) ∷ []))

-- every number has a digit
pub some_digit : (n : ℕ) → 1 ≤ length (decimal_of n)
some_digit n = ⊎_elim (λ (l : n < 10). rw (one_digit n l) (omega arith)) (λ (m : 10 ≤ n). let e = one_more n m in omega arith) (lt_or_le n 10)

-- a number below 10 ^ suc j has at most suc j digits
pub few_digits_lem : (j n : ℕ) → n < 10 ^ suc j → length (decimal_of n) ≤ suc j
few_digits_lem zero n h = rw (one_digit n h) (omega arith)
few_digits_lem (suc j) n h =
    ⊎_elim (λ (l : n < 10). rw (one_digit n l) (omega arith))
    (λ (m : 10 ≤ n).
    let f = few_digits_lem j (n / 10) (tenth_below n j h) in
    let e = one_more n m in
    omega arith)
    (lt_or_le n 10)

-- The digits of a number of 64 bits are at most 20.
pub word_digits : (n : ℕ) → n < 2 ^ 64 → length (decimal_of n) ≤ 20
word_digits n h = few_digits_lem 19 n (omega arith)

-- a number that is 10 ^ j or more has more than j digits
many_digits : (j n : ℕ) → 10 ^ j ≤ n → suc j ≤ length (decimal_of n)
many_digits zero n h = some_digit n
many_digits (suc j) n h =
    let tens : 10 ^ j * 10 ≤ n = rw (pow-suc 10 j) at h in
    let one = one-le-pow j 10 (omega arith) in
    let f = many_digits j (n / 10) ((le-div_iff_mul-le {k = 10} {x = 10 ^ j} {y = n} (omega arith)).1 tens) in
    let e = one_more n (omega arith) in
    omega arith

-- a number between two powers of ten has as many digits as the power tells
pub power_digits : (k n : ℕ) → 10 ^ k ≤ n → n < 10 * 10 ^ k → length (decimal_of n) ≡ k + 1
power_digits k n h g =
    let most = few_digits_lem k n (rw (pow-suc 10 k) (omega arith)) in
    let least = many_digits k n h in
    omega arith

-- a number below ten has one digit
pub length_one : (n : ℕ) → n < 10 → length (decimal_of n) ≡ 1
length_one n h = ap length (one_digit n h)

-- in a part that is filled with the digits of n from the last on, so many places are left for those of rest
pub record Spelled (n : ℕ) (d : List ℕ) (rest left : ℕ) : Type 0 where
  pub within : left ≤ length d
  pub place : 1 ≤ left → length (decimal_of rest) ≡ left
  pub holds : take left (decimal_of rest) ++ drop left d ≡ decimal_of n

pub spelled_none : {d : List ℕ} {n : ℕ} → length d ≡ length (decimal_of n) → Spelled n d n (length d)
spelled_none {d} {n} e =
    record {
      within = omega arith;
      place = λ h. sym e;
      holds = rw (drop-length d, append-nil (take (length d) (decimal_of n))) (take_all (length d) (decimal_of n) (omega arith));
    }

module _ {n : ℕ} {d : List ℕ} {rest left : ℕ} (p : Spelled n d rest left) (some : 0 < left) where
  -- the last of them gets the last digit, before what stands behind it,
  stored : (b : ℕ) → drop (left - 1) (set d (left - 1) b) ≡ (b ∷ []) ++ drop left d
  stored b =
      let w = p.within in
      let e : suc (left - 1) ≡ left = omega arith in
      rw (set_split d (left - 1) b (omega arith), drop_at (take (left - 1) d) (b ∷ drop (suc (left - 1)) d) (left - 1) (length-take-le (left - 1) d (omega arith)), e)

  -- and where there are several the others are those of a tenth.
  last_of : (left ≡ 1) × (rest < 10) ⊎ (2 ≤ left) × (10 ≤ rest)
  last_of =
      let s = p.place (omega arith) in
      ⊎_elim
      (λ (l : rest < 10). let o = length_one rest l in inl (omega arith, l))
      (λ (m : 10 ≤ rest). let o = one_more rest m in let t = some_digit (rest / 10) in inr (omega arith, m))
      (lt_or_le rest 10)

  pub spelled_next : {b : ℕ} → b ≡ digit_zero + rest % 10 → Spelled n (set d (left - 1) b) (rest / 10) (left - 1)
  spelled_next {b} e =
      let w = p.within in
      let s = p.place (omega arith) in
      let l = length-set d (left - 1) b in
      record {
        within = omega arith;
        place = λ h.
            ⊎_elim
            (λ (o : (left ≡ 1) × (rest < 10)). absurd (omega arith))
            (λ (m : (2 ≤ left) × (10 ≤ rest)). let t = one_more rest m.1 in omega arith)
            last_of;
        holds =
            rw (stored b)
            (⊎_elim
            (λ (o : (left ≡ 1) × (rest < 10)).
            let none : left - 1 ≡ 0 = omega arith in
            let digit : rest % 10 ≡ rest = omega arith in
            rw (none, e, digit) (rw (take_all left (decimal_of rest) (omega arith), one_digit rest o.1) at p.holds))
            (λ (m : (2 ≤ left) × (10 ≤ rest)).
            let t = one_more rest m.1 in
            rw (take_all (left - 1) (decimal_of (rest / 10)) (omega arith), ← append_assoc (decimal_of (rest / 10)) (b ∷ []) (drop left d), e, ← last_digit rest m.1)
            (rw (take_all left (decimal_of rest) (omega arith)) at p.holds))
            last_of);
      }

pub spelled_all : {n rest : ℕ} {d : List ℕ} → Spelled n d rest 0 → d ≡ decimal_of n
spelled_all p = p.holds

-- a number of one digit is stored in a buffer that has a place
module _ {n place : ℕ} (d : List ℕ) (h : n < 10) (g : place < length d) where
  one_fits : length (decimal_of n) ≤ length d
  one_fits = rw (one_digit n h) (omega arith)

  pub digit_length : 1 ≡ put_length d (decimal_of n)
  digit_length = sym (ap length (one_digit n h)) ∙ granted_length d (decimal_of n) one_fits

  pub digit_buffer : {b : ℕ} → b ≡ digit_zero + n → set d 0 b ≡ buffer_of d (decimal_of n)
  digit_buffer {b} e =
      rw (set_split d 0 b (omega arith), e)
      (rw (one_digit n h) (pasted_start d ((digit_zero + n) ∷ [])) ∙ granted_buffer d (decimal_of n) one_fits)

-- what is answered for one digit, as a buffer with a place has it
pub one_put : (d : List ℕ) (n : ℕ) → n < 10 → 0 < length d → 1 ≡ put_length d (decimal_of n)
one_put d n h g = digit_length d h g
