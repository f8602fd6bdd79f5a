-- A number's own digits: reading them gives the number back, and a text that reads as a number is its digits.
-- Assumes nothing.
use Rattle.std.specs.Prelude.{Some, None}
use Prim.Native.Nat.{ℕ, zero, suc, ◌+◌, ◌-◌, ◌*◌, ◌/◌, ◌%◌, ◌^◌, ◌≤◌, ◌<◌}
use mathlib.Core.Path.{◌≡◌, refl, sym, ◌∙◌, ap}
use mathlib.Core.Bool.{Bool, true, false, cond, ◌&&◌, not}
use mathlib.Core.List.{List, [], ◌∷◌, ◌++◌, append_assoc, append-nil}
use mathlib.Core.Logic.{⊎_elim}
use native.Mathlib.Nat.{zero-add, add-zero, pow-suc, pow-le-pow_right, div-lt_iff_lt-mul, div-add-mod', mod-lt, le-div_iff_mul-le}
use native.Mathlib.Omega.{arith}
use lib.Dec.{leb, ltb, lit<}
use lib.ListN.{length, get_or, length-append, get_or-append}
use borrow.Author.Tests.{le-leb, leb-true, lt-ltb, le-ltb, ltb-true, ne_eqb, not-true}
use Rattle.laws.proofs.And.{and_left, and_right, and_false}
use Rattle.laws.proofs.Order.{lt_or_le, never_both}
use Rattle.text.specs.Numbers.{most_digits, digit_zero, digit_nine, digits_from, leading_zero, numeral_of, decimal_from, decimal_of}
use Rattle.text.specs.Promises.{WrittenReadsBack}

-- one digit read behind a number
digit_read : (n : ℕ) (t : List ℕ) (v : ℕ) → n < 10 → digits_from ((digit_zero + n) ∷ t) v ≡ digits_from t (v * 10 + n)
unfolding digits_from
digit_read n t v h =
    let e : digit_zero + n - digit_zero ≡ n = omega arith in
    rw (le-leb digit_zero (digit_zero + n) (omega arith), le-leb (digit_zero + n) digit_nine (omega arith), e)

digit_first : (n : ℕ) (t : List ℕ) → n < 10 → digits_from ((digit_zero + n) ∷ t) 0 ≡ digits_from t n
digit_first n t h = digit_read n t 0 h ∙ ap (digits_from t) (zero-add n)

-- The rest of a number's digits is that of a number ten times smaller.
pub tenth_below : (n k : ℕ) → n < 10 ^ suc (suc k) → n / 10 < 10 ^ suc k
tenth_below n k h = (div-lt_iff_lt-mul {k = 10} {x = n} {y = 10 ^ suc k} (omega arith)).1 (rw (pow-suc 10 (suc k)) at h)

digits_read : (k n : ℕ) (t : List ℕ) → n < 10 ^ suc k → digits_from (decimal_from k n ++ t) 0 ≡ digits_from t n
unfolding decimal_from
digits_read zero n t h = digit_first n t h
digits_read (suc k) n t h = at (ltb n 10) refl (digits_read k (n / 10) ((digit_zero + n % 10) ∷ t) (tenth_below n k h))
  where
    at : (b : Bool) → ltb n 10 ≡ b → digits_from (decimal_from k (n / 10) ++ (digit_zero + n % 10) ∷ t) 0 ≡ digits_from ((digit_zero + n % 10) ∷ t) (n / 10) → digits_from (cond b ((digit_zero + n) ∷ []) (decimal_from k (n / 10) ++ ((digit_zero + n % 10) ∷ [])) ++ t) 0 ≡ digits_from t n
    at true e more = digit_first n t (ltb-true n 10 e)
    at false e more =
        ap (λ (l : List ℕ). digits_from l 0) (append_assoc (decimal_from k (n / 10)) ((digit_zero + n % 10) ∷ []) t)
        ∙ more
        ∙ digit_read (n % 10) t (n / 10) (mod-lt n (omega arith))
        ∙ ap (digits_from t) (div-add-mod' n 10)

-- at least one digit, and no more than the number needs
digits_some : (k n : ℕ) → 1 ≤ length (decimal_from k n)
unfolding decimal_from
digits_some zero n = omega arith
digits_some (suc k) n = at (ltb n 10)
  where
    at : (b : Bool) → 1 ≤ length (cond b ((digit_zero + n) ∷ []) (decimal_from k (n / 10) ++ ((digit_zero + n % 10) ∷ [])))
    at true = omega arith
    at false = simp length-append (omega arith)

digits_few : (k j n : ℕ) → n < 10 ^ suc j → length (decimal_from k n) ≤ suc j
unfolding decimal_from
digits_few zero j n h = omega arith
digits_few (suc k) zero n h = rw (lt-ltb n 10 h) (omega arith)
digits_few (suc k) (suc j) n h = at (ltb n 10) (digits_few k j (n / 10) (tenth_below n j h))
  where
    at : (b : Bool) → length (decimal_from k (n / 10)) ≤ suc j → length (cond b ((digit_zero + n) ∷ []) (decimal_from k (n / 10) ++ ((digit_zero + n % 10) ∷ []))) ≤ suc (suc j)
    at true more = omega arith
    at false more = simp length-append (omega arith)

-- the first digit of a number of several digits is not 0
digits_lead : (k n : ℕ) → n < 10 ^ suc k → 10 ≤ n → get_or (decimal_from k n) 0 0 ≡ digit_zero → ⊥
unfolding decimal_from
digits_lead zero n h l e = absurd (omega arith)
digits_lead (suc k) n h l e =
    let tail : get_or (decimal_from k (n / 10) ++ ((digit_zero + n % 10) ∷ [])) 0 0 ≡ get_or (decimal_from k (n / 10)) 0 0 = get_or-append (decimal_from k (n / 10)) ((digit_zero + n % 10) ∷ []) 0 0 (digits_some k (n / 10)) in
    let d = rw (le-ltb n 10 l) at e in
    ⊎_elim (small k (sym tail ∙ d)) (λ (m : 10 ≤ n / 10). digits_lead k (n / 10) (tenth_below n k h) m (sym tail ∙ d)) (lt_or_le (n / 10) 10)
  where
    small : (k : ℕ) → get_or (decimal_from k (n / 10)) 0 0 ≡ digit_zero → n / 10 < 10 → ⊥
    small zero d m = let p = (le-div_iff_mul-le {k = 10} {x = 1} {y = n} (omega arith)).1 l in omega arith
    small (suc k) d m =
        let p = (le-div_iff_mul-le {k = 10} {x = 1} {y = n} (omega arith)).1 l in
        let q = rw (lt-ltb (n / 10) 10 m) at d in
        omega arith

-- a number is below ten to its successor
below_power : (n : ℕ) → n < 10 ^ suc n
below_power zero = lit< tt
below_power (suc n) = let h = below_power n in rw (pow-suc 10 (suc n)) (omega arith)

no_leading_zero : (n : ℕ) → leading_zero (decimal_of n) ≡ false
unfolding decimal_of
no_leading_zero n = ⊎_elim (one n) several (lt_or_le n 10)
  where
    one : (k : ℕ) → n < 10 → leading_zero (decimal_from k n) ≡ false
    one k h = rw (le-ltb 1 (length (decimal_from k n)) (digits_few k 0 n h))

    several : 10 ≤ n → leading_zero (decimal_from n n) ≡ false
    several h = rw (ne_eqb (get_or (decimal_from n n) 0 0) digit_zero (digits_lead n n (below_power n) h)) (and_false (ltb 1 (length (decimal_from n n))))

pub written_reads_back : WrittenReadsBack
unfolding numeral_of decimal_of digits_from
written_reads_back n h =
    rw (
      le-leb 1 (length (decimal_from n n)) (digits_some n n),
      le-leb (length (decimal_from n n)) most_digits (digits_few n 13 n h),
      no_leading_zero n,
    )
    (ap (λ (l : List ℕ). digits_from l 0) (sym (append-nil (decimal_from n n))) ∙ digits_read n n [] (below_power n))

-- how far the digits are looked for does not matter, once it is far enough
far_enough : (k j n : ℕ) → n ≤ k → n ≤ j → decimal_from k n ≡ decimal_from j n
unfolding decimal_from
far_enough zero zero n h g = refl
far_enough zero (suc j) n h g = rw (lt-ltb n 10 (omega arith))
far_enough (suc k) zero n h g = rw (lt-ltb n 10 (omega arith))
far_enough (suc k) (suc j) n h g = rw (far_enough k j (n / 10) (omega arith) (omega arith))

-- A number below ten is one digit,
pub one_digit : (n : ℕ) → n < 10 → decimal_of n ≡ (digit_zero + n) ∷ []
unfolding decimal_of decimal_from
one_digit zero h = refl
one_digit (suc n) h = rw (lt-ltb (suc n) 10 h)

-- and the last digit of any other is its rest by ten, behind the digits of its tenth.
pub last_digit : (n : ℕ) → 10 ≤ n → decimal_of n ≡ decimal_of (n / 10) ++ ((digit_zero + n % 10) ∷ [])
unfolding decimal_of decimal_from
last_digit zero h = absurd (omega arith)
last_digit (suc n) h = rw (le-ltb (suc n) 10 h, far_enough n (suc n / 10) (suc n / 10) (omega arith) (omega arith))

-- a digit behind a number that is not 0 is its last
digit_more : (v d : ℕ) → 1 ≤ v → d < 10 → decimal_of (v * 10 + d) ≡ decimal_of v ++ ((digit_zero + d) ∷ [])
digit_more v d h l =
    let tenth : (v * 10 + d) / 10 ≡ v = omega arith in
    let rest : (v * 10 + d) % 10 ≡ d = omega arith in
    last_digit (v * 10 + d) (omega arith) ∙ rw (tenth, rest)

-- Bytes that make a number are digits, each of which is read in turn.
pub first_digit : (x : ℕ) (s : List ℕ) (v : ℕ) {n : ℕ} → digits_from (x ∷ s) v ≡ Some n
    → (digit_zero ≤ x) × (x ≤ digit_nine) × (digits_from s (v * 10 + (x - digit_zero)) ≡ Some n)
unfolding digits_from
first_digit x s v {n} e = at (leb digit_zero x && leb x digit_nine) refl e
  where
    at : (d : Bool) → (leb digit_zero x && leb x digit_nine) ≡ d → cond d (digits_from s (v * 10 + (x - digit_zero))) None ≡ Some n
        → (digit_zero ≤ x) × (x ≤ digit_nine) × (digits_from s (v * 10 + (x - digit_zero)) ≡ Some n)
    at true d f = (
      leb-true digit_zero x (and_left (leb digit_zero x) (leb x digit_nine) d),
      leb-true x digit_nine (and_right (leb digit_zero x) (leb x digit_nine) d),
      f,
    )
    at false d f = let z : ◌≡◌ {A = ℕ} 0 1 = cc in absurd (omega arith)

-- behind a number that is not 0 they are the last digits of the number that they make with it, which is as small as they are few
digits_behind : (s : List ℕ) (v : ℕ) {n : ℕ} → 1 ≤ v → digits_from s v ≡ Some n → decimal_of n ≡ decimal_of v ++ s
unfolding digits_from
digits_behind [] v {n} h e = let same : v ≡ n = cc in sym (append-nil (decimal_of v) ∙ ap decimal_of same)
digits_behind (x ∷ s) v {n} h e =
    let f = first_digit x s v e in
    let low = f.0 in
    let high = f.1 in
    let byte : digit_zero + (x - digit_zero) ≡ x = omega arith in
    digits_behind s (v * 10 + (x - digit_zero)) (omega arith) f.2
    ∙ ap (λ (l : List ℕ). l ++ s) (digit_more v (x - digit_zero) h (omega arith))
    ∙ append_assoc (decimal_of v) ((digit_zero + (x - digit_zero)) ∷ []) s
    ∙ ap (λ (y : ℕ). decimal_of v ++ (y ∷ s)) byte

digits_below : (s : List ℕ) (v i : ℕ) {n : ℕ} → v < 10 ^ i → digits_from s v ≡ Some n → n < 10 ^ (i + length s)
unfolding digits_from
digits_below [] v i {n} h e = let same : v ≡ n = cc in rw (add-zero i, ← same) h
digits_below (x ∷ s) v i h e =
    let f = first_digit x s v e in
    let high = f.1 in
    let long : suc i + length s ≡ i + suc (length s) = omega arith in
    rw long at (digits_below s (v * 10 + (x - digit_zero)) (suc i) (rw (pow-suc 10 i) (omega arith)) f.2)

-- digits without a leading zero are those of the number that they make
all_digits : (s : List ℕ) {n : ℕ} → 1 ≤ length s → leading_zero s ≡ false → digits_from s 0 ≡ Some n → decimal_of n ≡ s
unfolding digits_from
all_digits [] some led e = absurd (omega arith)
all_digits (x ∷ []) {n} some led e =
    let f = first_digit x [] 0 e in
    let low = f.0 in
    let high = f.1 in
    let last = f.2 in
    let same : 0 * 10 + (x - digit_zero) ≡ n = cc in
    let byte : digit_zero + n ≡ x = omega arith in
    one_digit n (omega arith) ∙ ap (λ (y : ℕ). y ∷ []) byte
all_digits (x ∷ y ∷ s) some led e =
    let f = first_digit x (y ∷ s) 0 e in
    let low = f.0 in
    let high = f.1 in
    let lead : x ≡ digit_zero → ⊥ = λ z. never_both (rw (z, lt-ltb 1 (suc (suc (length s))) (omega arith))) led in
    let byte : digit_zero + (0 * 10 + (x - digit_zero)) ≡ x = omega arith in
    digits_behind (y ∷ s) (0 * 10 + (x - digit_zero)) (omega arith) f.2
    ∙ rw (one_digit (0 * 10 + (x - digit_zero)) (omega arith), byte)

-- A text that reads as a number is the number's own digits, and the number has at most 14 of them.
pub number_digits : (s : List ℕ) {n : ℕ} → numeral_of s ≡ Some n → (decimal_of n ≡ s) × (n < 10 ^ most_digits)
unfolding numeral_of
number_digits s {n} e = at (leb 1 (length s) && leb (length s) most_digits && not (leading_zero s)) refl e
  where
    at : (b : Bool) → (leb 1 (length s) && leb (length s) most_digits && not (leading_zero s)) ≡ b → cond b (digits_from s 0) None ≡ Some n
        → (decimal_of n ≡ s) × (n < 10 ^ most_digits)
    at true b f =
        let long = and_left (leb 1 (length s) && leb (length s) most_digits) (not (leading_zero s)) b in
        let led = not-true (leading_zero s) (and_right (leb 1 (length s) && leb (length s) most_digits) (not (leading_zero s)) b) in
        let some = leb-true 1 (length s) (and_left (leb 1 (length s)) (leb (length s) most_digits) long) in
        let few = leb-true (length s) most_digits (and_right (leb 1 (length s)) (leb (length s) most_digits) long) in
        let below = digits_below s 0 0 (lit< tt) f in
        let most = pow-le-pow_right {n = 10} (omega arith) {i = 0 + length s} {j = most_digits} (omega arith) in
        (all_digits s some led f, omega arith)
    at false b f = let z : ◌≡◌ {A = ℕ} 0 1 = cc in absurd (omega arith)
