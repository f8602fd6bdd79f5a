-- Rules, "Job and answer text": numbers have 1 to 14 digits and no leading zero except 0 itself.
-- Assumes nothing.
use Rattle.std.specs.Prelude.{ℕ, zero, suc, ◌+◌, ◌-◌, ◌*◌, ◌/◌, ◌%◌, Bool, cond, ◌&&◌, not, List, [], ◌∷◌, ◌++◌, length, get_or, leb, ltb, eqb, Option, Some, None}
use Prim.Native.Char.{code}

abbrev pub most_digits : ℕ
most_digits = 14

abbrev pub digit_zero : ℕ
digit_zero = code "0"

abbrev pub digit_nine : ℕ
digit_nine = code "9"

-- the number that some digits make behind the number v, or that one of them is no digit
unfoldable pub digits_from : List ℕ → ℕ → Option ℕ
digits_from [] v = Some v
digits_from (x ∷ s) v = cond (leb digit_zero x && leb x digit_nine) (digits_from s (v * 10 + (x - digit_zero))) None

-- more digits than one, of which the first is 0
abbrev pub leading_zero : List ℕ → Bool
leading_zero s = ltb 1 (length s) && eqb (get_or s 0 0) digit_zero

-- the number that a text says
unfoldable pub numeral_of : List ℕ → Option ℕ
numeral_of s = cond (leb 1 (length s) && leb (length s) most_digits && not (leading_zero s)) (digits_from s 0) None

-- the digits of n where it has at most k + 1 of them
unfoldable pub decimal_from : ℕ → ℕ → List ℕ
decimal_from zero n = (digit_zero + n) ∷ []
decimal_from (suc k) n =
    let more = decimal_from k (n / 10) ++ ((digit_zero + n % 10) ∷ []) in
    cond (ltb n 10) ((digit_zero + n) ∷ []) more

-- a number as text: its digits, with no leading zero except 0 itself
unfoldable pub decimal_of : ℕ → List ℕ
decimal_of n = decimal_from n n
