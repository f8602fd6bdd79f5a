-- The first number at which a test fails.
-- Assumes nothing.
use Rattle.std.specs.Prelude.{ℕ, zero, suc, Bool, cond}

-- the first of the n numbers from k on at which the test fails, or k + n where it passes at each of them
unfoldable pub first_from : (ℕ → Bool) → ℕ → ℕ → ℕ
first_from test k zero = k
first_from test k (suc n) = cond (test k) (first_from test (suc k) n) k

-- the first number below n at which the test fails, or n where it passes at each of them
abbrev pub first : (ℕ → Bool) → ℕ → ℕ
first test n = first_from test 0 n
