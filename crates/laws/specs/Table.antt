-- The table of a function.
-- Assumes nothing.
use Rattle.std.specs.Prelude.{ℕ, suc, List, [], ◌∷◌}

-- the values of a function at the n numbers from k on
unfoldable pub values_from : (ℕ → ℕ) → ℕ → ℕ → List ℕ
values_from f k ℕ.zero = []
values_from f k (ℕ.suc n) = f k ∷ values_from f (suc k) n

-- the table of a function: its values at the numbers below n
abbrev pub table_of : (ℕ → ℕ) → ℕ → List ℕ
table_of f n = values_from f 0 n
