-- A list whose gap is closed up in order.
-- Assumes nothing.
use Rattle.std.specs.Prelude.{ℕ, ◌+◌, ◌-◌, List, ◌++◌, take, drop}

module _ {A : Type 0} where
  -- The list whose places from i on, up to n and without it, are taken from one further on; n is i or more, and a place of the list.
  -- Place n and those behind it hold what they held.
  abbrev pub closed_up : ℕ → ℕ → List A → List A
  closed_up i n xs = take i xs ++ take (n - i) (drop (i + 1) xs) ++ drop n xs
