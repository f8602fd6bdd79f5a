-- A contract that is an equation with a definition of the arguments settles the answer.
-- Assumes nothing.
use mathlib.Core.Path.{◌≡◌, sym, ◌∙◌}

module _ {A : Type 0} where
  -- Any two answers that it permits are equal.
  pub only_one : {defined one other : A} → one ≡ defined → other ≡ defined → one ≡ other
  only_one p q = p ∙ sym q
