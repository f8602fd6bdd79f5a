-- Tests that are tried in turn: the first that fails decides the answer.
-- Assumes nothing.
use Rattle.std.specs.Prelude.{Bool, cond, List, [], ◌∷◌}

module _ {A R : Type 0} where
  -- each test stands with the reason that is given where it fails; where all pass, the answer is the one that is granted
  abbrev pub in_turn : (R → A) → A → List (Bool × R) → A
  in_turn refused granted [] = granted
  in_turn refused granted ((passes, why) ∷ tests) = cond passes (in_turn refused granted tests) (refused why)
