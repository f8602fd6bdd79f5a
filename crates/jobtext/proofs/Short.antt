-- How long the words of a list are at most.
-- Assumes nothing.
use Prim.Native.Nat.{ℕ, zero, suc, ◌≤◌}
use mathlib.Core.Bool.{true}
use mathlib.Core.List.{List, [], ◌∷◌}
use mathlib.Core.Path.{◌≡◌}
use native.Mathlib.Omega.{arith}
use borrow.Author.Tests.{leb-true}
use lib.Dec.{leb}
use lib.ListN.{length, get_or}
use Rattle.laws.proofs.And.{and_left, and_right}
use Rattle.writing.specs.Lines.{word_at}
use Rattle.jobtext.specs.Inner.{all_short}

-- A word of a list of short words is short, and so is none.
pub word_short : (n : ℕ) (ws : List (List ℕ)) (k : ℕ) → all_short n ws ≡ true → length (get_or ws k []) ≤ n
word_short n [] k h = omega arith
word_short n (w ∷ ws) zero h = leb-true (length w) n (and_left (leb (length w) n) (all_short n ws) h)
word_short n (w ∷ ws) (suc k) h = word_short n ws k (and_right (leb (length w) n) (all_short n ws) h)

pub size_short : (n : ℕ) (ws : List (List ℕ)) (k : ℕ) {r : ℕ} → all_short n ws ≡ true → r ≡ length (word_at ws k) → r ≤ n
unfolding word_at
size_short n ws k h e = let s = word_short n ws k h in omega arith
