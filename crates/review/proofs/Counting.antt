-- The line feeds of a text, counted: its pieces between them are one more.
-- Assumes nothing.
use Prim.Native.Nat.{ℕ, ◌+◌, ◌≤◌}
use mathlib.Core.Path.{◌≡◌, refl}
use mathlib.Core.Bool.{Bool, true, false, cond}
use mathlib.Core.List.{List, [], ◌∷◌}
use native.Mathlib.Omega.{arith}
use lib.Dec.{eqb}
use lib.ListN.{length}
use Rattle.std.specs.List.{count_by}
use Rattle.std.proofs.lemmas.List.Sums.{sum_by-cons, count_by-le-length}
use Rattle.text.specs.Pieces.{line_feed, joined, pieces}
use Rattle.review.proofs.FullLines.{joined_pieces}

-- a byte more is a piece more where it is a line feed, and else goes to the first piece
one_more : (x : ℕ) (s : List ℕ) → length (pieces line_feed (x ∷ s)) ≡ cond (eqb x line_feed) 1 0 + length (pieces line_feed s)
unfolding pieces
one_more x s = at (eqb x line_feed)
  where
    at : (b : Bool) → length (cond b ([] ∷ pieces line_feed s) (joined x (pieces line_feed s))) ≡ cond b 1 0 + length (pieces line_feed s)
    at true = omega arith
    at false = let same = joined_pieces line_feed x s in omega arith

-- a text's line feeds are one fewer than its pieces, and no more than its bytes
pub feeds_pieces : (s : List ℕ) → count_by (λ x. eqb x line_feed) s + 1 ≡ length (pieces line_feed s)
unfolding pieces
feeds_pieces [] = refl
feeds_pieces (x ∷ s) =
    let here = sum_by-cons (λ (y : ℕ). cond (eqb y line_feed) 1 0) x s in
    let pieces-here = one_more x s in
    let later = feeds_pieces s in
    omega arith

pub feeds_within : (s : List ℕ) {count : ℕ} → count ≡ count_by (λ x. eqb x line_feed) s → count ≤ length s
feeds_within s e = rw e (count_by-le-length (λ x. eqb x line_feed) s)
