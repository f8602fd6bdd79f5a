-- Where a line of a text ends: at the first LF that follows where it begins, or at the end of the text.
-- Assumes nothing.
use Prim.Native.Nat.{ℕ, zero, suc, ◌+◌, ◌-◌, ◌≤◌, ◌<◌}
use mathlib.Core.Path.{◌≡◌, ◌∙◌, ap}
use mathlib.Core.Bool.{true, false}
use mathlib.Core.List.{List, [], ◌∷◌}
use mathlib.Core.Logic.{◌⊎◌, inl, inr, ⊎_elim}
use native.Mathlib.Omega.{arith}
use lib.Dec.{eqb}
use lib.ListN.{length, get_or, drop, length-drop}
use lib.Seq.{get_or-drop}
use borrow.Author.Tests.{eqb-true, eqb-false}
use Rattle.laws.proofs.Order.{lt_or_le, passes_or_fails}
use Rattle.text.specs.Pieces.{index_of, start_of, end_of}
use Rattle.text.proofs.Parts.{part_tail}
use Rattle.text.proofs.Splitting.{index_within, start_within}

-- the first b of a text is a b, where there is one, and none stands before it
index_found : (b : ℕ) (s : List ℕ) → index_of b s < length s → get_or s (index_of b s) 0 ≡ b
unfolding index_of
index_found b [] l = absurd (omega arith)
index_found b (x ∷ s) l =
    let ih = index_found b s in
    ⊎_elim
    (λ (h : eqb x b ≡ true). rw h (eqb-true x b h))
    (λ (h : eqb x b ≡ false). let m = rw h at l in rw h (ih (omega arith)))
    (passes_or_fails (eqb x b))

index_first : (b : ℕ) (s : List ℕ) (i : ℕ) → i < index_of b s → get_or s i 0 ≡ b → ⊥
unfolding index_of
index_first b [] i l e = omega arith
index_first b (x ∷ s) i l e = ⊎_elim
    (λ (h : eqb x b ≡ true). let m = rw h at l in absurd (omega arith))
    (λ (h : eqb x b ≡ false). let m = rw h at l in at i h m e (index_first b s))
    (passes_or_fails (eqb x b))
  where
    at : (i : ℕ) → eqb x b ≡ false → i < suc (index_of b s) → get_or (x ∷ s) i 0 ≡ b → ((j : ℕ) → j < index_of b s → get_or s j 0 ≡ b → ⊥) → ⊥
    at zero h m e ih = eqb-false x b h e
    at (suc i) h m e ih = ih i (omega arith) e

-- piece k of a text between b, from its begin to its end
module _ (b : ℕ) (s : List ℕ) (k : ℕ) where
  at_end : end_of b s k ≡ start_of b s k + index_of b (drop (start_of b s k) s)
  at_end = rw (part_tail s (start_of b s k))

  -- it runs on from where it begins,
  pub end_onward : start_of b s k ≤ end_of b s k
  end_onward = omega arith

  -- within the text,
  end_within : end_of b s k ≤ length s
  end_within =
      let from = start_of b s k in
      let e = at_end in
      let w = index_within b (drop from s) in
      let m = length-drop from s in
      let l = start_within b s k in
      omega arith

  -- to a b, or to the end of the text,
  end_found : end_of b s k < length s → get_or s (end_of b s k) 0 ≡ b
  end_found l =
      let from = start_of b s k in
      let e = at_end in
      let m = length-drop from s in
      rw (e, ← get_or-drop from s (index_of b (drop from s)) 0) (index_found b (drop from s) (omega arith))

  pub end_ends : ((end_of b s k < length s) × (get_or s (end_of b s k) 0 ≡ b)) ⊎ (end_of b s k ≡ length s)
  end_ends = ⊎_elim (λ (l : end_of b s k < length s). inl (l, end_found l))
      (λ (l : length s ≤ end_of b s k). let w = end_within in inr (omega arith))
      (lt_or_le (end_of b s k) (length s))

  -- and holds no b.
  pub end_free : (i : ℕ) → start_of b s k ≤ i → i < end_of b s k → get_or s i 0 ≡ b → ⊥
  end_free i l m h =
      let from = start_of b s k in
      let e = at_end in
      let n : from + (i - from) ≡ i = omega arith in
      index_first b (drop from s) (i - from) (omega arith) (get_or-drop from s (i - from) 0 ∙ ap (λ (j : ℕ). get_or s j 0) n ∙ h)

  -- No other place is an end of it so.
  pub end_only : (to : ℕ) → start_of b s k ≤ to → ((to < length s) × (get_or s to 0 ≡ b)) ⊎ (to ≡ length s) → ((i : ℕ) → start_of b s k ≤ i → i < to → get_or s i 0 ≡ b → ⊥) → to ≡ end_of b s k
  end_only to l ends free = ⊎_elim
      (λ (m : to < end_of b s k). absurd (before m ends))
      (λ (m : end_of b s k ≤ to). ⊎_elim (λ (n : end_of b s k < to). absurd (behind n ends)) (λ (n : to ≤ end_of b s k). omega arith) (lt_or_le (end_of b s k) to))
      (lt_or_le to (end_of b s k))
    where
      before : to < end_of b s k → ((to < length s) × (get_or s to 0 ≡ b)) ⊎ (to ≡ length s) → ⊥
      before m (inl p) = end_free to l m p.1
      before m (inr e) = let w = end_within in omega arith

      behind : end_of b s k < to → ((to < length s) × (get_or s to 0 ≡ b)) ⊎ (to ≡ length s) → ⊥
      behind n (inl p) = free (end_of b s k) end_onward n (end_found (omega arith))
      behind n (inr e) = free (end_of b s k) end_onward n (end_found (omega arith))
