-- Walking over the pieces of a text by what stands after each: where the walk stands, and what piece it finds.
-- Assumes nothing.
use Prim.Native.Nat.{ℕ, zero, suc, ◌+◌, ◌-◌, ◌≤◌}
use mathlib.Core.Path.{◌≡◌, refl, sym, ◌∙◌, ap, subst}
use mathlib.Core.Bool.{Bool, true, false, cond}
use mathlib.Core.List.{List, []}
use mathlib.Core.Logic.{◌⊎◌, inl, inr}
use native.Mathlib.Nat.{add-zero}
use native.Mathlib.Numerals.{add-one}
use native.Mathlib.Omega.{arith}
use lib.ListN.{length, get_or, take, drop, length-take, length-drop, drop_of_length-le}
use lib.Seq.{take-nil, drop-drop, drop-nil, get_or-drop}
use borrow.Author.Tests.{ltb-false}
use Rattle.text.specs.Part.{part_of}
use Rattle.text.specs.Pieces.{index_of, before_of, after_of, pieces, start_of, end_of}
use Rattle.text.proofs.Parts.{part_tail, part_head, drop_within}
use Rattle.text.proofs.Splitting.{has_of, index_within, pieces_step, start_within}

-- ps are the pieces of the text t that is left; past the last piece nothing is left of either
abbrev Rest : ℕ → List ℕ → List (List ℕ) → Type 0
Rest b t ps = (ps ≡ pieces b t) ⊎ ((ps ≡ []) × (t ≡ []))

-- nothing stands after a byte that is not there
pub after_none : (b : ℕ) (t : List ℕ) → has_of b t ≡ false → after_of b t ≡ []
after_none b t h =
    let l = ltb-false (index_of b t) (length t) h in
    part_tail t (index_of b t + 1) ∙ drop_of_length-le t {i = index_of b t + 1} (omega arith)

after_nothing : (b : ℕ) → after_of b [] ≡ []
after_nothing b = part_tail [] (index_of b [] + 1) ∙ drop-nil (index_of b [] + 1)

-- behind the first piece stand the others
rest_after : (b : ℕ) (t : List ℕ) (ps : List (List ℕ)) → Rest b t ps → Rest b (after_of b t) (drop 1 ps)
rest_after b t ps (inl e) = at (has_of b t) refl
  where
    at : (h : Bool) → has_of b t ≡ h → Rest b (after_of b t) (drop 1 ps)
    at true h = inl (rw (e, pieces_step b t, h))
    at false h = inr (rw (e, pieces_step b t, h), after_none b t h)
rest_after b t ps (inr p) = inr (rw p.0, rw p.1 (after_nothing b))

-- the first piece of what is left
rest_first : (b : ℕ) (t : List ℕ) (ps : List (List ℕ)) → Rest b t ps → get_or ps 0 [] ≡ before_of b t
rest_first b t ps (inl e) = rw (e, pieces_step b t)
rest_first b t ps (inr p) = rw (p.0, p.1, part_head [] (index_of b [])) (sym (take-nil (index_of b [])))

-- the text behind piece k starts with piece k + 1
start_after : (b : ℕ) (s : List ℕ) (k : ℕ) → drop (start_of b s (suc k)) s ≡ after_of b (drop (start_of b s k) s)
unfolding start_of
start_after b s k =
    let from = start_of b s k in
    let t = drop from s in
    let e : from + index_of b t + 1 ≡ from + (index_of b t + 1) = omega arith in
    rw (part_tail s from, part_tail t (index_of b t + 1), drop-drop (index_of b t + 1) from s, drop_within s (from + index_of b t + 1), e)

rest_start : (b : ℕ) (s : List ℕ) (k : ℕ) → Rest b (drop (start_of b s k) s) (drop k (pieces b s))
unfolding start_of
rest_start b s zero = inl refl
rest_start b s (suc k) =
    let ps = pieces b s in
    let e : drop 1 (drop k ps) ≡ drop (suc k) ps = drop-drop 1 k ps ∙ ap (λ (n : ℕ). drop n ps) (add-one k) in
    subst (λ (t : List ℕ). Rest b t (drop (suc k) ps)) (sym (start_after b s k))
    (rw e at (rest_after b (drop (start_of b s k) s) (drop k ps) (rest_start b s k)))

-- the first piece of the text from piece k on is piece k
piece_first : (b : ℕ) (s : List ℕ) (k : ℕ) → take (index_of b (drop (start_of b s k) s)) (drop (start_of b s k) s) ≡ get_or (pieces b s) k []
piece_first b s k =
    let t = drop (start_of b s k) s in
    sym (part_head t (index_of b t))
    ∙ sym (rest_first b t (drop k (pieces b s)) (rest_start b s k))
    ∙ get_or-drop k (pieces b s) 0 []
    ∙ ap (λ (n : ℕ). get_or (pieces b s) n []) (add-zero k)

-- The bytes of piece k are those of the k-th of the pieces: none where there are fewer.
pub piece_bytes : (b : ℕ) (s : List ℕ) (k : ℕ) → part_of s (start_of b s k) (end_of b s k) ≡ get_or (pieces b s) k []
unfolding part_of
piece_bytes b s k =
    let from = start_of b s k in
    let e : from + index_of b (drop from s) - from ≡ index_of b (drop from s) = omega arith in
    rw (part_tail s from, e) (piece_first b s k)

-- A text has a first piece.
pub some_piece : (b : ℕ) (t : List ℕ) → pieces b t ≡ [] → ⊥
some_piece b t e =
    let s = pieces_step b t in
    let z : ◌≡◌ {A = ℕ} 0 1 = cc in
    omega arith

-- what stands behind the last piece
last_has : (b : ℕ) (t : List ℕ) → drop 1 (pieces b t) ≡ [] → length t ≤ index_of b t
last_has b t e = ltb-false (index_of b t) (length t) (at (has_of b t) refl (rw (pieces_step b t) at e))
  where
    at : (h : Bool) → has_of b t ≡ h → cond h (pieces b (after_of b t)) [] ≡ [] → has_of b t ≡ false
    at true h f = absurd (some_piece b (after_of b t) f)
    at false h f = h

-- The last piece ends where the text does.
pub last_ends : (b : ℕ) (s : List ℕ) (k : ℕ) → length (pieces b s) ≤ suc k → end_of b s k ≡ length s
last_ends b s k h = at (rest_start b s k)
  where
    from : ℕ
    from = start_of b s k

    none : drop 1 (drop k (pieces b s)) ≡ []
    none = drop-drop 1 k (pieces b s) ∙ drop_of_length-le (pieces b s) {i = k + 1} (omega arith)

    at : Rest b (drop from s) (drop k (pieces b s)) → end_of b s k ≡ length s
    at (inl e) =
        let l = last_has b (drop from s) (ap (drop 1) (sym e) ∙ none) in
        let w = index_within b (drop from s) in
        let m = length-drop from s in
        let u = start_within b s k in
        rw (part_tail s from) (omega arith)
    at (inr p) =
        let m = length-drop from s in
        let n = ap length p.1 in
        let w = index_within b (drop from s) in
        let u = start_within b s k in
        rw (part_tail s from) (omega arith)

-- An empty piece ends where it starts.
pub empty_starts : (b : ℕ) (s : List ℕ) (k : ℕ) → get_or (pieces b s) k [] ≡ [] → start_of b s k ≡ end_of b s k
empty_starts b s k e =
    let from = start_of b s k in
    let n = ap length (piece_first b s k ∙ e) in
    let l = length-take (index_of b (drop from s)) (drop from s) in
    let w = index_within b (drop from s) in
    rw (part_tail s from) (omega arith)
