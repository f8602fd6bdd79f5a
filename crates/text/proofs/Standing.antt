-- A word of a list that is read where it stands: it is the word before the first of the byte that ends it.
-- Assumes nothing.
use Rattle.std.specs.Prelude.{Option, Some, None, ℕ}
use Prim.Native.Nat.{ℕ, ◌+◌}
use mathlib.Core.Path.{◌≡◌, refl, sym, ◌∙◌, ap}
use mathlib.Core.Bool.{Bool, true, false, cond, ◌&&◌}
use mathlib.Core.List.{List, [], ◌∷◌, ◌++◌}
use native.Mathlib.Omega.{arith}
use lib.Dec.{eqb}
use lib.ListN.{length, drop, length-append}
use lib.Seq.{drop-drop}
use Rattle.text.specs.Pieces.{index_of, before_of, after_of}
use Rattle.text.specs.Words.{same_of, opens_of, place_from, word_from}
use Rattle.text.proofs.Parts.{part_tail}
use Rattle.text.proofs.Splitting.{has_of}
use Rattle.text.proofs.Front.{all_free, all_free_parts, free_ended, opens_cut, opens_word, opens_ends}

-- the place of the word that stands at the front of a text
unfoldable pub standing : List (List ℕ) → ℕ → List ℕ → ℕ → Option ℕ
standing [] b t k = None
standing (w ∷ ws) b t k = cond (opens_of (w ++ (b ∷ [])) t) (Some k) (standing ws b t (k + 1))

pub step_place : (ws : List (List ℕ)) (b : ℕ) (s : List ℕ) (at k : ℕ) → (word_from ws b s at k).place ≡ standing ws b (drop at s) k
unfolding word_from standing
step_place [] b s at k = refl
step_place (w ∷ ws) b s at k = pick (opens_of (w ++ (b ∷ [])) (drop at s)) (step_place ws b s at (k + 1))
  where
    pick : (o : Bool) → (word_from ws b s at (k + 1)).place ≡ standing ws b (drop at s) (k + 1) → (cond o (record { place = Some k; next = at + length (w ++ (b ∷ [])) }) (word_from ws b s at (k + 1))).place ≡ cond o (Some k) (standing ws b (drop at s) (k + 1))
    pick true h = refl
    pick false h = h

-- it is the word before the first b
pub standing_place : (ws : List (List ℕ)) (b : ℕ) (t : List ℕ) (k : ℕ) → all_free b ws ≡ true → standing ws b t k ≡ cond (has_of b t) (place_from ws (before_of b t) k) None
unfolding standing place_from
standing_place [] b t k f = pick (has_of b t) None
  where
    pick : (h : Bool) (none : Option ℕ) → none ≡ cond h none none
    pick true none = refl
    pick false none = refl
standing_place (w ∷ ws) b t k f =
    let p = all_free_parts b w ws f in
    rw (opens_word b w t p.0) (pick (has_of b t) (same_of w (before_of b t)) (standing_place ws b t (k + 1) p.1))
  where
    pick : (h m : Bool) → standing ws b t (k + 1) ≡ cond h (place_from ws (before_of b t) (k + 1)) None → cond (h && m) (Some k) (standing ws b t (k + 1)) ≡ cond h (cond m (Some k) (place_from ws (before_of b t) (k + 1))) None
    pick true true e = refl
    pick true false e = e
    pick false m e = e

-- a text that is cut at its first c, which no word holds, has the same word at its front
pub standing_cut : (ws : List (List ℕ)) (b c : ℕ) (t : List ℕ) (k : ℕ) → all_free c ws ≡ true → eqb b c ≡ false → standing ws b (before_of c t) k ≡ standing ws b t k
unfolding standing
standing_cut [] b c t k f e = refl
standing_cut (w ∷ ws) b c t k f e =
    let p = all_free_parts c w ws f in
    rw (opens_cut c (w ++ (b ∷ [])) t (free_ended c b w p.0 e), standing_cut ws b c t (k + 1) p.1 e)

-- behind a word stands what stands behind the first b
pub step_after : (ws : List (List ℕ)) (b : ℕ) (s : List ℕ) (at k : ℕ) {j : ℕ} → all_free b ws ≡ true → (word_from ws b s at k).place ≡ Some j → drop (word_from ws b s at k).next s ≡ after_of b (drop at s)
unfolding word_from
step_after [] b s at k f h = cc
step_after (w ∷ ws) b s at k {j} f h = pick (opens_of (w ++ (b ∷ [])) (drop at s)) refl h (step_after ws b s at (k + 1) (all_free_parts b w ws f).1)
  where
    pick : (o : Bool) → opens_of (w ++ (b ∷ [])) (drop at s) ≡ o → (cond o (record { place = Some k; next = at + length (w ++ (b ∷ [])) }) (word_from ws b s at (k + 1))).place ≡ Some j → ((word_from ws b s at (k + 1)).place ≡ Some j → drop (word_from ws b s at (k + 1)).next s ≡ after_of b (drop at s)) → drop (cond o (record { place = Some k; next = at + length (w ++ (b ∷ [])) }) (word_from ws b s at (k + 1))).next s ≡ after_of b (drop at s)
    pick true o h more =
        let t = drop at s in
        let i = opens_ends b w t (all_free_parts b w ws f).0 o in
        let l : length (w ++ (b ∷ [])) ≡ length w + 1 = length-append w (b ∷ []) in
        let n : length (w ++ (b ∷ [])) ≡ index_of b t + 1 = omega arith in
        sym (drop-drop (length (w ++ (b ∷ []))) at s) ∙ ap (λ (m : ℕ). drop m t) n ∙ sym (part_tail t (index_of b t + 1))
    pick false o h more = more h

-- a word that is read stands before the first b
pub word_place : (ws : List (List ℕ)) (b : ℕ) (s : List ℕ) (at : ℕ) → all_free b ws ≡ true → (word_from ws b s at 0).place ≡ cond (has_of b (drop at s)) (place_from ws (before_of b (drop at s)) 0) None
word_place ws b s at f = step_place ws b s at 0 ∙ standing_place ws b (drop at s) 0 f
