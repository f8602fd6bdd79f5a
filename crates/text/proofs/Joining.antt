-- Pieces put together again: a text is its pieces with the byte between each two, and what stands in front of that byte is its first.
-- Assumes nothing.
use Prim.Native.Nat.{ℕ, zero, suc, ◌+◌, ◌/◌, ◌%◌, ◌≤◌, ◌<◌}
use mathlib.Core.Path.{◌≡◌, refl, sym, ◌∙◌, ap}
use mathlib.Core.Bool.{Bool, true, false, cond}
use mathlib.Core.List.{List, [], ◌∷◌, ◌++◌}
use native.Mathlib.Omega.{arith}
use lib.Dec.{eqb, ltb}
use lib.ListN.{length, get_or}
use lib.Seq.{take-append_seam, drop-append-add}
use borrow.Author.Tests.{eq-eqb, ne_eqb, eqb-true}
use Rattle.text.specs.Pieces.{index_of, before_of, after_of, joined, pieces}
use Rattle.text.specs.Numbers.{digit_zero, decimal_from, decimal_of}
use Rattle.text.proofs.Parts.{part_tail, part_head}
use Rattle.text.proofs.Splitting.{has_of, pieces_step}
use Rattle.text.proofs.Between.{after_none, some_piece}
use Rattle.text.proofs.Front.{free, all_free, free_parts, all_free_parts}

-- some pieces with the byte b between each two
unfoldable pub together : ℕ → List (List ℕ) → List ℕ
together b [] = []
together b (p ∷ []) = p
together b (p ∷ q ∷ ps) = p ++ (b ∷ together b (q ∷ ps))

-- A text is its pieces put together.
pub pieces_together : (b : ℕ) (s : List ℕ) → together b (pieces b s) ≡ s
unfolding together pieces joined
pieces_together b [] = refl
pieces_together b (x ∷ s) = at (eqb x b) refl (pieces b s) (some_piece b s) (pieces_together b s)
  where
    at : (t : Bool) → eqb x b ≡ t → (ps : List (List ℕ)) → (ps ≡ [] → ⊥) → together b ps ≡ s → together b (cond t ([] ∷ ps) (joined x ps)) ≡ x ∷ s
    at t e [] some h = absurd (some refl)
    at true e (p ∷ ps) some h = λ i. sym (eqb-true x b e) i ∷ h i
    at false e (p ∷ []) some h = ap (λ (l : List ℕ). x ∷ l) h
    at false e (p ∷ q ∷ ps) some h = ap (λ (l : List ℕ). x ∷ l) h

-- a piece in front of those of a text
more_together : (b : ℕ) (p t : List ℕ) → together b (p ∷ pieces b t) ≡ p ++ (b ∷ t)
unfolding together
more_together b p t = at (pieces b t) (some_piece b t) (pieces_together b t)
  where
    at : (ps : List (List ℕ)) → (ps ≡ [] → ⊥) → together b ps ≡ t → together b (p ∷ ps) ≡ p ++ (b ∷ t)
    at [] some h = absurd (some refl)
    at (q ∷ ps) some h = ap (λ (l : List ℕ). p ++ (b ∷ l)) h

-- Where something stands behind the first b, a text is what stands before it, b, and what stands behind it.
pub cut_first : (b : ℕ) (s : List ℕ) → 1 ≤ length (after_of b s) → s ≡ before_of b s ++ (b ∷ after_of b s)
cut_first b s some = at (has_of b s) refl
  where
    at : (h : Bool) → has_of b s ≡ h → s ≡ before_of b s ++ (b ∷ after_of b s)
    at true h =
        let first : pieces b s ≡ before_of b s ∷ pieces b (after_of b s) = pieces_step b s ∙ rw h refl in
        sym (pieces_together b s) ∙ ap (together b) first ∙ more_together b (before_of b s) (after_of b s)
    at false h = let none = ap length (after_none b s h) in absurd (omega arith)

-- What holds no b, put in front of b and a text, is the first piece, and the others are the text's.
pub pieces_front : (b : ℕ) (w t : List ℕ) → free b w ≡ true → pieces b (w ++ (b ∷ t)) ≡ w ∷ pieces b t
unfolding pieces joined
pieces_front b [] t f = rw (eq-eqb b b refl)
pieces_front b (x ∷ w) t f = let p = free_parts b x w f in rw (p.0, pieces_front b w t p.1)

index_front : (b : ℕ) (w t : List ℕ) → free b w ≡ true → index_of b (w ++ (b ∷ t)) ≡ length w
unfolding index_of
index_front b [] t f = rw (eq-eqb b b refl)
index_front b (x ∷ w) t f = let p = free_parts b x w f in rw (p.0, index_front b w t p.1)

module _ (b : ℕ) (w t : List ℕ) (f : free b w ≡ true) where
  pub before_front : before_of b (w ++ (b ∷ t)) ≡ w
  before_front = rw (index_front b w t f, part_head (w ++ (b ∷ t)) (length w)) (take-append_seam w (b ∷ t))

  pub after_front : after_of b (w ++ (b ∷ t)) ≡ t
  after_front = rw (index_front b w t f, part_tail (w ++ (b ∷ t)) (length w + 1)) (drop-append-add w (b ∷ t) 1)

-- What holds no b: two such texts together, each of some words of which none does, and a number's digits.
pub free_both : (b : ℕ) (w u : List ℕ) → free b w ≡ true → free b u ≡ true → free b (w ++ u) ≡ true
unfolding free
free_both b [] u f g = g
free_both b (x ∷ w) u f g = let p = free_parts b x w f in rw p.0 (free_both b w u p.1 g)

pub free_at : (b : ℕ) (ws : List (List ℕ)) (k : ℕ) → all_free b ws ≡ true → free b (get_or ws k []) ≡ true
unfolding free
free_at b [] k f = refl
free_at b (w ∷ ws) zero f = (all_free_parts b w ws f).0
free_at b (w ∷ ws) (suc k) f = free_at b ws k (all_free_parts b w ws f).1

digit_free : (b d : ℕ) → b < digit_zero → free b ((digit_zero + d) ∷ []) ≡ true
unfolding free
digit_free b d h = rw (ne_eqb (digit_zero + d) b (λ e. omega arith))

digits_free_from : (b k n : ℕ) → b < digit_zero → free b (decimal_from k n) ≡ true
unfolding decimal_from
digits_free_from b zero n h = digit_free b n h
digits_free_from b (suc k) n h = at (ltb n 10) (digits_free_from b k (n / 10) h)
  where
    at : (t : Bool) → free b (decimal_from k (n / 10)) ≡ true
        → free b (cond t ((digit_zero + n) ∷ []) (decimal_from k (n / 10) ++ ((digit_zero + n % 10) ∷ []))) ≡ true
    at true f = digit_free b n h
    at false f = free_both b (decimal_from k (n / 10)) ((digit_zero + n % 10) ∷ []) f (digit_free b (n % 10) h)

pub digits_free : (b n : ℕ) → b < digit_zero → free b (decimal_of n) ≡ true
unfolding decimal_of
digits_free b n h = digits_free_from b n n h
