-- A text with C for U: its pieces are changed one by one, and keys, words that hold no U and numbers stay.
-- Assumes nothing.
use Rattle.std.specs.Prelude.{Some}
use Prim.Native.Nat.{ℕ, ◌+◌, ◌-◌}
use mathlib.Core.Bool.{Bool, true, false, cond, ◌&&◌, not}
use mathlib.Core.List.{List, [], ◌∷◌, map}
use mathlib.Core.Path.{◌≡◌, refl, sym, ◌∙◌, ap}
use native.Mathlib.Omega.{arith}
use lib.Dec.{eqb}
use lib.ListN.{length, take, drop, length-map}
use borrow.Author.Tests.{eq-eqb, ne_eqb, eqb-true, not-true}
use Rattle.laws.proofs.And.{and_left, and_right}
use Rattle.laws.proofs.Map.{take_map, drop_map}
use Rattle.laws.proofs.Order.{never_both}
use Rattle.text.specs.Part.{part_of}
use Rattle.text.specs.Pieces.{index_of, before_of, after_of, joined, pieces}
use Rattle.text.specs.Words.{place_from}
use Rattle.text.proofs.Front.{free, all_free, all_free_parts}
use Rattle.rewrite.specs.Rewriting.{letter_u, letter_c, c_for_u}
use Rattle.job.proofs.Telling.{Each, found_word, Digits}

-- a byte that is neither U nor C
abbrev other : ℕ → Bool
other b = not (eqb b letter_u) && not (eqb b letter_c)

-- Compared with such a byte, a byte with C for U is as it was.
byte_kept : (x b : ℕ) → other b ≡ true → eqb (c_for_u x) b ≡ eqb x b
byte_kept x b o = at (eqb x letter_u) refl
  where
    differs : (y : ℕ) → eqb b y ≡ false → eqb y b ≡ false
    differs y e = ne_eqb y b (λ p. never_both (eq-eqb b y (sym p)) e)

    not_u : eqb letter_u b ≡ false
    not_u = differs letter_u (not-true _ (and_left (not (eqb b letter_u)) (not (eqb b letter_c)) o))

    not_c : eqb letter_c b ≡ false
    not_c = differs letter_c (not-true _ (and_right (not (eqb b letter_u)) (not (eqb b letter_c)) o))

    at : (u : Bool) → eqb x letter_u ≡ u → eqb (cond u letter_c x) b ≡ eqb x b
    at true e = not_c ∙ sym (rw (eqb-true x letter_u e) not_u)
    at false e = refl

-- Lines and fields: what stands between such bytes is changed piece by piece.
part_changed : (s : List ℕ) (from to : ℕ) → part_of (map c_for_u s) from to ≡ map c_for_u (part_of s from to)
unfolding part_of
part_changed s from to = ap (take (to - from)) (drop_map c_for_u from s) ∙ take_map c_for_u (to - from) (drop from s)

joined_changed : (x : ℕ) (ps : List (List ℕ)) → joined (c_for_u x) (map (map c_for_u) ps) ≡ map (map c_for_u) (joined x ps)
unfolding joined
joined_changed x [] = refl
joined_changed x (p ∷ ps) = refl

module _ (b : ℕ) (o : other b ≡ true) where
  index_kept : (s : List ℕ) → index_of b (map c_for_u s) ≡ index_of b s
  unfolding index_of
  index_kept [] = refl
  index_kept (x ∷ s) = rw (byte_kept x b o, index_kept s)

  pub before_changed : (s : List ℕ) → before_of b (map c_for_u s) ≡ map c_for_u (before_of b s)
  before_changed s = rw (index_kept s) (part_changed s 0 (index_of b s))

  pub after_changed : (s : List ℕ) → after_of b (map c_for_u s) ≡ map c_for_u (after_of b s)
  after_changed s = rw (index_kept s, length-map s c_for_u) (part_changed s (index_of b s + 1) (length s))

  pub pieces_changed : (s : List ℕ) → pieces b (map c_for_u s) ≡ map (map c_for_u) (pieces b s)
  unfolding pieces
  pieces_changed [] = refl
  pieces_changed (x ∷ s) = rw (byte_kept x b o, pieces_changed s) (at (eqb x b))
    where
      at : (t : Bool) → cond t ([] ∷ map (map c_for_u) (pieces b s)) (joined (c_for_u x) (map (map c_for_u) (pieces b s))) ≡ map (map c_for_u) (cond t ([] ∷ pieces b s) (joined x (pieces b s)))
      at true = refl
      at false = joined_changed x (pieces b s)

-- What holds no U stays,
pub free_stays : (w : List ℕ) → free letter_u w ≡ true → map c_for_u w ≡ w
unfolding free
free_stays [] f = refl
free_stays (x ∷ w) f = at (eqb x letter_u) f (free_stays w)
  where
    at : (u : Bool) → cond u false (free letter_u w) ≡ true → (free letter_u w ≡ true → map c_for_u w ≡ w) → cond u letter_c x ∷ map c_for_u w ≡ x ∷ w
    at true f later = absurd (never_both refl (sym f))
    at false f later = ap (λ (r : List ℕ). x ∷ r) (later f)

-- a word of a list in which none does,
each_stays : (ws : List (List ℕ)) (k : ℕ) → all_free letter_u ws ≡ true → Each (λ w i. map c_for_u w ≡ w) ws k
unfolding Each
each_stays [] k f = tt
each_stays (w ∷ ws) k f = let p = all_free_parts letter_u w ws f in (free_stays w p.0, each_stays ws (k + 1) p.1)

pub word_stays : (ws : List (List ℕ)) (s : List ℕ) (k : ℕ) {j : ℕ} → all_free letter_u ws ≡ true → place_from ws s k ≡ Some j → map c_for_u s ≡ s
word_stays ws s k f e = found_word (λ w i. map c_for_u w ≡ w) ws s k (each_stays ws k f) e

-- and a number.
pub digits_stay : (s : List ℕ) → Digits s → map c_for_u s ≡ s
unfolding Digits
digits_stay [] d = refl
digits_stay (x ∷ s) d = let h = d.1 in rw (ne_eqb x letter_u (λ e. omega arith), digits_stay s d.2)
