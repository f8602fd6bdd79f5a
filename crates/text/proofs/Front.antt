-- What stands at the front of a text: a key, or a word with the byte that ends it.
-- Assumes nothing.
use Prim.Native.Nat.{ℕ, suc, ◌+◌, ◌-◌, ◌≤◌, ◌<◌}
use mathlib.Core.Path.{◌≡◌, refl, sym, ◌∙◌, ap}
use mathlib.Core.Bool.{Bool, true, false, cond, ◌&&◌}
use mathlib.Core.List.{List, [], ◌∷◌, ◌++◌}
use native.Mathlib.Numerals.{add-one}
use native.Mathlib.Omega.{arith}
use lib.Dec.{eqb, ltb, leb-suc-suc}
use lib.ListN.{length, get_or, take, drop, length-take, length-drop, drop_of_length-le}
use lib.Pointwise.{pointwise}
use lib.Seq.{drop-drop, drop-cons, take-add, drop_at, length-take-le}
use borrow.Author.Tests.{eq-eqb, ne_eqb, eqb-true, lt-ltb, le-ltb, ltb-true, ltb-false}
use denote.Ref.{Bor}
use Rattle.std.specs.Prelude.{Option, Some, None}
use Rattle.std.specs.Option.{option_eq}
use Rattle.std.specs.Slice.{IsItemAt}
use Rattle.laws.proofs.And.{and_false, and_true}
use Rattle.laws.proofs.Order.{never_both}
use Rattle.text.specs.Part.{part_of}
use Rattle.text.specs.Pieces.{index_of, before_of, after_of}
use Rattle.text.specs.Words.{same_of, opens_of, behind_of}
use Rattle.text.proofs.Parts.{part_tail, part_head}
use Rattle.text.proofs.Splitting.{has_of, index_within}
use Rattle.text.proofs.Alike.{same_so_equal, eqb_turned, pointwise_same}

module _ (s key : List ℕ) (at : ℕ) where
  -- what `starts_with` says of the text from a place on
  pub stands_there : {t : List ℕ} {r : Bool} → t ≡ part_of s at (length s) → r ≡ pointwise eqb key (take (length key) t) → r ≡ opens_of key (drop at s)
  stands_there {t} e f =
      f
      ∙ pointwise_same (take (length key) t) key
      ∙ ap (λ (u : List ℕ). same_of (take (length key) u) key) (e ∙ part_tail s at)
      ∙ ap (λ (u : List ℕ). same_of u key) (sym (part_head (drop at s) (length key)))

  -- what opens the text from a place on stands there
  pub opens_there : {t : List ℕ} {r : Bool} → t ≡ part_of s at (length s) → r ≡ opens_of key t → r ≡ opens_of key (drop at s)
  opens_there e f = f ∙ ap (opens_of key) (e ∙ part_tail s at)

  -- a key that stands at a place ends no further than the end of s, unless it was sought behind it
  pub stands_within : {opened : Bool} → opened ≡ opens_of key (drop at s) → opened ≡ true → length key ≤ length s - at
  stands_within {opened} e h =
      let m = length-drop at s in
      let n = length-take (length key) (drop at s) in
      let p = ap length (same_so_equal (part_of (drop at s) 0 (length key)) key (sym e ∙ h)) in
      let q = rw (part_head (drop at s) (length key)) at p in
      omega arith

  pub behind_there : {opened : Bool} → opened ≡ opens_of key (drop at s) → opened ≡ true → at + length key ≡ behind_of key s at
  behind_there e h = rw (← e, h)

  pub behind_none : {opened : Bool} → opened ≡ opens_of key (drop at s) → opened ≡ false → length s ≡ behind_of key s at
  behind_none e h = rw (← e, h)

-- two bytes compared, either way round
other_byte : (x y b : ℕ) → eqb x b ≡ true → eqb y b ≡ false → eqb x y ≡ false
other_byte x y b e f =
    ne_eqb x y (λ p.
    let q = eqb-true x b e in
    let g = eq-eqb y b (sym p ∙ q) in
    never_both refl (sym g ∙ f))

-- none of some bytes is b
unfoldable pub free : ℕ → List ℕ → Bool
free b [] = true
free b (x ∷ w) = cond (eqb x b) false (free b w)

unfoldable pub all_free : ℕ → List (List ℕ) → Bool
all_free b [] = true
all_free b (w ∷ ws) = cond (free b w) (all_free b ws) false

pub free_parts : (b x : ℕ) (w : List ℕ) → free b (x ∷ w) ≡ true → (eqb x b ≡ false) × (free b w ≡ true)
unfolding free
free_parts b x w h = at (eqb x b) refl h
  where
    at : (t : Bool) → eqb x b ≡ t → cond t false (free b w) ≡ true → (eqb x b ≡ false) × (free b w ≡ true)
    at true e h = absurd (never_both refl (sym h))
    at false e h = (e, h)

pub all_free_parts : (b : ℕ) (w : List ℕ) (ws : List (List ℕ)) → all_free b (w ∷ ws) ≡ true → (free b w ≡ true) × (all_free b ws ≡ true)
unfolding all_free
all_free_parts b w ws h = at (free b w) refl h
  where
    at : (t : Bool) → free b w ≡ t → cond t (all_free b ws) false ≡ true → (free b w ≡ true) × (all_free b ws ≡ true)
    at true e h = (e, h)
    at false e h = absurd (never_both refl (sym h))

pub free_ended : (c b : ℕ) (w : List ℕ) → free c w ≡ true → eqb b c ≡ false → free c (w ++ (b ∷ [])) ≡ true
unfolding free
free_ended c b [] f e = rw e
free_ended c b (x ∷ w) f e =
    let p = free_parts c x w f in
    rw p.0 (free_ended c b w p.1 e)

-- the same test, byte by byte
unfoldable pub front : List ℕ → List ℕ → Bool
front [] t = true
front (y ∷ w) [] = false
front (y ∷ w) (x ∷ t) = eqb x y && front w t

opens_front : (w t : List ℕ) → opens_of w t ≡ front w t
unfolding front same_of
opens_front w t = rw (part_head t (length w)) (go w t)
  where
    go : (w t : List ℕ) → same_of (take (length w) t) w ≡ front w t
    go [] t = refl
    go (y ∷ w) [] = refl
    go (y ∷ w) (x ∷ t) = ap (λ (b : Bool). eqb x y && b) (go w t)

-- a text that is shorter than the key does not open with it
pub opens_short : (key t : List ℕ) → length t < length key → false ≡ opens_of key t
unfolding front
opens_short key t h = go key t h ∙ sym (opens_front key t)
  where
    go : (w t : List ℕ) → length t < length w → false ≡ front w t
    go [] t h = absurd (omega arith)
    go (y ∷ w) [] h = refl
    go (y ∷ w) (x ∷ t) h = both (eqb x y) (go w t (omega arith))
      where
        both : (b : Bool) → false ≡ front w t → false ≡ b && front w t
        both true h = h
        both false h = refl

-- a comparison from the front on has passed i bytes that are the same
pub record Opening (key t : List ℕ) (i : ℕ) : Type 0 where
  pub room : length key ≤ length t
  pub rest : front (drop i key) (drop i t) ≡ opens_of key t

module _ {key t : List ℕ} where
  pub opening_none : length key ≤ length t → Opening key t 0
  opening_none h = record { room = h; rest = sym (opens_front key t) }

  module _ {i : ℕ} (o : Opening key t i) where
    pub opening_not : i < length key → (get_or t i 0 ≡ get_or key i 0 → ⊥) → false ≡ opens_of key t
    unfolding front
    opening_not h ne =
        simp (drop-cons key i 0 h, drop-cons t i 0 (let l = o.room in omega arith), ne_eqb (get_or t i 0) (get_or key i 0) ne) at o.rest

    pub opening_next : i < length key → get_or t i 0 ≡ get_or key i 0 → Opening key t (i + 1)
    unfolding front
    opening_next h e =
        record {
          room = o.room;
          rest =
              rw add-one
              (simp (drop-cons key i 0 h, drop-cons t i 0 (let l = o.room in omega arith), eq-eqb (get_or t i 0) (get_or key i 0) e) at o.rest);
        }

    pub opening_all : length key ≤ i → true ≡ opens_of key t
    unfolding front
    opening_all h = rw (drop_of_length-le key h) at o.rest

-- what stands before the first c, which the key does not hold, opens with the key where the text does
front_cut : (c : ℕ) (w t : List ℕ) → free c w ≡ true → front w (take (index_of c t) t) ≡ front w t
unfolding front index_of
front_cut c [] t f = refl
front_cut c (y ∷ w) [] f = refl
front_cut c (y ∷ w) (x ∷ t) f = at (eqb x c) refl (front_cut c w t (free_parts c y w f).1)
  where
    at : (b : Bool) → eqb x c ≡ b → front w (take (index_of c t) t) ≡ front w t → front (y ∷ w) (take (cond b 0 (suc (index_of c t))) (x ∷ t)) ≡ eqb x y && front w t
    at true e h = rw (other_byte x y c e (free_parts c y w f).0)
    at false e h = ap (λ (b : Bool). eqb x y && b) h

pub opens_cut : (c : ℕ) (w t : List ℕ) → free c w ≡ true → opens_of w (before_of c t) ≡ opens_of w t
opens_cut c w t f =
    opens_front w (before_of c t) ∙ ap (front w) (part_head t (index_of c t)) ∙ front_cut c w t f ∙ sym (opens_front w t)

-- behind a key that does not hold c, the first c is that of the text behind the key
front_index : (c : ℕ) (w t : List ℕ) → free c w ≡ true → front w t ≡ true → index_of c t ≡ length w + index_of c (drop (length w) t)
unfolding front index_of
front_index c [] t f h = omega arith
front_index c (y ∷ w) [] f h = absurd (never_both refl (sym h))
front_index c (y ∷ w) (x ∷ t) f h = at (eqb x y) refl h (front_index c w t (free_parts c y w f).1)
  where
    at : (b : Bool) → eqb x y ≡ b → b && front w t ≡ true → (front w t ≡ true → index_of c t ≡ length w + index_of c (drop (length w) t)) → cond (eqb x c) 0 (suc (index_of c t)) ≡ suc (length w) + index_of c (drop (length w) t)
    at true e h more =
        let same : x ≡ y = eqb-true x y e in
        let ih = more h in
        rw (same, (free_parts c y w f).0) (omega arith)
    at false e h more = absurd (never_both refl (sym h))

pub opens_index : (c : ℕ) (w t : List ℕ) → free c w ≡ true → opens_of w t ≡ true → index_of c t ≡ length w + index_of c (drop (length w) t)
opens_index c w t f h = front_index c w t f (sym (opens_front w t) ∙ h)

-- a text opens with a word and the byte that ends it where the word stands before that byte
and_swapped : (a h r : Bool) → a && (h && r) ≡ h && (a && r)
and_swapped true h r = refl
and_swapped false true r = refl
and_swapped false false r = refl

front_word : (b : ℕ) (w t : List ℕ) → free b w ≡ true → front (w ++ (b ∷ [])) t ≡ has_of b t && same_of w (take (index_of b t) t)
unfolding front index_of same_of
front_word b [] [] f = refl
front_word b [] (x ∷ t) f = at (eqb x b)
  where
    at : (e : Bool) → e && true ≡ ltb (cond e 0 (suc (index_of b t))) (suc (length t)) && same_of [] (take (cond e 0 (suc (index_of b t))) (x ∷ t))
    at true = rw (lt-ltb 0 (suc (length t)) (omega arith))
    at false = sym (and_false (ltb (suc (index_of b t)) (suc (length t))))
front_word b (y ∷ w) [] f = refl
front_word b (y ∷ w) (x ∷ t) f = at (eqb x b) refl (front_word b w t (free_parts b y w f).1)
  where
    at : (e : Bool) → eqb x b ≡ e → front (w ++ (b ∷ [])) t ≡ has_of b t && same_of w (take (index_of b t) t) → eqb x y && front (w ++ (b ∷ [])) t ≡ ltb (cond e 0 (suc (index_of b t))) (suc (length t)) && same_of (y ∷ w) (take (cond e 0 (suc (index_of b t))) (x ∷ t))
    at true e h = rw (other_byte x y b e (free_parts b y w f).0) (sym (and_false (ltb 0 (suc (length t)))))
    at false e h =
        rw (h, leb-suc-suc (suc (index_of b t)) (length t), eqb_turned x y)
        (and_swapped (eqb y x) (ltb (index_of b t) (length t)) (same_of w (take (index_of b t) t)))

pub opens_word : (b : ℕ) (w t : List ℕ) → free b w ≡ true → opens_of (w ++ (b ∷ [])) t ≡ has_of b t && same_of w (before_of b t)
opens_word b w t f = opens_front (w ++ (b ∷ [])) t ∙ rw (part_head t (index_of b t)) (front_word b w t f)

-- such a word ends at the first of that byte
pub opens_ends : (b : ℕ) (w t : List ℕ) → free b w ≡ true → opens_of (w ++ (b ∷ [])) t ≡ true → index_of b t ≡ length w
opens_ends b w t f h = at (has_of b t) refl (sym (opens_word b w t f) ∙ h)
  where
    at : (there : Bool) → has_of b t ≡ there → there && same_of w (before_of b t) ≡ true → index_of b t ≡ length w
    at true e g =
        let l = ap length (same_so_equal w (before_of b t) g) in
        let m = rw (part_head t (index_of b t)) at l in
        let n = length-take (index_of b t) t in
        let i = index_within b t in
        omega arith
    at false e g = absurd (never_both refl (sym g))

-- In a text that is cut at its first c: a b that stands in what is left is the first of the text, and what stands behind it is what stands there in the text, cut likewise.
record Cut (b c : ℕ) (t : List ℕ) : Type 0 where
  index : index_of c t ≡ suc (index_of b t) + index_of c (drop (suc (index_of b t)) t)
  behind : drop (suc (index_of b (take (index_of c t) t))) (take (index_of c t) t) ≡ take (index_of c (drop (suc (index_of b t)) t)) (drop (suc (index_of b t)) t)

cut_has : (b c : ℕ) (t : List ℕ) → has_of b (take (index_of c t) t) ≡ true → Cut b c t
unfolding index_of
cut_has b c [] h = absurd (never_both refl (sym h))
cut_has b c (x ∷ t) h = at (eqb x c) refl (eqb x b) refl h (cut_has b c t)
  where
    at : (e : Bool) → eqb x c ≡ e → (f : Bool) → eqb x b ≡ f → has_of b (take (cond e 0 (suc (index_of c t))) (x ∷ t)) ≡ true → (has_of b (take (index_of c t) t) ≡ true → Cut b c t) → Cut b c (x ∷ t)
    at true p f q h more = absurd (never_both refl (sym h))
    at false p true q h more = record { index = rw (p, q) (omega arith); behind = rw (p, q) refl }
    at false p false q h more =
        let u = take (index_of c t) t in
        let d : has_of b u ≡ true = sym (leb-suc-suc (suc (index_of b u)) (length u)) ∙ rw q at h in
        let m = more d in
        record {
          index = let i = m.index in rw (p, q) (omega arith);
          behind = rw (p, q) m.behind;
        }

-- a test of a sum, and of what is left
ltb_behind : (n j m : ℕ) → ltb j (m - n) ≡ ltb (n + j) m
ltb_behind n j m = at (ltb j (m - n)) refl
  where
    at : (b : Bool) → ltb j (m - n) ≡ b → b ≡ ltb (n + j) m
    at true e = let h = ltb-true j (m - n) e in sym (lt-ltb (n + j) m (omega arith))
    at false e = let h = ltb-false j (m - n) e in sym (le-ltb (n + j) m (omega arith))

-- u is what a text holds behind something that has no c: it has the text's first c
pub record On (c : ℕ) (t u : List ℕ) : Type 0 where
  pub there : has_of c u ≡ has_of c t
  pub after : after_of c u ≡ after_of c t

on_behind : (c n : ℕ) (t : List ℕ) → index_of c t ≡ n + index_of c (drop n t) → On c t (drop n t)
on_behind c n t e =
    let j = index_of c (drop n t) in
    let i : n + (j + 1) ≡ index_of c t + 1 = omega arith in
    record {
      there = rw (e, length-drop n t) (ltb_behind n j (length t));
      after = rw (part_tail (drop n t) (j + 1), part_tail t (index_of c t + 1), drop-drop (j + 1) n t) (ap (λ (k : ℕ). drop k t) i);
    }

-- behind a key that has no c
module _ (c : ℕ) (key t : List ℕ) (f : free c key ≡ true) (h : opens_of key t ≡ true) where
  pub key_on : On c t (drop (length key) t)
  key_on = on_behind c (length key) t (opens_index c key t f h)

  pub key_value : part_of (before_of c t) (length key) (length (before_of c t)) ≡ before_of c (drop (length key) t)
  key_value =
      let u = drop (length key) t in
      let long = stands_within t key 0 refl h in
      rw (part_tail (before_of c t) (length key), part_head t (index_of c t), part_head u (index_of c u), opens_index c key t f h, take-add (length key) (index_of c u) t)
      (drop_at (take (length key) t) (take (index_of c u) u) (length key) (length-take-le (length key) t (omega arith)))

-- behind a field of a text that is cut at its first c
module _ (b c : ℕ) (t : List ℕ) (h : has_of b (before_of c t) ≡ true) where
  cut : Cut b c t
  cut = cut_has b c t (rw (part_head t (index_of c t)) at h)

  tail : after_of b t ≡ drop (suc (index_of b t)) t
  tail = part_tail t (index_of b t + 1) ∙ ap (λ (k : ℕ). drop k t) (add-one (index_of b t))

  pub field_on : On c t (after_of b t)
  field_on = rw tail (on_behind c (suc (index_of b t)) t cut.index)

  pub field_behind : after_of b (before_of c t) ≡ before_of c (after_of b t)
  field_behind =
      let v = before_of c t in
      let u = drop (suc (index_of b t)) t in
      rw (tail, part_tail v (index_of b v + 1), part_head t (index_of c t), part_head u (index_of c u), add-one (index_of b (take (index_of c t) t))) cut.behind

-- a word with one more byte
front_not : (b : ℕ) (w t : List ℕ) → front w t ≡ false → front (w ++ (b ∷ [])) t ≡ false
unfolding front
front_not b [] t h = absurd (never_both refl h)
front_not b (y ∷ w) [] h = refl
front_not b (y ∷ w) (x ∷ t) h = at (eqb x y) h (front_not b w t)
  where
    at : (e : Bool) → e && front w t ≡ false → (front w t ≡ false → front (w ++ (b ∷ [])) t ≡ false) → e && front (w ++ (b ∷ [])) t ≡ false
    at true h more = more h
    at false h more = refl

front_more : (b : ℕ) (w t : List ℕ) → front w t ≡ true → front (w ++ (b ∷ [])) t ≡ front (b ∷ []) (drop (length w) t)
unfolding front
front_more b [] t h = refl
front_more b (y ∷ w) [] h = absurd (never_both refl (sym h))
front_more b (y ∷ w) (x ∷ t) h = at (eqb x y) h (front_more b w t)
  where
    at : (e : Bool) → e && front w t ≡ true → (front w t ≡ true → front (w ++ (b ∷ [])) t ≡ front (b ∷ []) (drop (length w) t)) → e && front (w ++ (b ∷ [])) t ≡ front (b ∷ []) (drop (length w) t)
    at true h more = more h
    at false h more = absurd (never_both refl (sym h))

module _ (s w : List ℕ) (at b : ℕ) {o : Bool} (e : o ≡ opens_of w (drop at s)) where
  opened : (c : Bool) → o ≡ c → front w (drop at s) ≡ c
  opened c h = sym (opens_front w (drop at s)) ∙ sym e ∙ h

  pub ends_not : o ≡ false → o ≡ opens_of (w ++ (b ∷ [])) (drop at s)
  ends_not h = h ∙ sym (opens_front (w ++ (b ∷ [])) (drop at s) ∙ front_not b w (drop at s) (opened false h))

  ends_byte : o ≡ true → opens_of (w ++ (b ∷ [])) (drop at s) ≡ front (b ∷ []) (drop (at + length w) s)
  ends_byte h =
      opens_front (w ++ (b ∷ [])) (drop at s)
      ∙ front_more b w (drop at s) (opened true h)
      ∙ ap (front (b ∷ [])) (drop-drop (length w) at s)

  -- the byte behind the word, if there is one, is b
  pub ends_there : {r : Bool} (last : Option (Bor ℕ)) (y : Bor ℕ) → o ≡ true → IsItemAt s (at + length w) last → r ≡ option_eq (λ x z. eqb x.now z.now) last (Some y) → y.now ≡ b → r ≡ opens_of (w ++ (b ∷ [])) (drop at s)
  unfolding front
  ends_there None y h g e f = e ∙ sym (ends_byte h ∙ ap (front (b ∷ [])) (drop_of_length-le s g.3))
  ends_there (Some x) y h g e f =
      e
      ∙ rw (f, g.3.1 0) (sym (ends_byte h ∙ ap (front (b ∷ [])) (drop-cons s (at + length w) 0 g.3.0) ∙ and_true (eqb (get_or s (at + length w) 0) b)))
