-- The first of a byte in a text, and the pieces between it.
-- Assumes nothing.
use Prim.Native.Nat.{ℕ, zero, suc, ◌+◌, ◌-◌, ◌≤◌, ◌<◌, max}
use mathlib.Core.Path.{◌≡◌, refl, sym, ◌∙◌, ap}
use mathlib.Core.Bool.{Bool, true, false, not, cond}
use mathlib.Core.List.{List, [], ◌∷◌}
use native.Mathlib.Nat.{le_refl, add-suc, add-zero}
use native.Mathlib.Numerals.{add-one}
use native.Mathlib.Omega.{arith}
use lib.Dec.{eqb, ltb, leb-suc-suc}
use lib.ListN.{length, get_or, take, drop, length-drop, drop_of_length-le}
use lib.Seq.{take_all, drop-cons}
use Rattle.std.specs.Prelude.{Option, Some, None, unwrap_or, position}
use Rattle.std.specs.List.{position_or_len}
use borrow.Author.Tests.{eq-eqb, ne_eqb, lt-ltb, ltb-true, ltb-false}
use Rattle.text.specs.Part.{part_of}
use Rattle.text.specs.Pieces.{index_of, before_of, after_of, joined, pieces, next_of, start_of}
use Rattle.text.proofs.Parts.{part_tail, part_head}

-- s holds a b
abbrev pub has_of : ℕ → List ℕ → Bool
has_of b s = ltb (index_of b s) (length s)

pub index_within : (b : ℕ) (s : List ℕ) → index_of b s ≤ length s
unfolding index_of
index_within b [] = le_refl 0
index_within b (x ∷ s) = within (eqb x b) (index_within b s)
  where
    within : (t : Bool) → index_of b s ≤ length s → cond t 0 (suc (index_of b s)) ≤ suc (length s)
    within true h = omega arith
    within false h = omega arith

-- it is the first place that passes the test for b, or else the length
index_position : (b : ℕ) (s : List ℕ) → index_of b s ≡ position_or_len (λ x. eqb x b) s
unfolding index_of
index_position b [] = refl
index_position b (x ∷ s) = at (eqb x b) (index_position b s)
  where
    at : (t : Bool) → index_of b s ≡ position_or_len (λ y. eqb y b) s → cond t 0 (suc (index_of b s)) ≡ cond (not t) (1 + position_or_len (λ y. eqb y b) s) 0
    at true h = refl
    at false h = omega arith

pub first_found : (b : ℕ) (s : List ℕ) {r : ℕ} {found : Option ℕ} → r ≡ unwrap_or found (length s) → found ≡ position (λ x. eqb x b) s → r ≡ index_of b s
first_found b s e f = e ∙ ap (λ (o : Option ℕ). unwrap_or o (length s)) f ∙ at (ltb (position_or_len (λ x. eqb x b) s) (length s)) refl
  where
    at : (t : Bool) → ltb (position_or_len (λ x. eqb x b) s) (length s) ≡ t → unwrap_or (cond t (Some (position_or_len (λ x. eqb x b) s)) None) (length s) ≡ index_of b s
    at true h = sym (index_position b s)
    at false h =
        let past = ltb-false (position_or_len (λ x. eqb x b) s) (length s) h in
        let within = index_within b s in
        let same = index_position b s in
        omega arith

-- a search for the first b has passed i bytes of s, none of which is b
pub record Passed (b : ℕ) (s : List ℕ) (i : ℕ) : Type 0 where
  pub within : i ≤ length s
  pub rest : i + index_of b (drop i s) ≡ index_of b s

module _ {b : ℕ} {s : List ℕ} where
  pub passed_none : Passed b s 0
  passed_none = record { within = omega arith; rest = omega arith }

  pub passed_found : {i : ℕ} → Passed b s i → i < length s → get_or s i 0 ≡ b → i ≡ index_of b s
  unfolding index_of
  passed_found {i} p h e = let r = simp (drop-cons s i 0 h, eq-eqb (get_or s i 0) b e) at p.rest in omega arith

  pub passed_next : {i : ℕ} → Passed b s i → i < length s → (get_or s i 0 ≡ b → ⊥) → Passed b s (i + 1)
  unfolding index_of
  passed_next {i} p h ne =
      let r = simp (drop-cons s i 0 h, ne_eqb (get_or s i 0) b ne) at p.rest in
      record { within = omega arith; rest = rw add-one (omega arith) }

  pub passed_all : {i : ℕ} → Passed b s i → length s ≤ i → i ≡ index_of b s
  unfolding index_of
  passed_all p h = let r = rw (drop_of_length-le s h) at p.rest in omega arith

step : (b : ℕ) (s : List ℕ) → pieces b s ≡ take (index_of b s) s ∷ cond (has_of b s) (pieces b (drop (index_of b s + 1) s)) []
unfolding pieces index_of joined
step b [] = refl
step b (x ∷ s) = at (eqb x b) (step b s)
  where
    at : (t : Bool) → pieces b s ≡ take (index_of b s) s ∷ cond (has_of b s) (pieces b (drop (index_of b s + 1) s)) [] → cond t ([] ∷ pieces b s) (joined x (pieces b s)) ≡ take (cond t 0 (suc (index_of b s))) (x ∷ s) ∷ cond (ltb (cond t 0 (suc (index_of b s))) (suc (length s))) (pieces b (drop (cond t 0 (suc (index_of b s)) + 1) (x ∷ s))) []
    at true h = rw (lt-ltb 0 (suc (length s)) (omega arith))
    at false h = rw (h, leb-suc-suc (suc (index_of b s)) (length s), add-one (suc (index_of b s)), add-one (index_of b s))

-- a text's first piece, and the others
pub pieces_step : (b : ℕ) (s : List ℕ) → pieces b s ≡ before_of b s ∷ cond (has_of b s) (pieces b (after_of b s)) []
pieces_step b s = rw (part_head s (index_of b s), part_tail s (index_of b s + 1)) (step b s)

-- all of a text stands before a byte that is not there
pub before_all : (b : ℕ) (s : List ℕ) → has_of b s ≡ false → before_of b s ≡ s
before_all b s h = part_head s (index_of b s) ∙ take_all (index_of b s) s (ltb-false (index_of b s) (length s) h)

-- what stands after a byte that is there is shorter
pub after_shorter : (b : ℕ) (s : List ℕ) {there : Bool} {next : List ℕ} → there ≡ has_of b s → there ≡ true → next ≡ after_of b s → length next < length s
after_shorter b s h t e =
    let l = ltb-true (index_of b s) (length s) (sym h ∙ t) in
    rw (e, part_tail s (index_of b s + 1), length-drop (index_of b s + 1) s) (omega arith)

-- the place of the next b lies no further than the end of s, unless the search begins behind it
pub next_within : (b : ℕ) (s : List ℕ) (from : ℕ) → next_of b s from ≤ max from (length s)
next_within b s from =
    let l = index_within b (part_of s from (length s)) in
    let m : length (part_of s from (length s)) ≡ length s - from = rw (part_tail s from) (length-drop from s) in
    omega arith

pub start_within : (b : ℕ) (s : List ℕ) (k : ℕ) → start_of b s k ≤ length s
unfolding start_of
start_within b s zero = omega arith
start_within b s (suc k) = omega arith

-- once a piece runs to the end of s, every later one starts there
pub start_past : (b : ℕ) (s : List ℕ) (i d : ℕ) → length s ≤ next_of b s (start_of b s i) → start_of b s (i + suc d) ≡ length s
unfolding start_of
start_past b s i zero h = rw (add-suc i 0, add-zero i) (omega arith)
start_past b s i (suc d) h = let e = start_past b s i d h in rw (add-suc i (suc d), e) (omega arith)

-- a walk over the pieces stands at the start of one
pub start_first : (b : ℕ) (s : List ℕ) → 0 ≡ start_of b s 0
unfolding start_of
start_first b s = refl

pub start_next : (b : ℕ) (s : List ℕ) (i : ℕ) {from at : ℕ} → from ≡ start_of b s i → at ≡ next_of b s from → at < length s → at + 1 ≡ start_of b s (i + 1)
unfolding start_of
start_next b s i e f h = rw (add-one i, ← e, ← f) (omega arith)

pub start_ends : (b : ℕ) (s : List ℕ) (i k : ℕ) {from at : ℕ} → from ≡ start_of b s i → i < k → at ≡ next_of b s from → length s ≤ at → length s ≡ start_of b s k
start_ends b s i k e l f h =
    let d : i + suc (k - suc i) ≡ k = omega arith in
    let p : length s ≤ next_of b s (start_of b s i) = rw (← e, ← f) h in
    sym (start_past b s i (k - suc i) p) ∙ ap (start_of b s) d

pub start_there : (b : ℕ) (s : List ℕ) (i k : ℕ) {from : ℕ} → from ≡ start_of b s i → i ≤ k → k ≤ i → from ≡ start_of b s k
start_there b s i k e l m =
    let d : i ≡ k = omega arith in
    e ∙ ap (start_of b s) d
