-- Where two texts part: what they have in common, and that the line they part in is the first of theirs that is wrong.
-- Assumes nothing.
use Prim.Native.Nat.{ℕ, zero, suc, ◌≤◌, ◌<◌}
use mathlib.Core.Path.{◌≡◌, refl, sym, ◌∙◌, ap}
use mathlib.Core.Bool.{true, false, cond}
use mathlib.Core.List.{List, [], ◌∷◌, ◌++◌}
use mathlib.Core.Logic.{⊎_elim}
use native.Mathlib.Omega.{arith}
use lib.Dec.{eqb}
use lib.ListN.{length, get_or, take, length-append}
use lib.Seq.{get_or-take}
use borrow.Author.Tests.{eq-eqb, ne_eqb, eqb-true, eqb-false}
use Rattle.laws.proofs.Order.{lt_or_le, passes_or_fails, never_both}
use Rattle.text.specs.Pieces.{line_feed, joined, pieces}
use Rattle.text.specs.Words.{same_of, agreed_of}
use Rattle.text.proofs.Alike.{longer_differs}
use Rattle.text.proofs.Front.{free, free_parts}
use Rattle.review.specs.Checking.{wrong_line}
use Rattle.review.specs.Lines.{full_lines, Ended}
use Rattle.review.specs.Promises.{FirstWrongLine}
use Rattle.review.proofs.FullLines.{joined_first, joined_later, joined_take, joined_pieces, pieces_some, ended_more}

-- A text has itself in common with one that goes on behind it, and is not the same.
pub agreed_longer : (s u : List ℕ) → agreed_of s (s ++ u) ≡ s
unfolding agreed_of
agreed_longer [] u = refl
agreed_longer (x ∷ s) u = rw (eq-eqb x x refl, agreed_longer s u)

pub agreed_shorter : (s u : List ℕ) → agreed_of (s ++ u) s ≡ s
unfolding agreed_of
agreed_shorter [] [] = refl
agreed_shorter [] (y ∷ u) = refl
agreed_shorter (x ∷ s) u = rw (eq-eqb x x refl, agreed_shorter s u)

-- Behind what both begin with, they have in common what their rests have; and that holds no LF where one of the rests holds none.
pub agreed_behind : (w s t : List ℕ) → agreed_of (w ++ s) (w ++ t) ≡ w ++ agreed_of s t
unfolding agreed_of
agreed_behind [] s t = refl
agreed_behind (x ∷ w) s t = rw (eq-eqb x x refl, agreed_behind w s t)

pub agreed_free : (s t : List ℕ) → free line_feed t ≡ true → free line_feed (agreed_of s t) ≡ true
unfolding agreed_of free
agreed_free [] t f = refl
agreed_free (x ∷ s) [] f = refl
agreed_free (x ∷ s) (y ∷ t) f =
    let p = free_parts line_feed y t f in
    let ih = agreed_free s t p.1 in
    ⊎_elim
    (λ (h : eqb x y ≡ true). rw (h, eqb-true x y h, p.0) ih)
    (λ (h : eqb x y ≡ false). rw h refl)
    (passes_or_fails (eqb x y))

-- bytes of which none is LF, as a test
pub free_all : (t : List ℕ) → ((i : ℕ) → i < length t → get_or t i 0 ≡ line_feed → ⊥) → free line_feed t ≡ true
unfolding free
free_all [] ne = refl
free_all (x ∷ t) ne = rw (ne_eqb x line_feed (ne 0 (omega arith))) (free_all t (λ i l. ne (suc i) (omega arith)))

pub longer_other : (s : List ℕ) (x : ℕ) (u : List ℕ) → same_of s (s ++ (x ∷ u)) ≡ false
longer_other s x u = sym (longer_differs s (s ++ (x ∷ u)) (λ e. let l = length-append s (x ∷ u) in omega arith))

pub shorter_other : (s t : List ℕ) → length t < length s → same_of s t ≡ false
shorter_other s t l = sym (longer_differs s t (λ e. omega arith))

-- a text's first line has its first byte in front
first_byte : (x : ℕ) (s : List ℕ) → get_or (get_or (full_lines (x ∷ s)) 0 []) 0 0 ≡ x
unfolding full_lines
first_byte x s = ⊎_elim
    (λ (h : eqb x line_feed ≡ true). rw h)
    (λ (h : eqb x line_feed ≡ false). rw (h, joined_first x (full_lines s)))
    (passes_or_fails (eqb x line_feed))

first_some : (x : ℕ) (s : List ℕ) → get_or (full_lines (x ∷ s)) 0 [] ≡ [] → ⊥
unfolding full_lines
first_some x s e = ⊎_elim
    (λ (h : eqb x line_feed ≡ true). let f = rw h at e in let z : ◌≡◌ {A = ℕ} 0 1 = cc in omega arith)
    (λ (h : eqb x line_feed ≡ false). let f = rw (h, joined_first x (full_lines s)) at e in let z : ◌≡◌ {A = ℕ} 0 1 = cc in omega arith)
    (passes_or_fails (eqb x line_feed))

-- they part in the first line
parted_here : (s t : List ℕ) (k : ℕ) → 1 ≡ suc k → (get_or (full_lines t) 0 [] ≡ get_or (full_lines s) 0 [] → ⊥) → FirstWrongLine s t k
parted_here s t zero e ne = record { ended = λ i h. absurd (omega arith); same = refl; wrong = ne }
parted_here s t (suc k) e ne = absurd (omega arith)

-- one more line in common
parted_line : (x : ℕ) (s t : List ℕ) (k : ℕ) → eqb x line_feed ≡ true → FirstWrongLine s t k → FirstWrongLine (x ∷ s) (x ∷ t) (suc k)
unfolding full_lines
parted_line x s t k h p =
    record {
      ended = ended;
      same = rw (h, p.same);
      wrong = rw h p.wrong;
    }
  where
    ended : (i : ℕ) → i < suc k → Ended (get_or (cond (eqb x line_feed) ((x ∷ []) ∷ full_lines t) (joined x (full_lines t))) i [])
    ended zero l = rw h (eqb-true x line_feed h)
    ended (suc i) l = rw h (p.ended i (omega arith))

-- one more byte in common
parted_byte : (x : ℕ) (s t : List ℕ) (k : ℕ) → eqb x line_feed ≡ false → FirstWrongLine s t k → FirstWrongLine (x ∷ s) (x ∷ t) k
unfolding full_lines
parted_byte x s t k h p =
    record {
      ended = ended;
      same = rw h (same k p.same);
      wrong = rw h (wrong k p.wrong);
    }
  where
    ended : (i : ℕ) → i < k → Ended (get_or (cond (eqb x line_feed) ((x ∷ []) ∷ full_lines t) (joined x (full_lines t))) i [])
    ended zero l = rw (h, joined_first x (full_lines t)) (ended_more x (get_or (full_lines t) 0 []) (p.ended 0 l))
    ended (suc i) l = rw (h, joined_later x (full_lines t) i) (p.ended (suc i) l)

    same : (k : ℕ) → take k (full_lines t) ≡ take k (full_lines s) → take k (joined x (full_lines t)) ≡ take k (joined x (full_lines s))
    same zero e = refl
    same (suc k) e = rw (joined_take x (full_lines t) k, joined_take x (full_lines s) k, e)

    wrong : (k : ℕ) → (get_or (full_lines t) k [] ≡ get_or (full_lines s) k [] → ⊥) → get_or (joined x (full_lines t)) k [] ≡ get_or (joined x (full_lines s)) k [] → ⊥
    wrong zero ne e =
        let f = rw (joined_first x (full_lines t), joined_first x (full_lines s)) at e in
        let g : get_or (full_lines t) 0 [] ≡ get_or (full_lines s) 0 [] = cc in
        ne g
    wrong (suc k) ne e = ne (rw (joined_later x (full_lines t) k, joined_later x (full_lines s) k) at e)

-- one more byte in common, LF or not
parted_more : (x : ℕ) (s t : List ℕ) (k : ℕ) → length (pieces line_feed (x ∷ agreed_of s t)) ≡ suc k → ((j : ℕ) → wrong_line s t ≡ suc j → FirstWrongLine s t j) → FirstWrongLine (x ∷ s) (x ∷ t) k
unfolding pieces
parted_more x s t k e more = ⊎_elim
    (λ (h : eqb x line_feed ≡ true). line k h (rw h at e))
    (λ (h : eqb x line_feed ≡ false). parted_byte x s t k h (more k (rw (h, joined_pieces line_feed x (agreed_of s t)) at e)))
    (passes_or_fails (eqb x line_feed))
  where
    line : (k : ℕ) → eqb x line_feed ≡ true → suc (wrong_line s t) ≡ suc k → FirstWrongLine (x ∷ s) (x ∷ t) k
    line zero h e = let some = pieces_some line_feed (agreed_of s t) in absurd (omega arith)
    line (suc k) h e = parted_line x s t k h (more k (omega arith))

-- Two texts that are not the same part in the line of which what they have in common has so many pieces.
pub parted : (s t : List ℕ) (k : ℕ) → same_of s t ≡ false → wrong_line s t ≡ suc k → FirstWrongLine s t k
unfolding same_of agreed_of pieces full_lines
parted [] [] k d e = absurd (never_both refl d)
parted [] (y ∷ t) k d e = parted_here [] (y ∷ t) k e (first_some y t)
parted (x ∷ s) [] k d e = parted_here (x ∷ s) [] k e (λ f. first_some x s (sym f))
parted (x ∷ s) (y ∷ t) k d e =
    let ih = parted s t in
    ⊎_elim
    (λ (h : eqb x y ≡ true).
    let g = rw h at d in
    let l = rw h at e in
    rw (← (eqb-true x y h)) (parted_more x s t k l (λ j. ih j g)))
    (λ (h : eqb x y ≡ false).
    let l = rw h at e in
    parted_here (x ∷ s) (y ∷ t) k l
    (λ f. eqb-false x y h (sym (first_byte x s) ∙ ap (λ (l : List ℕ). get_or l 0 0) (sym f) ∙ first_byte y t)))
    (passes_or_fails (eqb x y))

-- No two lines are the first that is wrong.
parted_once : {s t : List ℕ} {j k : ℕ} → FirstWrongLine s t j → FirstWrongLine s t k → j < k → ⊥
parted_once {s} {t} {j} {k} p q l =
    p.wrong
    (sym (get_or-take k (full_lines t) j [] l)
    ∙ ap (λ (ls : List (List ℕ)). get_or ls j []) q.same
    ∙ get_or-take k (full_lines s) j [] l)

pub only_line : {ours claimed : List ℕ} {j k : ℕ} → FirstWrongLine ours claimed j → FirstWrongLine ours claimed k → j ≡ k
only_line {j = j} {k = k} p q = ⊎_elim
    (λ (l : j < k). absurd (parted_once p q l))
    (λ (l : k ≤ j). ⊎_elim (λ (m : k < j). absurd (parted_once q p m)) (λ (m : j ≤ k). omega arith) (lt_or_le k j))
    (lt_or_le j k)
