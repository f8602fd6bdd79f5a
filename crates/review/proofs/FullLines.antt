-- The lines of a text, each with its LF: against its pieces and where these begin, and put together again.
-- Assumes nothing.
use Prim.Native.Nat.{ℕ, zero, suc, ◌-◌, ◌≤◌, ◌<◌}
use mathlib.Core.Path.{◌≡◌, refl, sym, ◌∙◌, ap}
use mathlib.Core.Bool.{true, false}
use mathlib.Core.List.{List, [], ◌∷◌, ◌++◌, flatten, append_assoc}
use mathlib.Core.Logic.{⊎_elim}
use native.Mathlib.Nat.{suc-add}
use native.Mathlib.Omega.{arith}
use lib.Dec.{eqb}
use lib.ListN.{length, get_or, take, drop}
use lib.Seq.{take-nil, take-length, take-suc}
use Rattle.laws.proofs.Order.{lt_or_le, passes_or_fails}
use Rattle.text.specs.Part.{part_of}
use Rattle.text.specs.Pieces.{line_feed, index_of, before_of, joined, pieces, next_of, start_of}
use Rattle.text.proofs.Parts.{part_tail, part_head}
use Rattle.text.proofs.Splitting.{pieces_step}
use Rattle.text.proofs.Front.{free, free_parts}
use Rattle.review.specs.Lines.{full_lines, Ended}

-- a byte in front of the first of some lines: that line, the others, the first few, and all put together
pub joined_first : (x : ℕ) (ls : List (List ℕ)) → get_or (joined x ls) 0 [] ≡ x ∷ get_or ls 0 []
unfolding joined
joined_first x [] = refl
joined_first x (l ∷ ls) = refl

pub joined_later : (x : ℕ) (ls : List (List ℕ)) (k : ℕ) → get_or (joined x ls) (suc k) [] ≡ get_or ls (suc k) []
unfolding joined
joined_later x [] k = refl
joined_later x (l ∷ ls) k = refl

pub joined_take : (x : ℕ) (ls : List (List ℕ)) (k : ℕ) → take (suc k) (joined x ls) ≡ joined x (take (suc k) ls)
unfolding joined
joined_take x [] k = rw (take-nil {A = List ℕ} k)
joined_take x (l ∷ ls) k = refl

joined_flatten : (x : ℕ) (ls : List (List ℕ)) → flatten (joined x ls) ≡ x ∷ flatten ls
unfolding joined flatten
joined_flatten x [] = refl
joined_flatten x (l ∷ ls) = refl

-- what stands before the first b, with a byte in front that is not b
before_more : (b x : ℕ) (l : List ℕ) → eqb x b ≡ false → before_of b (x ∷ l) ≡ x ∷ before_of b l
unfolding index_of
before_more b x l h = rw (part_head (x ∷ l) (index_of b (x ∷ l)), part_head l (index_of b l), h)

-- Each piece of a text between LF is a line of it without its LF.
pub line_piece : (t : List ℕ) (k : ℕ) → get_or (pieces line_feed t) k [] ≡ before_of line_feed (get_or (full_lines t) k [])
unfolding full_lines pieces part_of index_of
line_piece [] zero = refl
line_piece [] (suc k) = refl
line_piece (x ∷ s) zero = let ih = line_piece s 0 in ⊎_elim
    (λ (h : eqb x line_feed ≡ true). rw (h, h))
    (λ (h : eqb x line_feed ≡ false). rw (h, joined_first x (pieces line_feed s), joined_first x (full_lines s), ih) (sym (before_more line_feed x (get_or (full_lines s) 0 []) h)))
    (passes_or_fails (eqb x line_feed))
line_piece (x ∷ s) (suc k) = let ih = line_piece s k in
    let more = line_piece s (suc k) in
    ⊎_elim
    (λ (h : eqb x line_feed ≡ true). rw h ih)
    (λ (h : eqb x line_feed ≡ false). rw (h, joined_later x (pieces line_feed s) k, joined_later x (full_lines s) k) more)
    (passes_or_fails (eqb x line_feed))

-- The lines put together are the text.
pub lines_together : (t : List ℕ) → flatten (full_lines t) ≡ t
unfolding full_lines flatten
lines_together [] = refl
lines_together (x ∷ s) = let ih = lines_together s in ⊎_elim
    (λ (h : eqb x line_feed ≡ true). rw (h, ih))
    (λ (h : eqb x line_feed ≡ false). rw (h, joined_flatten x (full_lines s), ih))
    (passes_or_fails (eqb x line_feed))

-- The first k lines and the others, put together, are the text.
flatten_parted : (ls : List (List ℕ)) (k : ℕ) → flatten ls ≡ flatten (take k ls) ++ flatten (drop k ls)
unfolding flatten
flatten_parted ls zero = refl
flatten_parted [] (suc k) = refl
flatten_parted (l ∷ ls) (suc k) = ap (λ (r : List ℕ). l ++ r) (flatten_parted ls k) ∙ sym (append_assoc l (flatten (take k ls)) (flatten (drop k ls)))

pub lines_parted : (t : List ℕ) (k : ℕ) → t ≡ flatten (take k (full_lines t)) ++ flatten (drop k (full_lines t))
lines_parted t k = sym (lines_together t) ∙ flatten_parted (full_lines t) k

-- the next b behind a text's first byte
next_more : (b x : ℕ) (s : List ℕ) (m : ℕ) → next_of b (x ∷ s) (suc m) ≡ suc (next_of b s m)
next_more b x s m = rw (part_tail (x ∷ s) (suc m), part_tail s m) (suc-add m (index_of b (drop m s)))

-- where a piece begins in a text with one byte in front: one further, and the piece's number is one more where that byte is b
start_ended : (b x : ℕ) (s : List ℕ) (k : ℕ) → eqb x b ≡ true → start_of b (x ∷ s) (suc k) ≡ suc (start_of b s k)
unfolding start_of index_of
start_ended b x s zero h = rw (part_tail (x ∷ s) 0, h) (omega arith)
start_ended b x s (suc k) h = rw (start_ended b x s k h, next_more b x s (start_of b s k)) (omega arith)

start_more : (b x : ℕ) (s : List ℕ) (k : ℕ) → eqb x b ≡ false → start_of b (x ∷ s) (suc k) ≡ suc (start_of b s (suc k))
unfolding start_of index_of
start_more b x s zero h = rw (part_tail (x ∷ s) 0, part_tail s 0, h) (omega arith)
start_more b x s (suc k) h = rw (start_more b x s k h, next_more b x s (start_of b s (suc k))) (omega arith)

-- A line begins behind the lines before it.
pub line_begins : (t : List ℕ) (k : ℕ) → start_of line_feed t k ≡ length (flatten (take k (full_lines t)))
unfolding start_of full_lines flatten
line_begins t zero = refl
line_begins [] (suc k) = omega arith
line_begins (x ∷ s) (suc k) =
    let ih = line_begins s k in
    let more = line_begins s (suc k) in
    ⊎_elim
    (λ (h : eqb x line_feed ≡ true). rw (start_ended line_feed x s k h, h, ih))
    (λ (h : eqb x line_feed ≡ false). rw (start_more line_feed x s k h, h, joined_take x (full_lines s) k, joined_flatten x (take (suc k) (full_lines s)), more))
    (passes_or_fails (eqb x line_feed))

-- a text has a piece, and with a byte in front of some lines or pieces there are as many
pub pieces_some : (b : ℕ) (s : List ℕ) → 0 < length (pieces b s)
pieces_some b s = rw (pieces_step b s) (omega arith)

joined_length : (x : ℕ) (ls : List (List ℕ)) → 0 < length ls → length (joined x ls) ≡ length ls
unfolding joined
joined_length x [] h = absurd (omega arith)
joined_length x (l ∷ ls) h = refl

pub joined_pieces : (b x : ℕ) (s : List ℕ) → length (joined x (pieces b s)) ≡ length (pieces b s)
joined_pieces b x s = joined_length x (pieces b s) (pieces_some b s)

-- as many lines, but one where there was none
joined_lines : (x : ℕ) (ls : List (List ℕ)) (k : ℕ) → suc k < length (joined x ls) → suc k < length ls
unfolding joined
joined_lines x [] k h = absurd (omega arith)
joined_lines x (l ∷ ls) k h = h

-- The first k lines of a text that has more end with LF, and so have one piece more; and they are shorter than the text.
pub taken_pieces : (s : List ℕ) (k : ℕ) → k < length (full_lines s) → length (pieces line_feed (flatten (take k (full_lines s)))) ≡ suc k
unfolding full_lines flatten pieces
taken_pieces s zero l = refl
taken_pieces [] (suc k) l = absurd (omega arith)
taken_pieces (x ∷ s) (suc k) l =
    let ih = taken_pieces s k in
    let more = taken_pieces s (suc k) in
    ⊎_elim
    (λ (h : eqb x line_feed ≡ true). let m = rw h at l in let e = ih (omega arith) in rw (h, h, e))
    (λ (h : eqb x line_feed ≡ false).
    let m = rw h at l in
    rw (h, joined_take x (full_lines s) k, joined_flatten x (take (suc k) (full_lines s)), h, joined_pieces line_feed x (flatten (take (suc k) (full_lines s)))) (more (joined_lines x (full_lines s) k m)))
    (passes_or_fails (eqb x line_feed))

pub taken_shorter : (s : List ℕ) (k : ℕ) → k < length (full_lines s) → length (flatten (take k (full_lines s))) < length s
unfolding full_lines flatten
taken_shorter [] k l = absurd (omega arith)
taken_shorter (x ∷ s) zero l = omega arith
taken_shorter (x ∷ s) (suc k) l =
    let ih = taken_shorter s k in
    let more = taken_shorter s (suc k) in
    ⊎_elim
    (λ (h : eqb x line_feed ≡ true). let m = rw h at l in let e = ih (omega arith) in rw h (omega arith))
    (λ (h : eqb x line_feed ≡ false).
    let m = rw h at l in
    let e = more (joined_lines x (full_lines s) k m) in
    rw (h, joined_take x (full_lines s) k, joined_flatten x (take (suc k) (full_lines s))) (omega arith))
    (passes_or_fails (eqb x line_feed))

-- A text has as many pieces as it has lines once it is ended by LF, and then it has one piece more.
pub ended_lines : (w : List ℕ) → length (full_lines (w ++ (line_feed ∷ []))) ≡ length (pieces line_feed w)
unfolding full_lines pieces
ended_lines [] = refl
ended_lines (x ∷ w) = let ih = ended_lines w in ⊎_elim
    (λ (h : eqb x line_feed ≡ true). rw (h, ih))
    (λ (h : eqb x line_feed ≡ false).
    let some = pieces_some line_feed w in
    rw (h, joined_pieces line_feed x w) (joined_length x (full_lines (w ++ (line_feed ∷ []))) (omega arith) ∙ ih))
    (passes_or_fails (eqb x line_feed))

ended_pieces : (w : List ℕ) → length (pieces line_feed (w ++ (line_feed ∷ []))) ≡ suc (length (pieces line_feed w))
unfolding pieces
ended_pieces [] = refl
ended_pieces (x ∷ w) = let ih = ended_pieces w in ⊎_elim
    (λ (h : eqb x line_feed ≡ true). rw (h, ih))
    (λ (h : eqb x line_feed ≡ false). rw (h, joined_pieces line_feed x (w ++ (line_feed ∷ [])), joined_pieces line_feed x w, ih))
    (passes_or_fails (eqb x line_feed))

-- Bytes that hold no LF, behind a text, are no further piece of it.
free_piece : (u : List ℕ) → free line_feed u ≡ true → length (pieces line_feed u) ≡ 1
unfolding pieces
free_piece [] f = refl
free_piece (x ∷ u) f = let p = free_parts line_feed x u f in rw (p.0, joined_pieces line_feed x u) (free_piece u p.1)

pub free_behind : (w u : List ℕ) → free line_feed u ≡ true → length (pieces line_feed (w ++ u)) ≡ length (pieces line_feed w)
unfolding pieces
free_behind [] u f = free_piece u f
free_behind (x ∷ w) u f = let ih = free_behind w u f in ⊎_elim
    (λ (h : eqb x line_feed ≡ true). rw (h, ih))
    (λ (h : eqb x line_feed ≡ false). rw (h, joined_pieces line_feed x (w ++ u), joined_pieces line_feed x w, ih))
    (passes_or_fails (eqb x line_feed))

-- A line that is ended is so with a byte in front.
pub ended_more : (x : ℕ) (l : List ℕ) → Ended l → Ended (x ∷ l)
ended_more x [] e = absurd (omega arith)
ended_more x (y ∷ l) e =
    let m : suc (suc (length l)) - 1 ≡ suc (length l) = omega arith in
    let n : suc (length l) - 1 ≡ length l = omega arith in
    rw m (rw n at e)

-- A text that is ended has one piece more than lines.
ended_split : (t : List ℕ) → Ended t → t ≡ take (length t - 1) t ++ (line_feed ∷ [])
ended_split [] e = absurd (omega arith)
ended_split (x ∷ s) e =
    let t = x ∷ s in
    let j = length t - 1 in
    let n : length t ≡ suc j = omega arith in
    sym (take-length t) ∙ ap (λ (m : ℕ). take m t) n ∙ take-suc t j 0 (omega arith) ∙ ap (λ (y : ℕ). take j t ++ (y ∷ [])) e

pub ended_count : (t : List ℕ) → Ended t → length (pieces line_feed t) ≡ suc (length (full_lines t))
ended_count t e =
    let w = take (length t - 1) t in
    let split = ended_split t e in
    ap (λ (u : List ℕ). length (pieces line_feed u)) split ∙ ended_pieces w ∙ ap suc (sym (ended_lines w)) ∙ ap (λ (u : List ℕ). suc (length (full_lines u))) (sym split)

-- So have its first k lines.
pub whole_pieces : (t : List ℕ) (k : ℕ) → Ended t → k ≤ length (full_lines t) → length (pieces line_feed (flatten (take k (full_lines t)))) ≡ suc k
whole_pieces t k e h = ⊎_elim (taken_pieces t k)
    (λ (l : length (full_lines t) ≤ k).
    let n : k ≡ length (full_lines t) = omega arith in
    rw (n, take-length (full_lines t), lines_together t) (ended_count t e))
    (lt_or_le k (length (full_lines t)))
