-- The lines of an answer text are those that the rules list, and it is ended.
-- Assumes nothing.
use Prim.Native.Nat.{ℕ}
use mathlib.Core.Path.{◌≡◌, refl, sym, ◌∙◌, ap}
use mathlib.Core.Bool.{Bool, true, false, cond}
use mathlib.Core.List.{List, [], ◌∷◌, ◌++◌, flatten, append_assoc, append-nil}
use lib.Dec.{eqb, lit<}
use Rattle.laws.specs.Text.{bytes}
use Rattle.refusal.specs.Refusal.{granted}
use Rattle.text.specs.Pieces.{line_feed, space, joined, pieces}
use Rattle.text.specs.Numbers.{decimal_of}
use Rattle.text.proofs.Front.{free, all_free, free_parts}
use Rattle.text.proofs.Joining.{free_both, free_at, digits_free}
use Rattle.curve.specs.Basis.{basis_number, basis_words}
use Rattle.credit.specs.Answers.{Given}
use Rattle.writing.specs.Lines.{line_with, line_of}
use Rattle.answer.specs.Outcomes.{Outcome}
use Rattle.answer.specs.Outcomes.{given, fault_line}
use Rattle.answer.specs.Lines.{basis_word, granted_lines, refused_lines, answer_text}
use Rattle.review.specs.Lines.{full_lines, Ended}
use Rattle.review.proofs.FullLines.{ended_more}

-- What holds no LF, with an LF behind it, is the first line, and the others are those of the text behind it.
lines_front : (w t : List ℕ) → free line_feed w ≡ true → full_lines (w ++ (line_feed ∷ t)) ≡ (w ++ (line_feed ∷ [])) ∷ full_lines t
unfolding full_lines joined
lines_front [] t f = refl
lines_front (x ∷ w) t f = let p = free_parts line_feed x w f in rw (p.0, lines_front w t p.1)

-- some lines, each of a key and a value that hold no LF
pub data Whole : List (List ℕ) → Type 0 where
  none : Whole []
  more : (key value : List ℕ) {line : List ℕ} {lines : List (List ℕ)} → line ≡ line_with key value → free line_feed key ≡ true → free line_feed value ≡ true → Whole lines → Whole (line ∷ lines)

-- they are the lines of the text that they make,
pub whole_lines : {lines : List (List ℕ)} → Whole lines → full_lines (flatten lines) ≡ lines
unfolding full_lines flatten line_with
whole_lines none = refl
whole_lines (more key value {line} {lines} e f g w) =
    ap (λ (l : List ℕ). full_lines (l ++ flatten lines)) e
    ∙ ap full_lines (append_assoc (key ++ value) (line_feed ∷ []) (flatten lines))
    ∙ lines_front (key ++ value) (flatten lines) (free_both line_feed key value f g)
    ∙ (λ i. sym e i ∷ whole_lines w i)

-- which is ended
ended_behind : (w u : List ℕ) → Ended u → Ended (w ++ u)
ended_behind [] u e = e
ended_behind (x ∷ w) u e = ended_more x (w ++ u) (ended_behind w u e)

whole_ended : {line : List ℕ} {lines : List (List ℕ)} → Whole (line ∷ lines) → Ended (flatten (line ∷ lines))
unfolding flatten line_with
whole_ended (more key value {line} e f g none) = rw (append-nil line, e) (ended_behind (key ++ value) (line_feed ∷ []) refl)
whole_ended (more key value {line} {lines} e f g (more k v h i j w)) = ended_behind line (flatten lines) (whole_ended (more k v h i j w))

-- the lines of the rules are such lines: neither a number's digits nor the word of a basis hold an LF
numbered : (key : List ℕ) (n : ℕ) {lines : List (List ℕ)} → free line_feed key ≡ true → Whole lines → Whole (line_of key n ∷ lines)
numbered key n f w = more key (decimal_of n) refl f (digits_free line_feed n (lit< tt)) w

words_free : all_free line_feed (pieces space basis_words) ≡ true
unfolding all_free free pieces joined
words_free = refl

pub granted_whole : (g : Given) → Whole (granted_lines g)
unfolding free
granted_whole g =
    numbered (bytes "answer=") g.answer refl
    (numbered (bytes "load=") g.load refl
    (numbered (bytes "depth=") g.depth refl
    (numbered (bytes "credit=") g.percent refl
    (more (bytes "basis=") (basis_word g.basis) refl refl (free_at line_feed (pieces space basis_words) (basis_number g.basis) words_free)
    (numbered (bytes "volume=") g.volume refl
    (numbered (bytes "removed=") g.removed refl none))))))

pub refused_whole : (g : Given) (k : ℕ) → Whole (refused_lines g k)
unfolding free
refused_whole g k = numbered (bytes "answer=") g.answer refl (numbered (bytes "line=") k refl none)

-- An answer text is ended.
pub answer_ended : (o : Outcome) → Ended (answer_text o)
unfolding answer_text
answer_ended o = pick (eqb (given o).answer granted)
  where
    pick : (b : Bool) → Ended (flatten (cond b (granted_lines (given o)) (refused_lines (given o) (fault_line o))))
    pick true = whole_ended (granted_whole (given o))
    pick false = whole_ended (refused_whole (given o) (fault_line o))
