-- The lines of a text: a written line reads as what it says, and a line that reads is the one that is written.
-- Assumes nothing.
use Prim.Native.Nat.{ℕ, ◌≤◌}
use mathlib.Core.Bool.{true}
use mathlib.Core.List.{List, [], ◌∷◌, ◌++◌, append_assoc}
use mathlib.Core.Path.{◌≡◌, sym, ◌∙◌, ap}
use native.Mathlib.Omega.{arith}
use lib.ListN.{length, drop}
use lib.Seq.{take-append_seam, drop-append_seam}
use Rattle.text.specs.Pieces.{line_feed}
use Rattle.text.specs.Words.{opens_of}
use Rattle.text.proofs.Parts.{part_tail, part_head}
use Rattle.text.proofs.Alike.{same_itself}
use Rattle.text.proofs.Splitting.{pieces_step}
use Rattle.text.proofs.Front.{free}
use Rattle.text.proofs.Joining.{together, pieces_front, free_both}
use Rattle.writing.specs.Lines.{line_with}
use Rattle.job.specs.Lines.{lines_of, value_of}
use Rattle.job.proofs.Telling.{keyed_line}

-- A line whose key and value hold no line feed, written in front of a text, is the first of its lines, and the others are the text's.
pub first_line : (key w : List ℕ) → free line_feed key ≡ true → free line_feed w ≡ true → (t : List ℕ)
    → lines_of (line_with key w ++ t) ≡ (key ++ w) ∷ lines_of t
unfolding line_with
first_line key w f g t =
    ap lines_of (append_assoc (key ++ w) (line_feed ∷ []) t) ∙ pieces_front line_feed (key ++ w) t (free_both line_feed key w f g)

-- Where lines stand behind it, it says the value.
opens_own : (key w : List ℕ) → opens_of key (key ++ w) ≡ true
opens_own key w = rw (part_head (key ++ w) (length key), take-append_seam key w) (same_itself key)

pub own_value : (key w : List ℕ) (ls : List (List ℕ)) → 1 ≤ length ls → value_of key ((key ++ w) ∷ ls) ≡ w
unfolding value_of
own_value key w [] h = absurd (omega arith)
own_value key w (next ∷ others) h = rw (opens_own key w, part_tail (key ++ w) (length key)) (drop-append_seam key w)

pub some_line : (t : List ℕ) → 1 ≤ length (lines_of t)
some_line t = rw (pieces_step line_feed t) (omega arith)

-- A first line that says something is the line of the key and of what it says.
pub line_written : (key : List ℕ) (ls : List (List ℕ)) → 1 ≤ length (value_of key ls)
    → together line_feed ls ≡ line_with key (value_of key ls) ++ together line_feed (drop 1 ls)
unfolding value_of together line_with
line_written key [] h = absurd (omega arith)
line_written key (unended ∷ []) h = absurd (omega arith)
line_written key (line ∷ next ∷ others) h =
    let v = value_of key (line ∷ next ∷ others) in
    ap (λ (l : List ℕ). l ++ (line_feed ∷ together line_feed (next ∷ others)))
    (keyed_line key (line ∷ next ∷ others) (λ z. let n = ap length z in absurd (omega arith)))
    ∙ sym (append_assoc (key ++ v) (line_feed ∷ []) (together line_feed (next ∷ others)))
