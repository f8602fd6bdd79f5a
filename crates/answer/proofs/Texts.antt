-- The text of each outcome, line by line, its length, and how long it can be.
-- Assumes nothing.
use Rattle.std.specs.Prelude.{Ok, Err}
use Prim.Native.Nat.{ℕ, ◌+◌, ◌≤◌, ◌<◌, ◌^◌}
use mathlib.Core.Path.{◌≡◌, refl, sym, ap}
use mathlib.Core.Bool.{false}
use mathlib.Core.List.{List, [], ◌∷◌, flatten}
use native.Mathlib.Nat.{le_trans}
use native.Mathlib.Omega.{arith}
use lib.Dec.{eqb, ltb, lit<, lit≤}
use lib.ListN.{length, length-append}
use borrow.Author.Tests.{ne_eqb, le-ltb}
use Rattle.laws.specs.Text.{bytes}
use Rattle.refusal.specs.declared.Refusal.{Refusal}
use Rattle.refusal.specs.declared.Refusal.TheVariants as refused
use Rattle.refusal.specs.Refusal.{number_of, granted}
use Rattle.refusal.proofs.Numbers.{number_range, refusal_not_granted}
use Rattle.curve.specs.declared.Basis.{Basis}
use Rattle.curve.specs.declared.Basis.TheVariants.{None, Printed, Between, Start, Held}
use Rattle.curve.specs.Basis.{basis_number, basis_words}
use Rattle.credit.specs.declared.Figures.{Figures}
use Rattle.text.specs.Pieces.{space, joined, pieces}
use Rattle.text.specs.Numbers.{decimal_of}
use Rattle.answer.specs.declared.Failure.TheVariants.{Refused, BadSheet}
use Rattle.answer.specs.Outcomes.{given}
use Rattle.answer.specs.Lines.{basis_word, granted_lines, answer_text, longest, longest_refused}
use Rattle.answer.specs.Promises.{Wide}
use Rattle.writing.specs.Lines.{line_with, line_of, word_at}
use Rattle.text.proofs.Decimal.{one_digit}
use Rattle.writing.proofs.Digits.{few_digits_lem, word_digits}
use Rattle.writing.proofs.Adding.{whole_length, whole_buffer}
use Rattle.writing.specs.Writing.{put_length, buffer_of}
use Rattle.writing.specs.Writer.{all_added}
use Rattle.answer.specs.Outcomes.{Outcome}
use Rattle.answer.specs.Inner.{lines_of}

never_granted : (why : Refusal) → eqb (number_of why) granted ≡ false
never_granted why = ne_eqb (number_of why) granted (refusal_not_granted why)

-- the word at a basis's number
pub word_told : (b : Basis) {k : ℕ} → k ≡ basis_number b → word_at (pieces space basis_words) k ≡ basis_word b
unfolding word_at
word_told b e = ap (word_at (pieces space basis_words)) e

-- and none has more than seven bytes
pub word_short : (b : Basis) → length (basis_word b) ≤ 7
unfolding pieces joined
word_short None = lit≤ tt
word_short Printed = lit≤ tt
word_short Between = lit≤ tt
word_short Start = lit≤ tt
word_short Held = lit≤ tt

-- the text of a granted outcome, line by line, and its length
module _ (f : Figures) where
  granted_text : answer_text (Ok f) ≡ flatten (granted_lines (given (Ok f)))
  unfolding answer_text
  granted_text = refl

  pub granted_length : length (answer_text (Ok f))
      ≡ 54 + length (basis_word f.basis) + length (decimal_of f.load.0) + length (decimal_of f.depth.0) + length (decimal_of f.percent.0) + length (decimal_of f.volume.0) + length (decimal_of f.removed.0)
  unfolding answer_text flatten line_with
  granted_length =
      let none = ap length (one_digit granted (lit< tt)) in
      simp length-append (omega arith)

  pub granted_longest : Wide (Ok f) → length (answer_text (Ok f)) ≤ longest
  granted_longest w =
      let all = granted_length in
      let load = word_digits f.load.0 w.load in
      let depth = word_digits f.depth.0 w.depth in
      let percent = word_digits f.percent.0 w.percent in
      let volume = word_digits f.volume.0 w.volume in
      let removed = word_digits f.removed.0 w.removed in
      let basis = word_short f.basis in
      omega arith

  -- so many bytes as the longest text has are not too few
  pub granted_long_enough : {len : ℕ} → Wide (Ok f) → longest ≤ len → false ≡ ltb len (length (answer_text (Ok f)))
  granted_long_enough {len} w h = sym (le-ltb len (length (answer_text (Ok f))) (le_trans (granted_longest w) h))

-- and those of a refused one
abbrev pub number_and_line : ℕ → ℕ → List (List ℕ)
number_and_line number k = line_of (bytes "answer=") number ∷ line_of (bytes "line=") k ∷ []

module _ (why : Refusal) (k : ℕ) where
  refused_text : {number : ℕ} → number ≡ number_of why → answer_text (Err (Refused why k)) ≡ flatten (number_and_line number k)
  unfolding answer_text
  refused_text e = rw (never_granted why, e)

  pub refused_length : length (answer_text (Err (Refused why k))) ≡ 14 + length (decimal_of (number_of why)) + length (decimal_of k)
  unfolding flatten line_with
  refused_length = rw (refused_text refl) (simp length-append (omega arith))

  pub refused_longest : k < 2 ^ 64 → length (answer_text (Err (Refused why k))) ≤ longest_refused
  refused_longest h =
      let all = refused_length in
      let number = few_digits_lem 1 (number_of why) (number_range why).1 in
      let line = word_digits k h in
      omega arith

-- a sheet that breaks a rule prints what refusal 5 prints
pub sheet_text : (list place : ℕ) → answer_text (Err (Refused refused.UnfitSheet 0)) ≡ answer_text (Err (BadSheet list place))
unfolding answer_text
sheet_text list place = refl

-- The numbers of an outcome in memory have 64 bits, and no text of it is longer than the longest.
module _ {o : Outcome} where
  pub granted_wide : {f : Figures} → o ≡ Ok f → Wide (Ok f) → Wide o
  granted_wide e w = rw e w

  pub refused_wide : {why : Refusal} {k : ℕ} → o ≡ Err (Refused why k) → k < 2 ^ 64 → Wide o
  refused_wide e h = rw e (record { line = h; load = lit< tt; depth = lit< tt; percent = lit< tt; volume = lit< tt; removed = lit< tt })

  pub sheet_wide : {list place : ℕ} → o ≡ Err (BadSheet list place) → Wide o
  sheet_wide e = rw e (record { line = lit< tt; load = lit< tt; depth = lit< tt; percent = lit< tt; volume = lit< tt; removed = lit< tt })

  pub granted_never_longer : {f : Figures} → o ≡ Ok f → Wide (Ok f) → length (answer_text o) ≤ longest
  granted_never_longer {f} e w = rw e (granted_longest f w)

  pub refused_never_longer : {why : Refusal} {k : ℕ} → o ≡ Err (Refused why k) → k < 2 ^ 64 → length (answer_text o) ≤ longest
  refused_never_longer {why} {k} e h = let l = refused_longest why k h in rw e (omega arith)

  pub sheet_never_longer : {list place : ℕ} → o ≡ Err (BadSheet list place) → length (answer_text o) ≤ longest
  sheet_never_longer {list} {place} e = let l = refused_longest refused.UnfitSheet 0 (lit< tt) in rw (e, ← sheet_text list place) (omega arith)

-- The text of an outcome is its lines, one behind the other.
text_whole : (o : Outcome) → answer_text o ≡ flatten (lines_of o)
unfolding answer_text
text_whole (Ok f) = refl
text_whole (Err (Refused why k)) = rw (never_granted why)
text_whole (Err (BadSheet list place)) = refl

-- So where it fits, it stands at the start of a buffer into which they were put.
module _ (o : Outcome) (d : List ℕ) (h : length (answer_text o) ≤ length d) {s : List ℕ × ℕ} (a : s ≡ all_added (d, 0) (lines_of o)) where
  pub put_length_told : s.1 ≡ put_length d (answer_text o)
  put_length_told = whole_length d (answer_text o) (lines_of o) (text_whole o) h a

  pub put_buffer_told : s.0 ≡ buffer_of d (answer_text o)
  put_buffer_told = whole_buffer d (answer_text o) (lines_of o) (text_whole o) h a
