-- The head of a text that reads has no U: with C for U its six lines stay, and say what they said.
-- Assumes nothing.
use Rattle.std.specs.Prelude.{Option, Some, None, ℕ}
use Prim.Native.Nat.{ℕ, zero, suc, ◌<◌}
use mathlib.Core.Bool.{true}
use mathlib.Core.List.{List, [], ◌∷◌, map}
use mathlib.Core.Path.{◌≡◌, refl, sym, ◌∙◌, ap}
use native.Mathlib.Nat.{add-zero}
use native.Mathlib.Omega.{arith}
use lib.ListN.{get_or, take, drop}
use lib.Seq.{get_or-drop}
use Rattle.laws.specs.Text.{bytes}
use Rattle.laws.proofs.Map.{drop_map}
use Rattle.text.specs.Pieces.{space, pieces}
use Rattle.text.specs.Words.{place_of}
use Rattle.text.specs.Numbers.{numeral_of}
use Rattle.text.proofs.Front.{free, all_free}
use Rattle.job.specs.Words.{practice_words, nutrient_words, mode_words, task_words}
use Rattle.job.specs.Lines.{value_of}
use Rattle.job.specs.Head.{word_in, number_in, head_from, head_of}
use Rattle.job.specs.Reading.{head_lines, behind_head}
use Rattle.rewrite.specs.Rewriting.{letter_u, c_for_u}
use Rattle.job.proofs.Telling.{Grants, head_reads, never_found, never_number, numeral_digits}
use Rattle.rewrite.proofs.Texts.{word_stays, digits_stay}
use Rattle.rewrite.proofs.Lines.{lines_on_c, keys_free, words_free, none_empty, line_stays, value_stays}

-- line k stays
abbrev Stays : List (List ℕ) → ℕ → Type 0
Stays lines k = map c_for_u (get_or lines k []) ≡ get_or lines k []

-- the line of a word, and that of a number
module _ (lines : List (List ℕ)) (k : ℕ) (key : List ℕ) where
  abbrev value : List ℕ
  value = value_of key (drop k lines)

  at_front : get_or (drop k lines) 0 [] ≡ get_or lines k []
  at_front = get_or-drop k lines 0 [] ∙ ap (λ (n : ℕ). get_or lines n []) (add-zero k)

  word_line : free letter_u key ≡ true → (words : List ℕ) {j : ℕ} → all_free letter_u (pieces space words) ≡ true → place_of words [] ≡ None → word_in lines k key words ≡ Some j → Stays lines k
  word_line f words w none e =
      rw at_front at (line_stays key (drop k lines) f (word_stays (pieces space words) value 0 w e) (λ z. never_found (sym none ∙ sym (ap (place_of words) z) ∙ e)))

  number_line_lem : free letter_u key ≡ true → {n : ℕ} → number_in lines k key ≡ Some n → Stays lines k
  unfolding numeral_of
  number_line_lem f e =
      rw at_front at (line_stays key (drop k lines) f (digits_stay value (numeral_digits value e)) (λ z. never_number (sym (ap numeral_of z) ∙ e)))

  said : Stays lines k → value_of key (drop k (lines_on_c lines)) ≡ value
  said s = ap (value_of key) (drop_map (map c_for_u) k lines) ∙ value_stays key (drop k lines) (rw at_front s)

one_of_six : (P : ℕ → Type 0) → P 0 → P 1 → P 2 → P 3 → P 4 → P 5 → (k : ℕ) → k < head_lines → P k
one_of_six P a b c d e f zero h = a
one_of_six P a b c d e f (suc zero) h = b
one_of_six P a b c d e f (suc (suc zero)) h = c
one_of_six P a b c d e f (suc (suc (suc zero))) h = d
one_of_six P a b c d e f (suc (suc (suc (suc zero)))) h = e
one_of_six P a b c d e f (suc (suc (suc (suc (suc zero))))) h = f
one_of_six P a b c d e f (suc (suc (suc (suc (suc (suc k)))))) h = absurd (omega arith)

-- where the lines of a head say these words and numbers, each of them stays
abbrev StayIf : List (List ℕ) → Option ℕ → Option ℕ → Option ℕ → Option ℕ → Option ℕ → Option ℕ → Type 0
StayIf lines p n m r t a =
    word_in lines 0 (bytes "practice=") practice_words ≡ p
    → word_in lines 1 (bytes "nutrient=") nutrient_words ≡ n
    → word_in lines 2 (bytes "mode=") mode_words ≡ m
    → number_in lines 3 (bytes "rate=") ≡ r
    → word_in lines 4 (bytes "task=") task_words ≡ t
    → number_in lines 5 (bytes "amount=") ≡ a
    → (k : ℕ) → k < head_lines → Stays lines k

stay_if : (lines : List (List ℕ)) (p n m r t a : ℕ) → StayIf lines (Some p) (Some n) (Some m) (Some r) (Some t) (Some a)
stay_if lines p n m r t a e1 e2 e3 e4 e5 e6 =
    one_of_six (Stays lines)
    (word_line lines 0 (bytes "practice=") keys_free.0 practice_words words_free.0 none_empty.0 e1)
    (word_line lines 1 (bytes "nutrient=") keys_free.1 nutrient_words words_free.1 none_empty.1 e2)
    (word_line lines 2 (bytes "mode=") keys_free.2 mode_words words_free.2 none_empty.2 e3)
    (number_line_lem lines 3 (bytes "rate=") keys_free.3 e4)
    (word_line lines 4 (bytes "task=") keys_free.4 task_words words_free.3 none_empty.3 e5)
    (number_line_lem lines 5 (bytes "amount=") keys_free.5 e6)

module _ (lines : List (List ℕ)) (g : Grants (behind_head (head_of lines) lines)) where
  each_stays : (k : ℕ) → k < head_lines → Stays lines k
  unfolding head_of
  each_stays = head_reads (StayIf lines) (stay_if lines) _ _ _ _ _ _ lines g refl refl refl refl refl refl

  -- The head says what it said,
  pub head_said : head_of (lines_on_c lines) ≡ head_of lines
  unfolding head_of
  head_said =
      λ i. head_from
      (place_of practice_words (said lines 0 (bytes "practice=") (each_stays 0 (omega arith)) i))
      (place_of nutrient_words (said lines 1 (bytes "nutrient=") (each_stays 1 (omega arith)) i))
      (place_of mode_words (said lines 2 (bytes "mode=") (each_stays 2 (omega arith)) i))
      (numeral_of (said lines 3 (bytes "rate=") (each_stays 3 (omega arith)) i))
      (place_of task_words (said lines 4 (bytes "task=") (each_stays 4 (omega arith)) i))
      (numeral_of (said lines 5 (bytes "amount=") (each_stays 5 (omega arith)) i))

  -- and its lines stay.
  pub head_stays : take head_lines (lines_on_c lines) ≡ take head_lines lines
  head_stays = together head_lines lines each_stays
    where
      together : (n : ℕ) (ls : List (List ℕ)) → ((k : ℕ) → k < n → Stays ls k) → take n (lines_on_c ls) ≡ take n ls
      together zero ls h = refl
      together (suc n) [] h = refl
      together (suc n) (line ∷ ls) h =
          let a = h 0 (omega arith) in
          let b = together n ls (λ k l. h (suc k) (omega arith)) in
          λ i. a i ∷ b i
