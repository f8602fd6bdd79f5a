-- The head of a job text: the six lines that are written read as the job, and six lines that read are those that are written.
-- Assumes nothing.
use Rattle.std.specs.Prelude.{Some, Result}
use Prim.Native.Nat.{ℕ, ◌+◌, ◌^◌, ◌≤◌, ◌<◌}
use mathlib.Core.Bool.{true}
use mathlib.Core.List.{List, ◌∷◌, ◌++◌, flatten, map}
use mathlib.Core.Path.{◌≡◌, refl, sym, ◌∙◌, ap}
use native.Mathlib.Omega.{arith}
use lib.Dec.{lit<}
use lib.ListN.{length, drop}
use lib.Seq.{drop-drop}
use Rattle.laws.specs.Text.{bytes}
use Rattle.site.specs.declared.SubArea.{SubArea}
use Rattle.site.specs.Parts.{empty_site}
use Rattle.text.specs.Pieces.{line_feed, space, pieces}
use Rattle.text.specs.Words.{place_of}
use Rattle.text.specs.Numbers.{most_digits, numeral_of, decimal_of}
use Rattle.text.proofs.Front.{free, all_free}
use Rattle.text.proofs.Decimal.{written_reads_back, number_digits}
use Rattle.text.proofs.Joining.{together, free_at, digits_free}
use Rattle.writing.specs.Lines.{line_with, line_of}
use Rattle.writing.proofs.Digits.{some_digit}
use Rattle.job.specs.declared.Job.{Job}
use Rattle.job.specs.declared.Reading.{Reading}
use Rattle.job.specs.declared.Unread.{Unread}
use Rattle.job.specs.Words.{practice_words, nutrient_words, mode_words, task_words, nutrient_at, mode_at, task_at, nutrient_place, mode_place, task_place}
use Rattle.job.specs.Lines.{lines_of, value_of}
use Rattle.job.specs.Head.{word_in, number_in, head_from, head_of}
use Rattle.job.specs.Areas.{areas_from}
use Rattle.job.specs.Reading.{head_lines, behind_head}
use Rattle.job.proofs.Telling.{Grants, head_reads}
use Rattle.jobtext.specs.Text.{word_at, area_text, job_text}
use Rattle.jobtext.proofs.Words.{FoundAt, Spells, practice_reads, nutrient_reads, mode_reads, task_reads, practice_written, nutrient_written, mode_written, task_written, words_ended}
use Rattle.jobtext.proofs.Lines.{first_line, own_value, some_line, line_written}

-- a line of a word and one of a number, written in front of a text
word_first : (key words : List ℕ) (k : ℕ) → free line_feed key ≡ true → all_free line_feed (pieces space words) ≡ true → (t : List ℕ)
    → lines_of (line_with key (word_at words k) ++ t) ≡ (key ++ word_at words k) ∷ lines_of t
word_first key words k f g t = first_line key (word_at words k) f (free_at line_feed (pieces space words) k g) t

number_first : (key : List ℕ) (n : ℕ) → free line_feed key ≡ true → (t : List ℕ)
    → lines_of (line_of key n ++ t) ≡ (key ++ decimal_of n) ∷ lines_of t
number_first key n f t = first_line key (decimal_of n) f (digits_free line_feed n (lit< tt)) t

-- what they say where lines stand behind them
word_says : (key words : List ℕ) (k : ℕ) (ls : List (List ℕ)) → 1 ≤ length ls → FoundAt words k
    → place_of words (value_of key ((key ++ word_at words k) ∷ ls)) ≡ Some k
word_says key words k ls h e = ap (place_of words) (own_value key (word_at words k) ls h) ∙ e

number_says : (key : List ℕ) (n : ℕ) (ls : List (List ℕ)) → 1 ≤ length ls → n < 10 ^ most_digits
    → numeral_of (value_of key ((key ++ decimal_of n) ∷ ls)) ≡ Some n
number_says key n ls h l = ap numeral_of (own_value key (decimal_of n) ls h) ∙ written_reads_back n l

-- the lines of a text that is written
module _ (j : Job) (ps : List SubArea) where
  abbrev behind : List (List ℕ)
  behind = lines_of (flatten (map area_text ps))

  abbrev written : List (List ℕ)
  written =
      (bytes "practice=" ++ word_at practice_words j.practice)
      ∷ (bytes "nutrient=" ++ word_at nutrient_words (nutrient_place j.nutrient))
      ∷ (bytes "mode=" ++ word_at mode_words (mode_place j.mode))
      ∷ (bytes "rate=" ++ decimal_of j.rate.0)
      ∷ (bytes "task=" ++ word_at task_words (task_place j.task))
      ∷ (bytes "amount=" ++ decimal_of j.amount)
      ∷ behind

  written_lines : lines_of (job_text j ps) ≡ written
  unfolding job_text flatten free
  written_lines =
      rw (
        word_first (bytes "practice=") practice_words j.practice refl words_ended.0,
        word_first (bytes "nutrient=") nutrient_words (nutrient_place j.nutrient) refl words_ended.1,
        word_first (bytes "mode=") mode_words (mode_place j.mode) refl words_ended.2,
        number_first (bytes "rate=") j.rate.0 refl,
        word_first (bytes "task=") task_words (task_place j.task) refl words_ended.3,
        number_first (bytes "amount=") j.amount refl,
      )

  -- The head that is written reads as the job, and the areas are read behind it.
  pub head_read : j.practice ≤ 8 → j.rate.0 < 10 ^ most_digits → j.amount < 10 ^ most_digits
      → behind_head (head_of (lines_of (job_text j ps))) (lines_of (job_text j ps)) ≡ areas_from j behind (head_lines + 1) empty_site
  unfolding head_of head_from behind_head
  head_read practice rate amount =
      rw written_lines
      ((λ i. behind_head
      (head_from
      (word_says (bytes "practice=") practice_words j.practice (drop 1 written) (omega arith) (practice_reads j.practice practice) i)
      (word_says (bytes "nutrient=") nutrient_words (nutrient_place j.nutrient) (drop 2 written) (omega arith) (nutrient_reads j.nutrient).0 i)
      (word_says (bytes "mode=") mode_words (mode_place j.mode) (drop 3 written) (omega arith) (mode_reads j.mode).0 i)
      (number_says (bytes "rate=") j.rate.0 (drop 4 written) (omega arith) rate i)
      (word_says (bytes "task=") task_words (task_place j.task) (drop 5 written) (omega arith) (task_reads j.task).0 i)
      (number_says (bytes "amount=") j.amount behind (some_line (flatten (map area_text ps))) amount i))
      written)
      ∙ (λ i. areas_from
      (record {
        practice = j.practice;
        nutrient = (nutrient_reads j.nutrient).1 i;
        mode = (mode_reads j.mode).1 i;
        rate = j.rate;
        task = (task_reads j.task).1 i;
        amount = j.amount;
      })
      behind
      (head_lines + 1)
      empty_site))

-- What a head that reads tells: the job, whose areas are read behind it, and the bytes, which are those of the job's text where the
-- bytes behind the head are those of some sub-areas.
pub record HeadTold (lines : List (List ℕ)) (r : Result Reading Unread) : Type 0 where
  pub job : Job
  pub read : r ≡ areas_from job (drop head_lines lines) (head_lines + 1) empty_site
  pub practice : job.practice ≤ 8
  pub rate : job.rate.0 < 10 ^ most_digits
  pub amount : job.amount < 10 ^ most_digits
  pub text : (ps : List SubArea) → together line_feed (drop head_lines lines) ≡ flatten (map area_text ps) → together line_feed lines ≡ job_text job ps

module _ (lines : List (List ℕ)) where
  -- line k, of a word and of a number
  word_line : (k : ℕ) (key words : List ℕ) (i : ℕ) → Spells words i (value_of key (drop k lines))
      → together line_feed (drop k lines) ≡ line_with key (word_at words i) ++ together line_feed (drop (k + 1) lines)
  word_line k key words i s =
      line_written key (drop k lines) s.0
      ∙ (λ z. line_with key (sym s.1 z) ++ together line_feed (drop-drop 1 k lines z))

  number_line_lem : (k : ℕ) (key : List ℕ) {n : ℕ} → number_in lines k key ≡ Some n
      → together line_feed (drop k lines) ≡ line_of key n ++ together line_feed (drop (k + 1) lines)
  number_line_lem k key {n} e =
      let d = (number_digits (value_of key (drop k lines)) e).0 in
      let some = some_digit n in
      let long = ap length d in
      line_written key (drop k lines) (omega arith)
      ∙ (λ i. line_with key (sym d i) ++ together line_feed (drop-drop 1 k lines i))

  told : (p n m r t a : ℕ)
      → word_in lines 0 (bytes "practice=") practice_words ≡ Some p
      → word_in lines 1 (bytes "nutrient=") nutrient_words ≡ Some n
      → word_in lines 2 (bytes "mode=") mode_words ≡ Some m
      → number_in lines 3 (bytes "rate=") ≡ Some r
      → word_in lines 4 (bytes "task=") task_words ≡ Some t
      → number_in lines 5 (bytes "amount=") ≡ Some a
      → HeadTold lines (behind_head (head_from (Some p) (Some n) (Some m) (Some r) (Some t) (Some a)) lines)
  unfolding head_from behind_head job_text flatten
  told p n m r t a e1 e2 e3 e4 e5 e6 =
      let practice = practice_written (value_of (bytes "practice=") lines) e1 in
      record {
        job = record { practice = p; nutrient = nutrient_at n; mode = mode_at m; rate = record { 0 = r }; task = task_at t; amount = a };
        read = refl;
        practice = practice.0;
        rate = (number_digits (value_of (bytes "rate=") (drop 3 lines)) e4).1;
        amount = (number_digits (value_of (bytes "amount=") (drop 5 lines)) e6).1;
        text = λ ps f.
            word_line 0 (bytes "practice=") practice_words p practice.1
            ∙ ap (λ (u : List ℕ). line_with (bytes "practice=") (word_at practice_words p) ++ u)
            (word_line 1 (bytes "nutrient=") nutrient_words (nutrient_place (nutrient_at n)) (nutrient_written (value_of (bytes "nutrient=") (drop 1 lines)) e2)
            ∙ ap (λ (u : List ℕ). line_with (bytes "nutrient=") (word_at nutrient_words (nutrient_place (nutrient_at n))) ++ u)
            (word_line 2 (bytes "mode=") mode_words (mode_place (mode_at m)) (mode_written (value_of (bytes "mode=") (drop 2 lines)) e3)
            ∙ ap (λ (u : List ℕ). line_with (bytes "mode=") (word_at mode_words (mode_place (mode_at m))) ++ u)
            (number_line_lem 3 (bytes "rate=") e4
            ∙ ap (λ (u : List ℕ). line_of (bytes "rate=") r ++ u)
            (word_line 4 (bytes "task=") task_words (task_place (task_at t)) (task_written (value_of (bytes "task=") (drop 4 lines)) e5)
            ∙ ap (λ (u : List ℕ). line_with (bytes "task=") (word_at task_words (task_place (task_at t))) ++ u)
            (number_line_lem 5 (bytes "amount=") e6 ∙ ap (λ (u : List ℕ). line_of (bytes "amount=") a ++ u) f)))));
      }

  pub head_told : Grants (behind_head (head_of lines) lines) → HeadTold lines (behind_head (head_of lines) lines)
  unfolding head_of
  head_told g =
      head_reads
      (λ p n m r t a.
      word_in lines 0 (bytes "practice=") practice_words ≡ p
      → word_in lines 1 (bytes "nutrient=") nutrient_words ≡ n
      → word_in lines 2 (bytes "mode=") mode_words ≡ m
      → number_in lines 3 (bytes "rate=") ≡ r
      → word_in lines 4 (bytes "task=") task_words ≡ t
      → number_in lines 5 (bytes "amount=") ≡ a
      → HeadTold lines (behind_head (head_from p n m r t a) lines))
      told
      _ _ _ _ _ _ lines g refl refl refl refl refl refl
