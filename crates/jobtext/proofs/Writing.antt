-- What writing answers, and what the buffer holds, by the record, the tests and the two lengths.
-- Assumes nothing.
use Rattle.std.specs.Prelude.{Result, Ok, Err}
use Prim.Native.Nat.{ℕ, ◌≤◌, ◌<◌, ◌^◌}
use mathlib.Core.Bool.{Bool, true, false, not, cond, ◌&&◌}
use mathlib.Core.List.{List, [], ◌∷◌}
use mathlib.Core.Path.{◌≡◌, refl, sym, ◌∙◌, ap}
use native.Mathlib.Nat.{le_trans}
use native.Mathlib.Omega.{arith}
use borrow.Author.Tests.{le-leb, lt-ltb, le-ltb, leb-true, ltb-true, not-true, not-false}
use lib.Dec.{leb, ltb}
use lib.ListN.{length}
use Rattle.laws.specs.Turn.{in_turn}
use Rattle.laws.proofs.And.{and_left, and_right}
use Rattle.refusal.specs.Refusal.{granted}
use Rattle.refusal.specs.declared.Refusal.{Refusal}
use Rattle.refusal.specs.declared.Refusal.TheVariants.{MalformedText, BufferTooShort}
use Rattle.units.specs.declared.Area.{Area}
use Rattle.site.specs.declared.SubArea.{SubArea}
use Rattle.site.specs.declared.Site.{Site}
use Rattle.site.specs.Parts.{most_parts, parts_of}
use Rattle.site.specs.Judging.{judged, given}
use Rattle.site.proofs.Judging.{judged_fine, goes_on, stops}
use Rattle.site.proofs.Promises.{given_some}
use Rattle.text.specs.Pieces.{space, joined, pieces}
use Rattle.text.specs.Numbers.{most_digits}
use Rattle.job.specs.declared.Job.{Job}
use Rattle.job.specs.Words.{practice_words}
use Rattle.writing.specs.Writing.{written_of, put_length, buffer_of}
use Rattle.writing.proofs.Writing.{short_told, long_told, refused_answer, refused_buffer, granted_put}
use Rattle.jobtext.specs.Text.{has_word, job_text, few_digits, writable, job_written, job_buffer, longest}
use Rattle.jobtext.specs.Inner.{passes}
use Rattle.jobtext.proofs.Lengths.{job_short}

-- nine practices have a word
nine : length (pieces space practice_words) ≡ 9
unfolding pieces joined
nine = refl

-- the tests of a job, with that number
pub passes_is : (j : Job) (count : ℕ) → passes j count ≡ (leb 1 count && ltb j.practice 9 && ltb j.rate.0 (10 ^ most_digits) && ltb j.amount (10 ^ most_digits))
passes_is j count = rw nine

-- What the tests ask, where all pass.
pub record Tested (j : Job) (count : ℕ) : Type 0 where
  pub some : 1 ≤ count
  pub practice : j.practice ≤ 8
  pub rate : j.rate.0 < 10 ^ most_digits
  pub amount : j.amount < 10 ^ most_digits

pub tested : (j : Job) (count : ℕ) → passes j count ≡ true → Tested j count
tested j count e =
    let some = leb 1 count in
    let word = has_word practice_words j.practice in
    let rate = few_digits j.rate.0 in
    let three = and_left (some && word && rate) (few_digits j.amount) e in
    let two = and_left (some && word) rate three in
    let p = ltb-true j.practice (length (pieces space practice_words)) (and_right some word two) in
    let n = nine in
    record {
      some = leb-true 1 count (and_left some word two);
      practice = omega arith;
      rate = ltb-true j.rate.0 (10 ^ most_digits) (and_right (some && word) rate three);
      amount = ltb-true j.amount (10 ^ most_digits) (and_right (some && word && rate) (few_digits j.amount) e);
    }

pub tests_pass : (j : Job) (count : ℕ) → Tested j count → true ≡ passes j count
tests_pass j count t =
    let p = t.practice in
    rw (passes_is j count, le-leb 1 count t.some, lt-ltb j.practice 9 (omega arith), lt-ltb j.rate.0 (10 ^ most_digits) t.rate, lt-ltb j.amount (10 ^ most_digits) t.amount)

-- What is known of a record that is judged fine, and of a job that passes with it.
module _ (s : Site) (fine : (given (judged s)).0 ≡ granted) where
  judged_count : s.count ≤ most_parts
  judged_count = let g = given_some (judged s) fine in (judged_fine s g.0 g.1).count

  passed_short : (j : Job) → passes j s.count ≡ true → length (job_text j (parts_of s)) ≤ longest
  passed_short j p = let t = tested j s.count p in job_short j s fine t.rate t.amount

pub long_enough : (j : Job) (ps : List SubArea) (len : ℕ) → length (job_text j ps) ≤ longest → longest ≤ len → false ≡ ltb len (length (job_text j ps))
long_enough j ps len s h = sym (le-ltb len (length (job_text j ps)) (le_trans s h))

-- The tests in turn give what all of them together give.
module _ {A : Type 0} (refused : Refusal → A) (x : A) where
  four : (a b c e : Bool)
      → in_turn refused x ((a, MalformedText) ∷ (b, MalformedText) ∷ (c, MalformedText) ∷ (e, MalformedText) ∷ []) ≡ cond (a && b && c && e) x (refused MalformedText)
  four true true true e = refl
  four true true false e = refl
  four true false c e = refl
  four false b c e = refl

  turned : (j : Job) (s : Site) → in_turn refused x (writable j s) ≡ cond (passes j s.count) x (refused MalformedText)
  turned j s = four (leb 1 s.count) (has_word practice_words j.practice) (few_digits j.rate.0) (few_digits j.amount)

-- A record that is refused stops the call,
module _ (d : List ℕ) (j : Job) (s : Site) {found : Result Area Refusal} (e : found ≡ judged s) where
  abbrev text : List ℕ
  text = job_text j (parts_of s)

  pub record_stops : {why : Refusal} → found ≡ Err why → Err why ≡ job_written d j s
  unfolding job_written
  record_stops f = stops Err (λ total. in_turn Err (written_of d text) (writable j s)) s e f

  pub record_keeps : {why : Refusal} → found ≡ Err why → d ≡ job_buffer d j s
  unfolding job_buffer
  record_keeps f = stops (λ why. d) (λ total. in_turn (λ why. d) (buffer_of d text) (writable j s)) s e f

  fine : {total : Area} → found ≡ Ok total → (given (judged s)).0 ≡ granted
  fine f = ap (λ (x : Result Area Refusal). (given x).0) (sym e ∙ f)

  -- one that is judged fine has its sub-areas,
  pub count_fits : {total : Area} → found ≡ Ok total → s.count ≤ most_parts
  count_fits f = judged_count s (fine f)

  module _ {total : Area} (f : found ≡ Ok total) {ok : Bool} (p : ok ≡ passes j s.count) where
    answered : cond ok (written_of d text) (Err MalformedText) ≡ job_written d j s
    unfolding job_written
    answered =
        ap (λ (b : Bool). cond b (written_of d text) (Err MalformedText)) p
        ∙ sym (turned Err (written_of d text) j s)
        ∙ goes_on Err (λ total. in_turn Err (written_of d text) (writable j s)) s e f

    left : cond ok (buffer_of d text) d ≡ job_buffer d j s
    unfolding job_buffer
    left =
        ap (λ (b : Bool). cond b (buffer_of d text) d) p
        ∙ sym (turned (λ why. d) (buffer_of d text) j s)
        ∙ goes_on (λ why. d) (λ total. in_turn (λ why. d) (buffer_of d text) (writable j s)) s e f

    -- so does a test that fails,
    pub tests_stop : not ok ≡ true → Err MalformedText ≡ job_written d j s
    tests_stop n = rw (not-true ok n) at answered

    pub tests_keep : not ok ≡ true → d ≡ job_buffer d j s
    tests_keep n = rw (not-true ok n) at left

    module _ (n : not ok ≡ false) where
      pub short_enough : length text ≤ longest
      short_enough = passed_short s (fine f) j (sym p ∙ not-false ok n)

      written : written_of d text ≡ job_written d j s
      written = rw (not-false ok n) at answered

      holds : buffer_of d text ≡ job_buffer d j s
      holds = rw (not-false ok n) at left

      -- and then the lengths decide.
      module _ {short : Bool} (t : short ≡ ltb (length d) (length text)) where
        pub short_stops : short ≡ true → Err BufferTooShort ≡ job_written d j s
        short_stops h = refused_answer d text (short_told d text t h) ∙ written

        pub short_keeps : short ≡ true → d ≡ job_buffer d j s
        short_keeps h = refused_buffer d text (short_told d text t h) ∙ holds

        pub has_room : short ≡ false → length text ≤ length d
        has_room h = long_told d text t h

        pub put_answers : {r : ℕ} → short ≡ false → r ≡ put_length d text → Ok r ≡ job_written d j s
        put_answers h a = granted_put d text (long_told d text t h) a ∙ written

        pub put_holds : {after : List ℕ} → short ≡ false → after ≡ buffer_of d text → after ≡ job_buffer d j s
        put_holds h b = b ∙ holds
