-- The cases of a head: the first of its six lines that says nothing, or the job.
-- Assumes nothing.
use Rattle.std.specs.Prelude.{Result, Ok, Err, Option, Some, None, ℕ, option_map, ok_or, IsErrAnd}
use Rattle.std.proofs.lemmas.Result.{err_from_is_err_and}
use Prim.Native.Nat.{ℕ, ◌+◌}
use mathlib.Core.List.{List}
use mathlib.Core.Path.{◌≡◌, refl, sym, ◌∙◌, ap}
use lib.ListN.{drop}
use lib.Seq.{drop-drop}
use Rattle.laws.specs.Text.{bytes}
use Rattle.refusal.specs.declared.Refusal.TheVariants.{MalformedText}
use Rattle.units.specs.declared.Nutrient.{Nutrient}
use Rattle.units.specs.declared.Nutrient.TheVariants.{P}
use Rattle.units.specs.Cases.{nutrients}
use Rattle.curve.specs.declared.Mode.{Mode}
use Rattle.curve.specs.declared.Mode.TheVariants.{Step}
use Rattle.curve.specs.Modes.{modes}
use Rattle.text.specs.Pieces.{space, line_feed, pieces, joined}
use Rattle.text.specs.Words.{same_of, behind_of, place_from, word_from}
use Rattle.text.proofs.Front.{free, all_free}
use Rattle.job.specs.declared.Task.{Task}
use Rattle.job.specs.declared.Task.TheVariants.{Load}
use Rattle.job.specs.declared.Job.{Job}
use Rattle.job.specs.declared.Unread.{Unread}
use Rattle.job.specs.Tasks.{tasks}
use Rattle.job.specs.Words.{practice_words, nutrient_words, mode_words, task_words, nutrient_at, mode_at, task_at}
use Rattle.job.specs.Lines.{lines_of}
use Rattle.job.specs.Head.{word_in, number_in, head_from, head_of}
use Rattle.job.specs.Inner.{told_word, told_case, counted_at, Headed}
use Rattle.job.proofs.Fields.{line_read, line_bad}
use Rattle.job.proofs.Valued.{LineRead, word_line, case_line, number_line}

module _ (practice nutrient mode task : Option ℕ) (rate amount : Option ℕ) where
  pub bad_practice : practice ≡ None → Err 1 ≡ head_from practice nutrient mode rate task amount
  unfolding head_from
  bad_practice e1 = rw e1

  pub bad_nutrient : {p : ℕ} → practice ≡ Some p → nutrient ≡ None → Err 2 ≡ head_from practice nutrient mode rate task amount
  unfolding head_from
  bad_nutrient e1 e2 = rw (e1, e2)

  pub bad_mode : {p n : ℕ} → practice ≡ Some p → nutrient ≡ Some n → mode ≡ None → Err 3 ≡ head_from practice nutrient mode rate task amount
  unfolding head_from
  bad_mode e1 e2 e3 = rw (e1, e2, e3)

  pub bad_rate : {p n m : ℕ} → practice ≡ Some p → nutrient ≡ Some n → mode ≡ Some m → rate ≡ None → Err 4 ≡ head_from practice nutrient mode rate task amount
  unfolding head_from
  bad_rate e1 e2 e3 e4 = rw (e1, e2, e3, e4)

  pub bad_task : {p n m r : ℕ} → practice ≡ Some p → nutrient ≡ Some n → mode ≡ Some m → rate ≡ Some r → task ≡ None → Err 5 ≡ head_from practice nutrient mode rate task amount
  unfolding head_from
  bad_task e1 e2 e3 e4 e5 = rw (e1, e2, e3, e4, e5)

  pub bad_amount : {p n m r t : ℕ} → practice ≡ Some p → nutrient ≡ Some n → mode ≡ Some m → rate ≡ Some r → task ≡ Some t → amount ≡ None → Err 6 ≡ head_from practice nutrient mode rate task amount
  unfolding head_from
  bad_amount e1 e2 e3 e4 e5 e6 = rw (e1, e2, e3, e4, e5, e6)

  pub head_fine : {p n m r t a : ℕ} {nutrient' : Nutrient} {mode' : Mode} {task' : Task} → practice ≡ Some p → nutrient ≡ Some n → mode ≡ Some m → rate ≡ Some r → task ≡ Some t → amount ≡ Some a → nutrient' ≡ nutrient_at n → mode' ≡ mode_at m → task' ≡ task_at t → Ok (record { practice = p; nutrient = nutrient'; mode = mode'; rate = record { 0 = r }; task = task'; amount = a }) ≡ head_from practice nutrient mode rate task amount
  unfolding head_from
  head_fine e1 e2 e3 e4 e5 e6 f g h = rw (e1, e2, e3, e4, e5, e6, f, g, h)

-- a head that is bad in a line, and one that reads
headed_bad : (s : List ℕ) {k : ℕ} → Err k ≡ head_of (lines_of s) → Headed s (Err (record { why = MalformedText; line = k }))
headed_bad s {k} h =
    record {
      bad = λ u e. (let same : ◌≡◌ {A = Unread} (record { why = MalformedText; line = k }) u = cc in
          (sym h ∙ ap (λ (v : Unread). Err v.line) same, sym (ap (λ (v : Unread). v.why) same)));
      read = λ job next e. cc;
      behind = λ job next e. cc;
    }

headed_fine : (s : List ℕ) {job : Job} {next : ℕ} → Ok job ≡ head_of (lines_of s) → lines_of (drop next s) ≡ drop 6 (lines_of s) → Headed s (Ok (job, next))
headed_fine s {job} {next} h b =
    record {
      bad = λ u e. cc;
      read = λ j n e. (let same : ◌≡◌ {A = Job × ℕ} (job, next) (j, n) = cc in sym h ∙ ap (λ (f : Job × ℕ). Ok f.0) same);
      behind = λ j n e. (let same : ◌≡◌ {A = Job × ℕ} (job, next) (j, n) = cc in sym (ap (λ (f : Job × ℕ). lines_of (drop f.1 s)) same) ∙ b);
    }

-- a case that is read has a place
told_place : {X : Type 0} (f : ℕ → X) (o : Option ℕ) {x : X} → option_map f o ≡ Some x → (k : ℕ) × ((o ≡ Some k) × (f k ≡ x))
told_place f None e = cc
told_place f (Some k) e = (k, (refl, cc))

told_nothing : {X : Type 0} (f : ℕ → X) (o : Option ℕ) → option_map f o ≡ None → o ≡ None
told_nothing f None e = refl
told_nothing f (Some k) e = cc

-- the words of the lines: none of them is empty or holds a line feed, and each list has a case for each
module _ (s : List ℕ) (at : ℕ) where
  pub practice_line : {r : Option (ℕ × ℕ)} → r ≡ told_word (word_from (pieces space practice_words) line_feed s (behind_of (bytes "practice=") s at) 0) → LineRead (word_in (lines_of (drop at s)) 0 (bytes "practice=") practice_words) s at r
  unfolding free all_free pieces joined place_from same_of
  practice_line e = word_line (bytes "practice=") s at refl (pieces space practice_words) refl refl e

  pub nutrient_line : {r : Option (Nutrient × ℕ)} → r ≡ told_case nutrients (word_from (pieces space nutrient_words) line_feed s (behind_of (bytes "nutrient=") s at) 0) → LineRead (option_map nutrient_at (word_in (lines_of (drop at s)) 0 (bytes "nutrient=") nutrient_words)) s at r
  unfolding free all_free pieces joined place_from same_of
  nutrient_line e = case_line (bytes "nutrient=") s at refl (pieces space nutrient_words) refl refl nutrients P refl e

  pub mode_line : {r : Option (Mode × ℕ)} → r ≡ told_case modes (word_from (pieces space mode_words) line_feed s (behind_of (bytes "mode=") s at) 0) → LineRead (option_map mode_at (word_in (lines_of (drop at s)) 0 (bytes "mode=") mode_words)) s at r
  unfolding free all_free pieces joined place_from same_of
  mode_line e = case_line (bytes "mode=") s at refl (pieces space mode_words) refl refl modes Step refl e

  pub task_line : {r : Option (Task × ℕ)} → r ≡ told_case tasks (word_from (pieces space task_words) line_feed s (behind_of (bytes "task=") s at) 0) → LineRead (option_map task_at (word_in (lines_of (drop at s)) 0 (bytes "task=") task_words)) s at r
  unfolding free all_free pieces joined place_from same_of
  task_line e = case_line (bytes "task=") s at refl (pieces space task_words) refl refl tasks Load refl e

  pub rate_line : {r : Option (ℕ × ℕ)} → r ≡ counted_at s (behind_of (bytes "rate=") s at) → LineRead (number_in (lines_of (drop at s)) 0 (bytes "rate=")) s at r
  unfolding free
  rate_line e = number_line (bytes "rate=") s at refl e

  pub amount_line : {r : Option (ℕ × ℕ)} → r ≡ counted_at s (behind_of (bytes "amount=") s at) → LineRead (number_in (lines_of (drop at s)) 0 (bytes "amount=")) s at r
  unfolding free
  amount_line e = number_line (bytes "amount=") s at refl e

-- The six lines, each read behind the one before it. As far as they were read, each says something, and its place in the text is
-- that of its line.
module _ (s : List ℕ) where
  abbrev lines : List (List ℕ)
  lines = lines_of s

  abbrev Stands : ℕ → ℕ → Type 0
  Stands k at = lines_of (drop at s) ≡ drop k lines

  next_stands : {X : Type 0} {said : Option X} {at : ℕ} {r : Option (X × ℕ)} {x : X} {next : ℕ} (k : ℕ) → Stands k at → LineRead said s at r → r ≡ Some (x, next) → Stands (k + 1) next
  next_stands {x = x} {next = next} k h v e = v.behind x next e ∙ ap (drop 1) h ∙ drop-drop 1 k lines

  abbrev of_practice : Option ℕ
  of_practice = word_in lines 0 (bytes "practice=") practice_words

  abbrev of_nutrient : Option ℕ
  of_nutrient = word_in lines 1 (bytes "nutrient=") nutrient_words

  abbrev of_mode : Option ℕ
  of_mode = word_in lines 2 (bytes "mode=") mode_words

  abbrev of_rate : Option ℕ
  of_rate = number_in lines 3 (bytes "rate=")

  abbrev of_task : Option ℕ
  of_task = word_in lines 4 (bytes "task=") task_words

  abbrev of_amount : Option ℕ
  of_amount = number_in lines 5 (bytes "amount=")

  module _ (v1 : Unread) {b1 : ℕ} {r1 : Option (ℕ × ℕ)} {u1 : Result (ℕ × ℕ) Unread} (d1 : b1 ≡ behind_of (bytes "practice=") s 0) (e1 : r1 ≡ told_word (word_from (pieces space practice_words) line_feed s b1 0)) (o1 : u1 ≡ ok_or r1 v1) where
    line1 : LineRead of_practice s 0 r1
    line1 = practice_line s 0 (e1 ∙ ap (λ (b : ℕ). told_word (word_from (pieces space practice_words) line_feed s b 0)) d1)

    none1 : r1 ≡ None → Headed s (Err (record { why = MalformedText; line = 1 }))
    unfolding head_of
    none1 h = headed_bad s (bad_practice of_practice of_nutrient of_mode of_task of_rate of_amount (line1.bad h))

    pub head_practice : {w : Unread} {r : Result (Job × ℕ) Unread} → v1 ≡ record { why = MalformedText; line = 1 } → u1 ≡ Err w → IsErrAnd r (λ y. y ≡ w) → Headed s r
    head_practice {r = r} v f g = let b = line_bad r1 v1 (sym o1 ∙ f) in let p = err_from_is_err_and r g in rw (p.1, p.2, ← b.1, v) (none1 b.0)

    module _ {x1 : ℕ} {a1 : ℕ} (g1 : u1 ≡ Ok (x1, a1)) where
      f1 : r1 ≡ Some (x1, a1)
      f1 = line_read r1 v1 (sym o1 ∙ g1)

      stands1 : Stands 1 a1
      stands1 = next_stands 0 refl line1 f1

      place1 : of_practice ≡ Some x1
      place1 = line1.read x1 a1 f1

      module _ (v2 : Unread) {b2 : ℕ} {r2 : Option (Nutrient × ℕ)} {u2 : Result (Nutrient × ℕ) Unread} (d2 : b2 ≡ behind_of (bytes "nutrient=") s a1) (e2 : r2 ≡ told_case nutrients (word_from (pieces space nutrient_words) line_feed s b2 0)) (o2 : u2 ≡ ok_or r2 v2) where
        line2 : LineRead (option_map nutrient_at of_nutrient) s a1 r2
        line2 = rw stands1 at (nutrient_line s a1 (e2 ∙ ap (λ (b : ℕ). told_case nutrients (word_from (pieces space nutrient_words) line_feed s b 0)) d2))

        none2 : r2 ≡ None → Headed s (Err (record { why = MalformedText; line = 2 }))
        unfolding head_of
        none2 h = headed_bad s (bad_nutrient of_practice of_nutrient of_mode of_task of_rate of_amount place1 (told_nothing nutrient_at of_nutrient (line2.bad h)))

        pub head_nutrient : {w : Unread} {r : Result (Job × ℕ) Unread} → v2 ≡ record { why = MalformedText; line = 2 } → u2 ≡ Err w → IsErrAnd r (λ y. y ≡ w) → Headed s r
        head_nutrient {r = r} v f g = let b = line_bad r2 v2 (sym o2 ∙ f) in let p = err_from_is_err_and r g in rw (p.1, p.2, ← b.1, v) (none2 b.0)

        module _ {x2 : Nutrient} {a2 : ℕ} (g2 : u2 ≡ Ok (x2, a2)) where
          f2 : r2 ≡ Some (x2, a2)
          f2 = line_read r2 v2 (sym o2 ∙ g2)

          stands2 : Stands 2 a2
          stands2 = next_stands 1 stands1 line2 f2

          place2 : (k : ℕ) × ((of_nutrient ≡ Some k) × (nutrient_at k ≡ x2))
          place2 = told_place nutrient_at of_nutrient (line2.read x2 a2 f2)

          module _ (v3 : Unread) {b3 : ℕ} {r3 : Option (Mode × ℕ)} {u3 : Result (Mode × ℕ) Unread} (d3 : b3 ≡ behind_of (bytes "mode=") s a2) (e3 : r3 ≡ told_case modes (word_from (pieces space mode_words) line_feed s b3 0)) (o3 : u3 ≡ ok_or r3 v3) where
            line3 : LineRead (option_map mode_at of_mode) s a2 r3
            line3 = rw stands2 at (mode_line s a2 (e3 ∙ ap (λ (b : ℕ). told_case modes (word_from (pieces space mode_words) line_feed s b 0)) d3))

            none3 : r3 ≡ None → Headed s (Err (record { why = MalformedText; line = 3 }))
            unfolding head_of
            none3 h = headed_bad s (bad_mode of_practice of_nutrient of_mode of_task of_rate of_amount place1 place2.1.0 (told_nothing mode_at of_mode (line3.bad h)))

            pub head_mode : {w : Unread} {r : Result (Job × ℕ) Unread} → v3 ≡ record { why = MalformedText; line = 3 } → u3 ≡ Err w → IsErrAnd r (λ y. y ≡ w) → Headed s r
            head_mode {r = r} v f g = let b = line_bad r3 v3 (sym o3 ∙ f) in let p = err_from_is_err_and r g in rw (p.1, p.2, ← b.1, v) (none3 b.0)

            module _ {x3 : Mode} {a3 : ℕ} (g3 : u3 ≡ Ok (x3, a3)) where
              f3 : r3 ≡ Some (x3, a3)
              f3 = line_read r3 v3 (sym o3 ∙ g3)

              stands3 : Stands 3 a3
              stands3 = next_stands 2 stands2 line3 f3

              place3 : (k : ℕ) × ((of_mode ≡ Some k) × (mode_at k ≡ x3))
              place3 = told_place mode_at of_mode (line3.read x3 a3 f3)

              module _ (v4 : Unread) {b4 : ℕ} {r4 : Option (ℕ × ℕ)} {u4 : Result (ℕ × ℕ) Unread} (d4 : b4 ≡ behind_of (bytes "rate=") s a3) (e4 : r4 ≡ counted_at s b4) (o4 : u4 ≡ ok_or r4 v4) where
                line4 : LineRead of_rate s a3 r4
                line4 = rw stands3 at (rate_line s a3 (e4 ∙ ap (counted_at s) d4))

                none4 : r4 ≡ None → Headed s (Err (record { why = MalformedText; line = 4 }))
                unfolding head_of
                none4 h = headed_bad s (bad_rate of_practice of_nutrient of_mode of_task of_rate of_amount place1 place2.1.0 place3.1.0 (line4.bad h))

                pub head_rate : {w : Unread} {r : Result (Job × ℕ) Unread} → v4 ≡ record { why = MalformedText; line = 4 } → u4 ≡ Err w → IsErrAnd r (λ y. y ≡ w) → Headed s r
                head_rate {r = r} v f g = let b = line_bad r4 v4 (sym o4 ∙ f) in let p = err_from_is_err_and r g in rw (p.1, p.2, ← b.1, v) (none4 b.0)

                module _ {x4 : ℕ} {a4 : ℕ} (g4 : u4 ≡ Ok (x4, a4)) where
                  f4 : r4 ≡ Some (x4, a4)
                  f4 = line_read r4 v4 (sym o4 ∙ g4)

                  stands4 : Stands 4 a4
                  stands4 = next_stands 3 stands3 line4 f4

                  place4 : of_rate ≡ Some x4
                  place4 = line4.read x4 a4 f4

                  module _ (v5 : Unread) {b5 : ℕ} {r5 : Option (Task × ℕ)} {u5 : Result (Task × ℕ) Unread} (d5 : b5 ≡ behind_of (bytes "task=") s a4) (e5 : r5 ≡ told_case tasks (word_from (pieces space task_words) line_feed s b5 0)) (o5 : u5 ≡ ok_or r5 v5) where
                    line5 : LineRead (option_map task_at of_task) s a4 r5
                    line5 = rw stands4 at (task_line s a4 (e5 ∙ ap (λ (b : ℕ). told_case tasks (word_from (pieces space task_words) line_feed s b 0)) d5))

                    none5 : r5 ≡ None → Headed s (Err (record { why = MalformedText; line = 5 }))
                    unfolding head_of
                    none5 h = headed_bad s (bad_task of_practice of_nutrient of_mode of_task of_rate of_amount place1 place2.1.0 place3.1.0 place4 (told_nothing task_at of_task (line5.bad h)))

                    pub head_task : {w : Unread} {r : Result (Job × ℕ) Unread} → v5 ≡ record { why = MalformedText; line = 5 } → u5 ≡ Err w → IsErrAnd r (λ y. y ≡ w) → Headed s r
                    head_task {r = r} v f g = let b = line_bad r5 v5 (sym o5 ∙ f) in let p = err_from_is_err_and r g in rw (p.1, p.2, ← b.1, v) (none5 b.0)

                    module _ {x5 : Task} {a5 : ℕ} (g5 : u5 ≡ Ok (x5, a5)) where
                      f5 : r5 ≡ Some (x5, a5)
                      f5 = line_read r5 v5 (sym o5 ∙ g5)

                      stands5 : Stands 5 a5
                      stands5 = next_stands 4 stands4 line5 f5

                      place5 : (k : ℕ) × ((of_task ≡ Some k) × (task_at k ≡ x5))
                      place5 = told_place task_at of_task (line5.read x5 a5 f5)

                      module _ (v6 : Unread) {b6 : ℕ} {r6 : Option (ℕ × ℕ)} {u6 : Result (ℕ × ℕ) Unread} (d6 : b6 ≡ behind_of (bytes "amount=") s a5) (e6 : r6 ≡ counted_at s b6) (o6 : u6 ≡ ok_or r6 v6) where
                        line6 : LineRead of_amount s a5 r6
                        line6 = rw stands5 at (amount_line s a5 (e6 ∙ ap (counted_at s) d6))

                        none6 : r6 ≡ None → Headed s (Err (record { why = MalformedText; line = 6 }))
                        unfolding head_of
                        none6 h = headed_bad s (bad_amount of_practice of_nutrient of_mode of_task of_rate of_amount place1 place2.1.0 place3.1.0 place4 place5.1.0 (line6.bad h))

                        pub head_amount : {w : Unread} {r : Result (Job × ℕ) Unread} → v6 ≡ record { why = MalformedText; line = 6 } → u6 ≡ Err w → IsErrAnd r (λ y. y ≡ w) → Headed s r
                        head_amount {r = r} v f g = let b = line_bad r6 v6 (sym o6 ∙ f) in let p = err_from_is_err_and r g in rw (p.1, p.2, ← b.1, v) (none6 b.0)

                        module _ {x6 : ℕ} {a6 : ℕ} (g6 : u6 ≡ Ok (x6, a6)) where
                          f6 : r6 ≡ Some (x6, a6)
                          f6 = line_read r6 v6 (sym o6 ∙ g6)

                          stands6 : Stands 6 a6
                          stands6 = next_stands 5 stands5 line6 f6

                          place6 : of_amount ≡ Some x6
                          place6 = line6.read x6 a6 f6

                          pub head_reads : Headed s (Ok (record { practice = x1; nutrient = x2; mode = x3; rate = record { 0 = x4 }; task = x5; amount = x6 }, a6))
                          unfolding head_of
                          head_reads = headed_fine s (head_fine of_practice of_nutrient of_mode of_task of_rate of_amount place1 place2.1.0 place3.1.0 place4 place5.1.0 place6 (sym place2.1.1) (sym place3.1.1) (sym place5.1.1)) stands6
