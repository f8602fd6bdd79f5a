-- The promises of a check, proved.
-- Assumes nothing.
use Prim.Native.Nat.{ℕ, suc, ◌+◌, ◌-◌, ◌≤◌, ◌<◌}
use mathlib.Core.Path.{◌≡◌, refl, sym, ◌∙◌, ap, subst}
use mathlib.Core.Bool.{Bool, true, false, cond}
use mathlib.Core.List.{List, [], ◌∷◌, ◌++◌, flatten, append-nil}
use mathlib.Core.Logic.{⊎_elim}
use native.Mathlib.Omega.{arith}
use lib.Dec.{eqb}
use lib.ListN.{length, get_or, take, drop, length-append}
use lib.Seq.{take-length, take_all, get_or-append-add}
use borrow.Author.Tests.{ne_eqb}
use Rattle.laws.proofs.Order.{lt_or_le, passes_or_fails}
use Rattle.refusal.specs.Refusal.{granted}
use Rattle.text.specs.Pieces.{line_feed, pieces, start_of, end_of}
use Rattle.text.specs.Words.{same_of, agreed_of}
use Rattle.text.proofs.Alike.{same_so_equal, same_itself}
use Rattle.text.proofs.Between.{piece_bytes, last_ends}
use Rattle.job.specs.declared.Span.{Span}
use Rattle.job.specs.Fault.{line_span, at_the_end}
use Rattle.answer.specs.Outcomes.{given as outcome_given, fault_line}
use Rattle.answer.specs.Lines.{granted_lines, refused_lines, answer_text}
use Rattle.writing.specs.Writing.{buffer_of, written_given}
use Rattle.writing.proofs.Writing.{refused_answer, granted_answer, buffer_holds}
use Rattle.calculator.specs.Outcome.{by_tables, outcome_of}
use Rattle.std.specs.Prelude.{Result, Ok}
use Rattle.review.specs.declared.WrongLine.{WrongLine}
use Rattle.review.specs.Checking.{wrong_line, checked_of, answer_for, given}
use Rattle.review.specs.Lines.{full_lines, Ended}
use Rattle.review.specs.Promises.{YesExactly, FirstWrongLine, LineLiesAt, FirstWrong, StopsEarly, UnendedIsWrong, RightIsEnded, LastUnended, PastTheEnd, LinesOfTheRules, RefusedChecked, OurOwn, OneAnswer}
use Rattle.review.proofs.FullLines.{line_piece, lines_together, lines_parted, line_begins, pieces_some, taken_pieces, taken_shorter, ended_lines, ended_count, whole_pieces, free_behind}
use Rattle.review.proofs.Ends.{end_onward, end_ends, end_free, end_only}
use Rattle.review.proofs.Parting.{agreed_longer, agreed_shorter, agreed_behind, agreed_free, free_all, longer_other, shorter_other, parted, only_line}
use Rattle.review.proofs.AnswerLines.{whole_lines, granted_whole, refused_whole, answer_ended}

-- what is given back for any two texts
module _ (ours claimed : List ℕ) where
  given_right : same_of ours claimed ≡ true → checked_of ours claimed ≡ Ok tt
  unfolding checked_of
  given_right h = rw h

  given_wrong : {k : ℕ} → same_of ours claimed ≡ false → wrong_line ours claimed ≡ suc k → given claimed (checked_of ours claimed) ≡ (suc k, line_span claimed (suc k))
  unfolding checked_of
  given_wrong h e = rw (h, e)

  -- a line has a number
  line_number : wrong_line ours claimed ≡ suc (wrong_line ours claimed - 1)
  line_number = let some = pieces_some line_feed (agreed_of ours claimed) in omega arith

  -- a yes says that they are equal
  zero_equal : (given claimed (checked_of ours claimed)).0 ≡ 0 → claimed ≡ ours
  zero_equal e = ⊎_elim (λ (h : same_of ours claimed ≡ true). sym (same_so_equal ours claimed h))
      (λ (h : same_of ours claimed ≡ false). let f = ap (λ (p : ℕ × Span). p.0) (given_wrong h line_number) in absurd (omega arith))
      (passes_or_fails (same_of ours claimed))

  right_equal : checked_of ours claimed ≡ Ok tt → claimed ≡ ours
  right_equal e = zero_equal (ap (λ (c : Result (Unit {0}) WrongLine). (given claimed c).0) e)

  equal_right : claimed ≡ ours → checked_of ours claimed ≡ Ok tt
  equal_right e = given_right (rw e (same_itself ours))

  -- no line is given with a yes
  never_right : {k : ℕ} {place : Span} → given claimed (checked_of ours claimed) ≡ (suc k, place) → checked_of ours claimed ≡ Ok tt → ⊥
  never_right e r = let z = ap (λ (p : ℕ × Span). p.0) (sym e ∙ ap (given claimed) r) in omega arith

pub yes_exactly : YesExactly
yes_exactly job claimed =
    let ours = answer_for job in
    ((right_equal ours claimed, equal_right ours claimed), (zero_equal ours claimed, λ e. rw (equal_right ours claimed e) refl))

-- a line lies at its place,
line_lies : (text : List ℕ) (k : ℕ) → LineLiesAt text k (line_span text (suc k))
unfolding line_span
line_lies text k =
    record {
      begins = line_begins text k;
      line = piece_bytes line_feed text k ∙ line_piece text k;
      onward = end_onward line_feed text k;
      ends = end_ends line_feed text k;
      free = end_free line_feed text k;
    }

-- and at no other
only_place : {text : List ℕ} {k : ℕ} {place : Span} → LineLiesAt text k place → line_span text (suc k) ≡ place
unfolding line_span
only_place {text} {k} {place} l =
    let start = line_begins text k in
    let begins = l.begins in
    let onward = l.onward in
    let from : start_of line_feed text k ≡ place.from = omega arith in
    let to : place.to ≡ end_of line_feed text k = end_only line_feed text k place.to (omega arith) l.ends (λ i h. l.free i (omega arith)) in
    λ i. record { from = from i; to = sym to i }

pub first_wrong : FirstWrong
first_wrong ours claimed k place = (forth, back)
  where
    forth : given claimed (checked_of ours claimed) ≡ (suc k, place) → FirstWrongLine ours claimed k × LineLiesAt claimed k place
    forth e = ⊎_elim
        (λ (h : same_of ours claimed ≡ true). absurd (never_right ours claimed e (given_right ours claimed h)))
        (λ (h : same_of ours claimed ≡ false).
        let number = line_number ours claimed in
        let same = ap (λ (p : ℕ × Span). p.0) (sym (given_wrong ours claimed h number) ∙ e) in
        let n : wrong_line ours claimed ≡ suc k = omega arith in
        let at = ap (λ (p : ℕ × Span). p.1) (sym (given_wrong ours claimed h n) ∙ e) in
        (parted ours claimed k h n, subst (LineLiesAt claimed k) at (line_lies claimed k)))
        (passes_or_fails (same_of ours claimed))

    back : FirstWrongLine ours claimed k × LineLiesAt claimed k place → given claimed (checked_of ours claimed) ≡ (suc k, place)
    back (w, l) = ⊎_elim
        (λ (h : same_of ours claimed ≡ true). absurd (w.wrong (ap (λ (t : List ℕ). get_or (full_lines t) k []) (sym (same_so_equal ours claimed h)))))
        (λ (h : same_of ours claimed ≡ false).
        let number = line_number ours claimed in
        let same = only_line w (parted ours claimed (wrong_line ours claimed - 1) h number) in
        given_wrong ours claimed h (omega arith) ∙ ap (λ (s : Span). (suc k, s)) (only_place l))
        (passes_or_fails (same_of ours claimed))

-- a text that is no longer than its front is its front
no_more : (front rest : List ℕ) {t : List ℕ} → t ≡ front ++ rest → length t ≡ length front → t ≡ front
no_more front [] e n = e ∙ append-nil front
no_more front (x ∷ rest) e n = let m = ap length e ∙ length-append front (x ∷ rest) in absurd (omega arith)

-- the line that two texts part in begins behind the lines of ours before it,
begins_behind : (ours claimed : List ℕ) {k : ℕ} → same_of ours claimed ≡ false → wrong_line ours claimed ≡ suc k → (line_span claimed (suc k)).from ≡ length (flatten (take k (full_lines ours)))
unfolding line_span
begins_behind ours claimed {k} h m = line_begins claimed k ∙ ap (λ (ls : List (List ℕ)). length (flatten ls)) (parted ours claimed k h m).same

-- and where it is the last of theirs, it runs to the end
runs_out : (ours claimed : List ℕ) {k : ℕ}
    → same_of ours claimed ≡ false
    → wrong_line ours claimed ≡ suc k
    → length (pieces line_feed claimed) ≡ suc k
    → given claimed (checked_of ours claimed) ≡ (suc k, record { from = length (flatten (take k (full_lines ours))); to = length claimed })
unfolding line_span
runs_out ours claimed {k} h m n =
    let from = begins_behind ours claimed h m in
    let to = last_ends line_feed claimed k (omega arith) in
    given_wrong ours claimed h m ∙ (λ i. (suc k, record { from = from i; to = to i }))

-- a text that stops before the end of ours, and is right so far
stopped : (claimed rest : List ℕ) {ours : List ℕ} {k : ℕ}
    → ours ≡ claimed ++ rest
    → length claimed < length ours
    → length (pieces line_feed claimed) ≡ suc k
    → given claimed (checked_of ours claimed) ≡ (suc k, record { from = length (flatten (take k (full_lines ours))); to = length claimed })
stopped claimed rest {ours} e l n =
    let agreed : agreed_of ours claimed ≡ claimed = rw e (agreed_shorter claimed rest) in
    runs_out ours claimed (shorter_other ours claimed l) (rw agreed n) n

pub stops_early : StopsEarly
stops_early ours claimed k = (forth, back)
  where
    lines : List (List ℕ)
    lines = full_lines ours

    forth : given claimed (checked_of ours claimed) ≡ (suc k, at_the_end claimed) → (k < length lines) × (claimed ≡ flatten (take k lines))
    forth e =
        let w = (first_wrong ours claimed k (at_the_end claimed)).0 e in
        let front = flatten (take k (full_lines claimed)) in
        let all : claimed ≡ front = no_more front (flatten (drop k (full_lines claimed))) (lines_parted claimed k) w.1.begins in
        let ours-so : claimed ≡ flatten (take k lines) = all ∙ ap flatten w.0.same in
        let yes : length lines ≤ k → checked_of ours claimed ≡ Ok tt = λ l. equal_right ours claimed (ours-so ∙ ap flatten (take_all k lines l) ∙ lines_together ours) in (
          ⊎_elim (λ (l : k < length lines). l) (λ (l : length lines ≤ k). absurd (never_right ours claimed e (yes l))) (lt_or_le k (length lines)),
          ours-so,
        )

    back : (k < length lines) × (claimed ≡ flatten (take k lines)) → given claimed (checked_of ours claimed) ≡ (suc k, at_the_end claimed)
    back (l, e) =
        let shorter : length claimed < length ours = rw e (taken_shorter ours k l) in
        let whole : ours ≡ claimed ++ flatten (drop k lines) = rw e (lines_parted ours k) in
        let n : length (pieces line_feed claimed) ≡ suc k = rw e (taken_pieces ours k l) in
        stopped claimed (flatten (drop k lines)) whole shorter n ∙ (λ i. (suc k, record { from = length (sym e i); to = length claimed }))

-- a text that is ended is no text with an unended line at its end
unended_other : (ours right rest : List ℕ) → Ended ours → ((i : ℕ) → i < length rest → get_or rest i 0 ≡ line_feed → ⊥) → 0 < length rest → same_of ours (right ++ rest) ≡ false
unended_other ours right rest ended ne some = ⊎_elim
    (λ (h : same_of ours (right ++ rest) ≡ true).
    let e = same_so_equal ours (right ++ rest) h in
    let n = length-append right rest in
    let at : length (right ++ rest) - 1 ≡ length right + (length rest - 1) = omega arith in
    absurd (ne (length rest - 1) (omega arith) (sym (get_or-append-add right rest (length rest - 1) 0) ∙ ap (λ (i : ℕ). get_or (right ++ rest) i 0) (sym at) ∙ subst Ended e ended)))
    (λ (h : same_of ours (right ++ rest) ≡ false). h)
    (passes_or_fails (same_of ours (right ++ rest)))

pub unended_is_wrong : UnendedIsWrong
unended_is_wrong job rest k l some ne =
    let ours = answer_for job in
    let lines = full_lines ours in
    let right = flatten (take k lines) in
    let claimed = right ++ rest in
    let f = free_all rest ne in
    let ended = answer_ended (outcome_of by_tables job) in
    let whole = whole_pieces ours k ended l in
    let left = flatten (drop k lines) in
    let agreed : agreed_of ours claimed ≡ right ++ agreed_of left rest = ap (λ (t : List ℕ). agreed_of t claimed) (lines_parted ours k) ∙ agreed_behind right left rest in
    let m : wrong_line ours claimed ≡ suc k = rw agreed (free_behind right (agreed_of left rest) (agreed_free left rest f) ∙ whole) in
    runs_out ours claimed (unended_other ours right rest ended ne some) m (free_behind right rest f ∙ whole)

pub right_is_ended : RightIsEnded
right_is_ended job claimed e = rw (right_equal (answer_for job) claimed e) (answer_ended (outcome_of by_tables job))

pub last_unended : LastUnended
last_unended ours claimed e =
    let k = length (full_lines ours) - 1 in
    let m = length-append claimed (line_feed ∷ []) in
    let l = ap length e in
    let some = pieces_some line_feed claimed in
    let count : length (full_lines ours) ≡ length (pieces line_feed claimed) = rw e (ended_lines claimed) in
    let n : suc k ≡ length (full_lines ours) = omega arith in
    stopped claimed (line_feed ∷ []) {k = k} e (omega arith) (omega arith)
    ∙ (λ i. (n i, record { from = length (flatten (take k (full_lines ours))); to = length claimed }))

pub past_the_end : PastTheEnd
past_the_end job x more =
    let ours = answer_for job in
    let claimed = ours ++ (x ∷ more) in
    let k = length (full_lines ours) in
    let h = longer_other ours x more in
    let m : wrong_line ours claimed ≡ suc k = rw (agreed_longer ours (x ∷ more)) (ended_count ours (answer_ended (outcome_of by_tables job))) in
    let g = given_wrong ours claimed h m in (
      ap (λ (p : ℕ × Span). p.0) g,
      ap (λ (p : ℕ × Span). p.1.from) g
          ∙ begins_behind ours claimed h m
          ∙ ap (λ (ls : List (List ℕ)). length (flatten ls)) (take-length (full_lines ours))
          ∙ ap length (lines_together ours),
    )

pub lines_of_the_rules : LinesOfTheRules
unfolding answer_text
lines_of_the_rules o = pick (eqb (outcome_given o).answer granted)
  where
    pick : (b : Bool) → full_lines (flatten (cond b (granted_lines (outcome_given o)) (refused_lines (outcome_given o) (fault_line o)))) ≡ cond b (granted_lines (outcome_given o)) (refused_lines (outcome_given o) (fault_line o))
    pick true = whole_lines (granted_whole (outcome_given o))
    pick false = whole_lines (refused_whole (outcome_given o) (fault_line o))

pub refused_checked : RefusedChecked
unfolding answer_text flatten
refused_checked job claimed ne =
    let o = outcome_of by_tables job in
    rw (ne_eqb (outcome_given o).answer granted ne) (simp append-nil)

pub our_own : OurOwn
our_own job buf n e =
    let text = answer_for job in
    ⊎_elim
    (λ (l : length buf < length text). let z = ap (λ (p : ℕ × ℕ). p.0) (ap written_given (refused_answer buf text l) ∙ e) in absurd (omega arith))
    (λ (l : length text ≤ length buf).
    let m = ap (λ (p : ℕ × ℕ). p.1) (ap written_given (granted_answer buf text l) ∙ e) in
    equal_right text (take n (buffer_of buf text)) (rw (← m) (buffer_holds buf text l).0))
    (lt_or_le (length buf) (length text))

pub one_answer : OneAnswer
one_answer job other claimed e f = sym (right_equal (answer_for job) claimed e) ∙ right_equal (answer_for other) claimed f
