-- Two texts compared: how far they agree tells whether they are the same, and in which line they part.
-- Assumes nothing.
use Prim.Native.Nat.{ℕ, zero, suc, ◌+◌, ◌≤◌, ◌<◌}
use mathlib.Core.Path.{◌≡◌, refl, sym, ◌∙◌, ap, subst}
use mathlib.Core.Bool.{Bool, true, false, cond, ◌&&◌}
use mathlib.Core.List.{List, [], ◌∷◌, append-nil}
use native.Mathlib.Numerals.{add-one}
use native.Mathlib.Omega.{arith}
use lib.Dec.{eqb}
use lib.ListN.{length, take}
use borrow.Author.Tests.{eqb-true}
use denote.Ref.{Bor}
use Rattle.text.specs.Part.{part_of, Part}
use Rattle.text.specs.Pieces.{line_feed, pieces, next_of, start_of}
use Rattle.text.specs.Words.{same_of, agreed_of}
use Rattle.text.proofs.Parts.{part_head}
use Rattle.text.proofs.Alike.{same_so_equal}
use Rattle.job.specs.declared.Span.{Span}
use Rattle.job.specs.Fault.{line_span}
use Rattle.std.specs.Prelude.{Result, Ok, Err}
use Rattle.review.specs.declared.WrongLine.{WrongLine}
use Rattle.review.specs.Checking.{wrong_line, wrong_at, checked_of, check_of, given, wrong_span}
use Rattle.review.specs.Inner.{wrong_behind}
use Rattle.std.specs.List.{count_by}
use Rattle.review.proofs.Counting.{feeds_pieces}
use Rattle.review.proofs.Ends.{end_onward}
use Rattle.review.proofs.Parting.{agreed_longer}

-- the line behind some bytes, by the line feeds that they hold
pub line_told : (claimed : List ℕ) (agreed ended : ℕ) {front : List ℕ} {from to : ℕ}
    → front ≡ part_of claimed 0 agreed
    → ended ≡ count_by (λ x. eqb x line_feed) front
    → from ≡ start_of line_feed claimed ended
    → to ≡ next_of line_feed claimed from
    → record { line = ended + 1; from = from; to = to } ≡ wrong_behind claimed agreed
unfolding line_span
line_told claimed agreed ended {front} p n f t = rw (← p, ← feeds_pieces front, ← n, add-one ended, t, f)

-- what two texts have in common stands at the start of the second,
agreed_taken : (s t : List ℕ) → take (length (agreed_of s t)) t ≡ agreed_of s t
unfolding agreed_of
agreed_taken [] t = refl
agreed_taken (x ∷ s) [] = refl
agreed_taken (x ∷ s) (y ∷ t) = at (eqb x y) refl (agreed_taken s t)
  where
    at : (b : Bool) → eqb x y ≡ b → take (length (agreed_of s t)) t ≡ agreed_of s t
        → take (length (cond b (x ∷ agreed_of s t) [])) (y ∷ t) ≡ cond b (x ∷ agreed_of s t) []
    at true e h = λ i. sym (eqb-true x y e) i ∷ h i
    at false e h = refl

agreed_front : (s t : List ℕ) → part_of t 0 (length (agreed_of s t)) ≡ agreed_of s t
agreed_front s t = part_head t (length (agreed_of s t)) ∙ agreed_taken s t

-- and texts that have all in common are the same.
agreed_whole : (s t : List ℕ) → length s ≤ length (agreed_of s t) → length t ≤ length (agreed_of s t) → same_of s t ≡ true
unfolding agreed_of same_of
agreed_whole [] [] h k = refl
agreed_whole [] (y ∷ t) h k = absurd (omega arith)
agreed_whole (x ∷ s) [] h k = absurd (omega arith)
agreed_whole (x ∷ s) (y ∷ t) h k = at (eqb x y) h k (agreed_whole s t)
  where
    at : (b : Bool)
        → suc (length s) ≤ length (cond b (x ∷ agreed_of s t) [])
        → suc (length t) ≤ length (cond b (x ∷ agreed_of s t) [])
        → (length s ≤ length (agreed_of s t) → length t ≤ length (agreed_of s t) → same_of s t ≡ true)
        → b && same_of s t ≡ true
    at true h k more = more (omega arith) (omega arith)
    at false h k more = absurd (omega arith)

module _ (ours claimed : List ℕ) {agreed : ℕ} (a : agreed ≡ length (agreed_of ours claimed)) where
  unlike : (same_of ours claimed ≡ true → ⊥) → {r : WrongLine} → r ≡ wrong_behind claimed agreed → Err r ≡ checked_of ours claimed
  unfolding checked_of
  unlike other {r} e = at (same_of ours claimed) other
    where
      told : r ≡ wrong_at claimed (length (pieces line_feed (agreed_of ours claimed)))
      told = e ∙ ap (λ (front : List ℕ). wrong_at claimed (length (pieces line_feed front))) (ap (part_of claimed 0) a ∙ agreed_front ours claimed)

      at : (b : Bool) → (b ≡ true → ⊥) → Err r ≡ cond b (Ok (tt {0})) (Err (wrong_at claimed (length (pieces line_feed (agreed_of ours claimed)))))
      at true other = absurd (other refl)
      at false other = ap Err told

  all_of_ours : same_of ours claimed ≡ true → (agreed ≡ length ours) × (agreed ≡ length claimed)
  all_of_ours same =
      let e = same_so_equal ours claimed same in
      let w = a ∙ ap (λ (t : List ℕ). length (agreed_of ours t)) (sym e ∙ sym (append-nil ours)) ∙ ap length (agreed_longer ours []) in
      (w, w ∙ ap length e)

  pub wrong_in_ours : {r : WrongLine} → agreed < length ours → r ≡ wrong_behind claimed agreed → Err r ≡ checked_of ours claimed
  wrong_in_ours h e = unlike (λ same. let w = (all_of_ours same).0 in omega arith) e

  pub wrong_in_claimed : {r : WrongLine} → agreed < length claimed → r ≡ wrong_behind claimed agreed → Err r ≡ checked_of ours claimed
  wrong_in_claimed h e = unlike (λ same. let w = (all_of_ours same).1 in omega arith) e

  pub right_in_both : length ours ≤ agreed → length claimed ≤ agreed → Ok tt ≡ checked_of ours claimed
  unfolding checked_of
  right_in_both h k = rw (agreed_whole ours claimed (rw (← a) h) (rw (← a) k))

-- a text in the place of one that it is
pub checked_as : (ours claimed : List ℕ) {held : List ℕ} {r : Result (Unit {0}) WrongLine} → r ≡ checked_of held claimed → held ≡ ours → r ≡ checked_of ours claimed
checked_as ours claimed e h = e ∙ ap (λ (t : List ℕ). checked_of t claimed) h

-- a part that is given back does not end before it begins
line_onward : (claimed : List ℕ) (k : ℕ) → (line_span claimed k).from ≤ (line_span claimed k).to
unfolding line_span
line_onward claimed zero = omega arith
line_onward claimed (suc k) = end_onward line_feed claimed k

given_onward : (ours claimed : List ℕ) → (given claimed (checked_of ours claimed)).1.from ≤ (given claimed (checked_of ours claimed)).1.to
unfolding checked_of
given_onward ours claimed = at (same_of ours claimed)
  where
    at : (b : Bool)
        → (given claimed (cond b (Ok tt) (Err (wrong_at claimed (wrong_line ours claimed))))).1.from ≤ (given claimed (cond b (Ok tt) (Err (wrong_at claimed (wrong_line ours claimed))))).1.to
    at true = omega arith
    at false = line_onward claimed (wrong_line ours claimed)

pub told_onward : (ours claimed : List ℕ) {found : Result (Unit {0}) WrongLine} {wrong : WrongLine} → found ≡ checked_of ours claimed → found ≡ Err wrong → wrong.from ≤ wrong.to
told_onward ours claimed e w = rw (← e, w) at (given_onward ours claimed)

-- the part of the claimed text that a check tells of
module _ (job : List ℕ) (claimed r : Bor (List ℕ)) {found : Result (Unit {0}) WrongLine} (e : found ≡ check_of job claimed.now) where
  at_its_span : {s : Span} → (given claimed.now found).1 ≡ s → Part claimed s.from s.to r → Part claimed (wrong_span job claimed.now).from (wrong_span job claimed.now).to r
  at_its_span h p = subst (λ (s : Span). Part claimed s.from s.to r) (sym h ∙ ap (λ (x : Result (Unit {0}) WrongLine). (given claimed.now x).1) e) p

  pub right_part : found ≡ Ok tt → Part claimed (length claimed.now) (length claimed.now) r → Part claimed (wrong_span job claimed.now).from (wrong_span job claimed.now).to r
  right_part h p = at_its_span (ap (λ (x : Result (Unit {0}) WrongLine). (given claimed.now x).1) h) p

  pub wrong_part : {wrong : WrongLine} → found ≡ Err wrong → Part claimed wrong.from wrong.to r → Part claimed (wrong_span job claimed.now).from (wrong_span job claimed.now).to r
  wrong_part h p = at_its_span (ap (λ (x : Result (Unit {0}) WrongLine). (given claimed.now x).1) h) p
