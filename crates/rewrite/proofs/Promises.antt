-- Rules, "A soil that is not known": what is promised of rewritten jobs, proved of the definitions that the contracts cite.
-- Assumes nothing.
use Rattle.std.specs.Prelude.{Result, Ok, Err}
use Prim.Native.Nat.{ℕ}
use mathlib.Core.Bool.{Bool, true, false, cond}
use mathlib.Core.List.{List, [], ◌∷◌, map}
use mathlib.Core.Path.{◌≡◌, refl, sym, ◌∙◌, ap}
use lib.Dec.{eqb}
use lib.ListN.{length, get_or, length-map, take, get_or-map}
use Rattle.refusal.specs.Refusal.{granted}
use Rattle.site.specs.declared.Site.{Site}
use Rattle.site.specs.Parts.{parts_of}
use Rattle.site.specs.Promises.{all_fit}
use Rattle.site.specs.Judging.{judged, given as area_given}
use Rattle.site.proofs.Promises.{fine_exactly, given_some}
use Rattle.text.specs.Pieces.{line_feed}
use Rattle.job.specs.declared.Job.{Job}
use Rattle.job.specs.declared.Reading.{Reading}
use Rattle.job.specs.declared.Unread.{Unread}
use Rattle.job.specs.Lines.{lines_of}
use Rattle.job.specs.Reading.{head_lines, reading_of}
use Rattle.job.proofs.Promises.{site_beside}
use Rattle.calculator.specs.Outcome.{outcome_of}
use Rattle.calculator.specs.Promises.{Reads}
use Rattle.calculator.proofs.Finding.{does_not_read}
use Rattle.calculator.proofs.InTexts.{worked_out}
use Rattle.rewrite.specs.Rewriting.{letter_u, letter_c, c_for_u, rewritten_of}
use Rattle.rewrite.specs.OldRules.{old_outcome_of}
use Rattle.rewrite.specs.Promises.{KeepsTheOldAnswer, CopiedAsItCame, ReadsAsC, HeadKept, OnlyTheSoil, SameLength, NothingLeft}
use Rattle.rewrite.proofs.Changing.{rewritten_read, rewritten_kept}
use Rattle.rewrite.proofs.Texts.{pieces_changed}
use Rattle.rewrite.proofs.Reading.{reading_on_c, text_on_c, behind_reads, lines_alone}
use Rattle.rewrite.proofs.Heads.{head_stays}
use Rattle.rewrite.proofs.Outcomes.{task_old}

-- A text that reads is rewritten, and one that does not is not.
rewritten : (text : List ℕ) {r : Reading} → reading_of text ≡ Ok r → rewritten_of text ≡ map c_for_u text
rewritten text e = sym (rewritten_read text refl (rw e) refl)

copied : (text : List ℕ) {u : Unread} → reading_of text ≡ Err u → rewritten_of text ≡ text
copied text e = sym (rewritten_kept text refl (rw e))

pub copied_as_it_came : CopiedAsItCame
copied_as_it_came text not = told (reading_of text) refl
  where
    told : (a : Result Reading Unread) → reading_of text ≡ a → rewritten_of text ≡ text
    told (Ok r) e = absurd (not (rw e))
    told (Err u) e = copied text e

pub same_length : SameLength
same_length text = told (reading_of text) refl
  where
    told : (a : Result Reading Unread) → reading_of text ≡ a → length (rewritten_of text) ≡ length text
    told (Ok r) e = ap length (rewritten text e) ∙ length-map text c_for_u
    told (Err u) e = ap length (copied text e)

pub reads_as_c : ReadsAsC
reads_as_c text j s h =
    ap reading_of (rewritten text h) ∙ text_on_c text (rw h tt) ∙ ap reading_on_c h

pub head_kept : HeadKept
head_kept text j s h =
    ap (λ (t : List ℕ). take head_lines (lines_of t)) (rewritten text h)
    ∙ ap (take head_lines) (pieces_changed line_feed refl text)
    ∙ head_stays (lines_of text) (behind_reads text (rw h tt))

pub only_the_soil : OnlyTheSoil
only_the_soil text j s h k low high =
    let line = get_or (lines_of text) k [] in
    let rewriting : get_or (lines_of (rewritten_of text)) k [] ≡ map c_for_u line =
    ap (λ (t : List ℕ). get_or (lines_of t) k []) (rewritten text h)
    ∙ ap (λ (ls : List (List ℕ)). get_or ls k []) (pieces_changed line_feed refl text)
    ∙ get_or-map (map c_for_u) (lines_of text) k [] in
    rw rewriting (lines_alone (lines_of text) (behind_reads text (rw h tt)) k low high)

-- The record beside a job that reads has sub-areas that fit.
reads_fit : (text : List ℕ) (j : Job) (s : Site) → Reads text j s → all_fit (parts_of s) ≡ true
reads_fit text j s h =
    let f : (area_given (judged s)).0 ≡ granted = rw h at ((site_beside text).0 (rw h)) in
    let g = given_some (judged s) f in
    ((fine_exactly s g.0.0).0 (ap area_given g.1)).1

pub keeps_the_old_answer : KeepsTheOldAnswer
keeps_the_old_answer sheet text = told (reading_of text) refl
  where
    told : (a : Result Reading Unread) → reading_of text ≡ a → outcome_of sheet (rewritten_of text) ≡ old_outcome_of sheet text
    told (Ok r) e =
        worked_out sheet (rewritten_of text) (reads_as_c text r.job r.site e)
        ∙ task_old r.job.task (sheet r.job.practice) r.job r.site (reads_fit text r.job r.site e)
        ∙ rw e refl
    told (Err u) e = ap (outcome_of sheet) (copied text e) ∙ sym (does_not_read sheet text refl e) ∙ rw e refl

twice : (text : List ℕ) → map c_for_u (map c_for_u text) ≡ map c_for_u text
twice [] = refl
twice (x ∷ text) = λ i. at (eqb x letter_u) refl i ∷ twice text i
  where
    at : (b : Bool) → eqb x letter_u ≡ b → c_for_u (cond b letter_c x) ≡ cond b letter_c x
    at true e = refl
    at false e = rw e

again : (text : List ℕ) → rewritten_of (rewritten_of text) ≡ rewritten_of text
again text = told (reading_of text) refl
  where
    told : (a : Result Reading Unread) → reading_of text ≡ a → rewritten_of (rewritten_of text) ≡ rewritten_of text
    told (Ok r) e =
        rewritten (rewritten_of text) (reads_as_c text r.job r.site e) ∙ ap (map c_for_u) (rewritten text e) ∙ twice text ∙ sym (rewritten text e)
    told (Err u) e = ap rewritten_of (copied text e)

pub nothing_left : NothingLeft
nothing_left text = (
  λ sheet. sym (keeps_the_old_answer sheet (rewritten_of text)) ∙ ap (outcome_of sheet) (again text),
  again text,
)
