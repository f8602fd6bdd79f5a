-- The promises of the answer text and of its writing, proved.
-- Assumes nothing.
use Rattle.std.specs.Prelude.{Ok, Err}
use Prim.Native.Nat.{ℕ, ◌≤◌, ◌<◌}
use mathlib.Core.Path.{◌≡◌, refl, sym, ◌∙◌, ap}
use mathlib.Core.List.{List, flatten}
use native.Mathlib.Nat.{le_trans}
use native.Mathlib.Omega.{arith}
use lib.ListN.{length}
use mathlib.Core.Logic.{⊎_elim}
use Rattle.laws.proofs.Order.{lt_or_le}
use Rattle.text.specs.Pieces.{joined, pieces}
use Rattle.text.specs.Numbers.{decimal_from, decimal_of}
use Rattle.refusal.specs.declared.Refusal.TheVariants.{UnfitSheet, BufferTooShort}
use Rattle.refusal.specs.Refusal.{number_of, granted}
use Rattle.answer.specs.declared.Failure.TheVariants.{Refused, BadSheet}
use Rattle.answer.specs.Lines.{answer_text}
use Rattle.writing.specs.Lines.{line_with}
use Rattle.writing.specs.Writing.{written_of, written_given}
use Rattle.answer.specs.Promises.{NeverLonger, LongestReached, RefusedShorter, OnlyTooShort, LongestSuffices, RefusedKeeps, GrantedHolds}
use Rattle.answer.proofs.Texts.{granted_longest, refused_longest, sheet_text}
use Rattle.writing.proofs.Writing.{refused_answer, refused_buffer, granted_answer, buffer_holds}

pub refused_shorter : RefusedShorter
refused_shorter = refused_longest

pub never_longer : NeverLonger
never_longer (Ok f) w = granted_longest f w
never_longer (Err (Refused why k)) w = let l = refused_longest why k w.line in omega arith
never_longer (Err (BadSheet list place)) w =
    let l = refused_longest UnfitSheet 0 w.line in
    rw (← sheet_text list place) (omega arith)

pub longest_reached : LongestReached
unfolding answer_text line_with flatten decimal_of decimal_from pieces joined
longest_reached = refl

-- the number and the value by the two lengths
too_short_lem : (buf text : List ℕ) → length buf < length text → written_given (written_of buf text) ≡ (number_of BufferTooShort, 0)
too_short_lem buf text h = rw (← refused_answer buf text h)

long_enough : (buf text : List ℕ) → length text ≤ length buf → written_given (written_of buf text) ≡ (granted, length text)
long_enough buf text h = rw (← granted_answer buf text h)

pub only_too_short : OnlyTooShort
only_too_short buf text = (
  (λ e. ⊎_elim (λ (h : length buf < length text). h) (λ (h : length text ≤ length buf). absurd (apart (sym (long_enough buf text h) ∙ e))) (lt_or_le (length buf) (length text)), too_short_lem buf text),
  (λ e. ⊎_elim (λ (h : length buf < length text). absurd (apart (sym e ∙ too_short_lem buf text h))) (λ (h : length text ≤ length buf). h) (lt_or_le (length buf) (length text)), long_enough buf text),
)
  where
    -- a granted answer's number is none of a refusal's
    apart : {n : ℕ} → ◌≡◌ {A = ℕ × ℕ} (granted, n) (number_of BufferTooShort, 0) → ⊥
    apart e = let z = ap (λ (p : ℕ × ℕ). p.0) e in omega arith

pub longest_suffices : LongestSuffices
longest_suffices o buf w h = long_enough buf (answer_text o) (le_trans (never_longer o w) h)

pub refused_keeps : RefusedKeeps
refused_keeps buf text h = sym (refused_buffer buf text h)

pub granted_holds : GrantedHolds
granted_holds = buffer_holds
