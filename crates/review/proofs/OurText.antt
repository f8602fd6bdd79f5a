-- Our text in a buffer of the longest text's length: it always fits, by what `answer::write` ensures of every text, since an outcome in
-- memory has numbers of 64 bits (`kept_wide`).
-- Assumes nothing.
use Rattle.std.specs.Prelude.{Result, ℕ}
use Rattle.refusal.specs.declared.Refusal.{Refusal}
use Prim.Native.Nat.{ℕ, ◌≤◌}
use mathlib.Core.List.{List}
use mathlib.Core.Path.{◌≡◌, ◌∙◌, ap}
use native.Mathlib.Nat.{le_trans}
use native.Mathlib.Omega.{arith}
use lib.ListN.{length, take}
use Rattle.writing.specs.Writing.{written_of, buffer_of, written_given}
use Rattle.answer.specs.Outcomes.{Outcome}
use Rattle.answer.specs.Lines.{answer_text, longest}
use Rattle.answer.proofs.Promises.{only_too_short, granted_holds}
pub use Rattle.answer.proofs.InMemory.{kept_wide}

module _ (o : Outcome) (short : length (answer_text o) ≤ longest) (blank : List ℕ) (room : longest ≤ length blank) where
  module _ {buf : List ℕ} {written : Result ℕ Refusal} {n : ℕ}
      (answered : written ≡ written_of blank (answer_text o))
      (held : buf ≡ buffer_of blank (answer_text o))
      (told : n ≡ (written_given written).1) where
    holds : (take (length (answer_text o)) (buffer_of blank (answer_text o)) ≡ answer_text o) × (length (buffer_of blank (answer_text o)) ≡ length blank)
    holds = let h = granted_holds blank (answer_text o) (le_trans short room) in (h.0, h.2)

    ours_length : n ≡ length (answer_text o)
    ours_length = told ∙ ap (λ (x : Result ℕ Refusal). (written_given x).1) answered ∙ ap (λ (p : ℕ × ℕ). p.1) ((only_too_short blank (answer_text o)).1.1 (le_trans short room))

    pub ours_within : n ≤ length buf
    ours_within =
        let m = ours_length in
        let l = short in
        let b = ap length held ∙ holds.1 in
        omega arith

    pub ours_taken : take n buf ≡ answer_text o
    ours_taken = rw (ours_length, held) holds.0
