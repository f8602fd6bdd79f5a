-- Rules, "The three demands", the first, proved of the definitions that the contracts cite.
-- Assumes nothing.
use Rattle.std.specs.Prelude.{Ok, Err}
use Prim.Native.Nat.{ℕ}
use mathlib.Core.Bool.{Bool, true, false}
use mathlib.Core.List.{List}
use mathlib.Core.Logic.{◌⊎◌, inl, inr}
use mathlib.Core.Path.{◌≡◌, refl}
use native.Mathlib.Nat.{zero-add}
use lib.Dec.{ltb}
use lib.ListN.{length}
use borrow.Author.Tests.{le-ltb}
use Rattle.refusal.specs.declared.Refusal.TheVariants.{UnfitSheet}
use Rattle.refusal.specs.Refusal.{granted}
use Rattle.refusal.proofs.Numbers.{refusal_not_granted}
use Rattle.answer.specs.Outcomes.{Outcome}
use Rattle.answer.specs.declared.Failure.TheVariants.{Refused, BadSheet}
use Rattle.answer.specs.Outcomes.{given, fault_line}
use Rattle.answer.specs.Lines.{answer_text}
use Rattle.writing.specs.Writing.{pasted, written_of, buffer_of, written_given}
use Rattle.calculator.specs.Outcome.{outcome_of}
use Rattle.calculator.specs.Promises.{Zeros, EveryTextAnswered, UnreadIsRefused, BufferKept}

answered : (o : Outcome)
    → (((given o).answer ≡ granted) × (fault_line o ≡ 0) × ((given o).list ≡ 0) × ((given o).place ≡ 0))
    ⊎ (((given o).answer ≡ granted → ⊥) × Zeros (given o))
answered (Ok f) = inl (refl, refl, refl, refl)
answered (Err (Refused why line)) =
    inr (refusal_not_granted why, record { load = refl; depth = refl; percent = refl; basis = refl; volume = refl; removed = refl })
answered (Err (BadSheet list place)) =
    inr (refusal_not_granted UnfitSheet, record { load = refl; depth = refl; percent = refl; basis = refl; volume = refl; removed = refl })

pub every_text_answered : EveryTextAnswered
every_text_answered sheet text = answered (outcome_of sheet text)

pub unread_is_refused : UnreadIsRefused
unfolding outcome_of
unread_is_refused sheet text why line e = (rw e, rw e)

kept : (b : Bool) (t buf : List ℕ) → ltb (length buf) (length t) ≡ b → ((written_given (written_of buf t)).0 ≡ granted → ⊥) → buffer_of buf t ≡ buf
unfolding written_of buffer_of
kept true t buf e h = rw e
kept false t buf e h = absurd (h (rw e))

pub buffer_kept : BufferKept
unfolding buffer_of pasted
buffer_kept sheet text buf = (
  kept (ltb (length buf) (length (answer_text (outcome_of sheet text)))) (answer_text (outcome_of sheet text)) buf refl,
  λ h. simp (le-ltb (length buf) (length (answer_text (outcome_of sheet text))) h, zero-add),
)
