-- Where the offending line lies.
-- Assumes nothing.
use Rattle.std.specs.Prelude.{Result, Ok, Err}
use Prim.Native.Nat.{ℕ, zero, suc, ◌-◌, ◌≤◌, ◌<◌}
use mathlib.Core.List.{List}
use mathlib.Core.Path.{◌≡◌, refl, sym, ◌∙◌, ap}
use mathlib.Core.Bool.{Bool, true, false, cond}
use native.Mathlib.Omega.{arith}
use lib.ListN.{length}
use lib.Dec.{eqb}
use borrow.Author.Tests.{ne_eqb}
use Rattle.refusal.specs.declared.Refusal.{Refusal}
use Rattle.refusal.specs.declared.Refusal.TheVariants.{MalformedText}
use Rattle.refusal.specs.declared.Refusal.TheVariants as refused
use Rattle.refusal.specs.Refusal.{number_of}
use Rattle.text.specs.Pieces.{line_feed, next_of, start_of}
use Rattle.text.proofs.Splitting.{next_within, start_within}
use Rattle.job.specs.declared.Reading.{Reading}
use Rattle.job.specs.declared.Unread.{Unread}
use Rattle.job.specs.declared.Span.{Span}
use Rattle.job.specs.Reading.{reading_of, given}
use Rattle.job.specs.Fault.{at_the_end, line_span, fault_in, fault_of}

-- line k is the piece behind k - 1 others
pub line_there : (s : List ℕ) (k : ℕ) {from to : ℕ} → 1 ≤ k → from ≡ start_of line_feed s (k - 1) → to ≡ next_of line_feed s from → record { from = from; to = to } ≡ line_span s k
unfolding line_span
line_there s k {from} {to} h starts ends =
    let z : k ≡ suc (k - 1) = omega arith in
    let there : ◌≡◌ {A = Span} (record { from = from; to = to }) (line_span s (suc (k - 1))) = rw (ends, starts) in
    there ∙ ap (line_span s) (sym z)

-- line 0 is that of a text that is too long
pub line_start : (s : List ℕ) (k : ℕ) → k < 1 → record { from = 0; to = 0 } ≡ line_span s k
unfolding line_span
line_start s k h =
    let z : k ≡ 0 = omega arith in
    rw z

-- refusal 1 alone has its number
malformed_alone : (why : Refusal) → number_of why ≡ number_of MalformedText → why ≡ MalformedText
malformed_alone MalformedText e = refl
malformed_alone refused.NoPublishedSheet e = absurd (omega arith)
malformed_alone refused.UnfitSubArea e = absurd (omega arith)
malformed_alone refused.TotalAreaPassed e = absurd (omega arith)
malformed_alone refused.UnfitSheet e = absurd (omega arith)
malformed_alone refused.RateOutOfRange e = absurd (omega arith)
malformed_alone refused.RateBelowSheet e = absurd (omega arith)
malformed_alone refused.NoImperviousArea e = absurd (omega arith)
malformed_alone refused.AmountOutOfRange e = absurd (omega arith)
malformed_alone refused.TargetUnreachable e = absurd (omega arith)
malformed_alone refused.ReadingNotARate e = absurd (omega arith)
malformed_alone refused.ReadingTooFast e = absurd (omega arith)
malformed_alone refused.BufferTooShort e = absurd (omega arith)
malformed_alone refused.SiteFull e = absurd (omega arith)
malformed_alone refused.PastLargest e = absurd (omega arith)
malformed_alone refused.NumberNotHeld e = absurd (omega arith)
malformed_alone refused.NumbersSpent e = absurd (omega arith)

-- the part that a reading points to
module _ (s : List ℕ) {found : Result Reading Unread} (e : found ≡ reading_of s) where
  pub fault_granted : {r : Reading} → found ≡ Ok r → at_the_end s ≡ fault_of s
  unfolding fault_in
  fault_granted f = rw (← e, f)

  module _ {u : Unread} (f : found ≡ Err u) where
    pub fault_other : (u.why ≡ MalformedText → ⊥) → at_the_end s ≡ fault_of s
    unfolding fault_in
    fault_other other = rw (← e, f, ne_eqb (number_of u.why) (number_of MalformedText) (λ h. other (malformed_alone u.why h)))

    pub fault_malformed : u.why ≡ MalformedText → line_span s u.line ≡ fault_of s
    unfolding fault_in
    fault_malformed one = rw (← e, f, one)

-- the offending part lies within the text
pub fault_within : (s : List ℕ) → ((fault_of s).from ≤ (fault_of s).to) × ((fault_of s).to ≤ length s)
unfolding fault_in line_span
fault_within s = at (eqb (given (reading_of s)).0 (number_of MalformedText)) (given (reading_of s)).1
  where
    at : (b : Bool) (k : ℕ) → ((cond b (line_span s k) (at_the_end s)).from ≤ (cond b (line_span s k) (at_the_end s)).to) × ((cond b (line_span s k) (at_the_end s)).to ≤ length s)
    at false k = (omega arith, omega arith)
    at true zero = (omega arith, omega arith)
    at true (suc k) =
        (omega arith, omega (arith, next_within line_feed s (start_of line_feed s k), start_within line_feed s k))
