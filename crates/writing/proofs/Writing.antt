-- What writing and putting a text answer, and the buffer afterwards, where it is too short and where it is not.
-- Assumes nothing.
use Rattle.std.specs.Prelude.{Ok, Err}
use Prim.Native.Nat.{ℕ, ◌≤◌, ◌<◌}
use mathlib.Core.Path.{◌≡◌, sym, ◌∙◌}
use mathlib.Core.Bool.{Bool, true, false}
use mathlib.Core.List.{List, ◌++◌}
use native.Mathlib.Nat.{zero-add}
use native.Mathlib.Omega.{arith}
use lib.ListN.{length, take, drop, length-append, length-drop}
use lib.Seq.{length-take-le, take-append_seam, drop-append_seam}
use borrow.Author.Tests.{lt-ltb, le-ltb, ltb-true, ltb-false}
use Rattle.refusal.specs.declared.Refusal.TheVariants.{BufferTooShort}
use Rattle.writing.specs.Writing.{pasted, too_short, written_of, put_length, buffer_of}

-- a text over the start of a buffer stands before what is behind it
pub pasted_start : (d t : List ℕ) → t ++ drop (length t) d ≡ pasted d 0 t
unfolding pasted
pasted_start d t = rw (zero-add (length t))

module _ (d t : List ℕ) where
  -- which of the two it is, by what a test of the lengths answered
  module _ {answer : Bool} (e : answer ≡ too_short d t) where
    pub short_told : answer ≡ true → length d < length t
    short_told h = ltb-true (length d) (length t) (sym e ∙ h)

    pub long_told : answer ≡ false → length t ≤ length d
    long_told h = ltb-false (length d) (length t) (sym e ∙ h)

  module _ (h : length d < length t) where
    pub refused_answer : Err BufferTooShort ≡ written_of d t
    unfolding written_of
    refused_answer = rw (lt-ltb (length d) (length t) h)

    pub refused_length : 0 ≡ put_length d t
    unfolding put_length
    refused_length = rw (lt-ltb (length d) (length t) h)

    pub refused_buffer : d ≡ buffer_of d t
    unfolding buffer_of
    refused_buffer = rw (lt-ltb (length d) (length t) h)

  module _ (h : length t ≤ length d) where
    pub granted_answer : Ok (length t) ≡ written_of d t
    unfolding written_of
    granted_answer = rw (le-ltb (length d) (length t) h)

    pub granted_length : length t ≡ put_length d t
    unfolding put_length
    granted_length = rw (le-ltb (length d) (length t) h)

    -- with the length that putting the text answered
    pub granted_put : {r : ℕ} → r ≡ put_length d t → Ok r ≡ written_of d t
    granted_put e = rw (e, ← granted_length) granted_answer

    pub granted_buffer : pasted d 0 t ≡ buffer_of d t
    unfolding buffer_of
    granted_buffer = rw (le-ltb (length d) (length t) h)

-- A text over the start of a buffer that has room for it stands there, and what stands behind it, and its length, are as they were.
pub buffer_holds : (d t : List ℕ) → length t ≤ length d
    → (take (length t) (buffer_of d t) ≡ t) × (drop (length t) (buffer_of d t) ≡ drop (length t) d) × (length (buffer_of d t) ≡ length d)
unfolding buffer_of pasted
buffer_holds d t h =
    rw (le-ltb (length d) (length t) h, zero-add (length t))
    (take-append_seam t (drop (length t) d), drop-append_seam t (drop (length t) d), length-append t (drop (length t) d) ∙ rw (length-drop (length t) d) (omega arith))

-- a text of so many bytes, and a part of so many, the first of a buffer, that is filled with it
module _ (d t : List ℕ) {size : ℕ} (e : size ≡ length t) where
  pub no_part : length d < size → length d < length t
  no_part h = rw (← e) h

  module _ (h : size ≤ length d) where
    pub part_long : size ≡ length (take size d)
    part_long = sym (length-take-le size d h)

    pub part_fits_lem : length (take size d) ≡ length t
    part_fits_lem = sym part_long ∙ e

    pub part_length : size ≡ put_length d t
    part_length = e ∙ granted_length d t (rw (← e) h)

    pub part_buffer : {part : List ℕ} → part ≡ t → part ++ drop size d ≡ buffer_of d t
    part_buffer f = rw (f, e) (pasted_start d t) ∙ granted_buffer d t (rw (← e) h)
