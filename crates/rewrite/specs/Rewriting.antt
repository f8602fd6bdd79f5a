-- Rules, "A soil that is not known": stored jobs that were written while U was read as C everywhere, rewritten so that they say C.
-- Assumes nothing.
use Rattle.std.specs.Prelude.{ℕ, cond, List, map, eqb, Result, Ok, Err}
use Prim.Native.Char.{code}
use Rattle.job.specs.declared.Reading.{Reading}
use Rattle.job.specs.declared.Unread.{Unread}
use Rattle.job.specs.Reading.{reading_of}

-- the letter of the soil that is not known, and of the one that it was read as
abbrev pub letter_u : ℕ
letter_u = code "U"

abbrev pub letter_c : ℕ
letter_c = code "C"

-- the byte C for the byte U, and every other byte as it is
abbrev pub c_for_u : ℕ → ℕ
c_for_u x = cond (eqb x letter_u) letter_c x

-- A text that reads gets C for each U, which by HeadKept and OnlyTheSoil stands nowhere in it but as the soil of an area line; one that
-- does not read is left as it came.
abbrev pub if_it_reads : Result Reading Unread → List ℕ → List ℕ
if_it_reads (Ok r) text = map c_for_u text
if_it_reads (Err u) text = text

unfoldable pub rewritten_of : List ℕ → List ℕ
rewritten_of text = if_it_reads (reading_of text) text
