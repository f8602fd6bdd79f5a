-- Rules, "The numbers given back": writing a text into a lent buffer; the only refusal is 13, for a buffer that is shorter than the text.
-- Assumes nothing.
use Rattle.refusal.specs.declared.Refusal.{Refusal}
use Rattle.std.specs.Prelude.{ℕ, ◌+◌, Bool, cond, List, ◌++◌, ltb, length, take, drop, Result, Ok, Err}
use Rattle.refusal.specs.declared.Refusal.TheVariants.{BufferTooShort}
use Rattle.refusal.specs.Refusal.{number_of, granted}

-- a buffer with a text written over it from a place on: what stands before that place, and what stands behind the text, is as it was
unfoldable pub pasted : List ℕ → ℕ → List ℕ → List ℕ
pasted buf at text = take at buf ++ text ++ drop (at + length text) buf

-- the buffer is shorter than the text
abbrev pub too_short : List ℕ → List ℕ → Bool
too_short buf text = ltb (length buf) (length text)

-- what writing a text into a buffer answers: the text's length, or the refusal
unfoldable pub written_of : List ℕ → List ℕ → Result ℕ Refusal
written_of buf text = cond (too_short buf text) (Err BufferTooShort) (Ok (length text))

-- what a call answers that puts a text into a buffer and refuses nothing: the text's length, or 0 where it does not fit
unfoldable pub put_length : List ℕ → List ℕ → ℕ
put_length buf text = cond (too_short buf text) 0 (length text)

-- what the buffer holds afterwards: refused, what it held
unfoldable pub buffer_of : List ℕ → List ℕ → List ℕ
buffer_of buf text = cond (too_short buf text) buf (pasted buf 0 text)

-- the rules' number and value: a refusal's value is 0
abbrev pub written_given : Result ℕ Refusal → ℕ × ℕ
written_given (Ok n) = (granted, n)
written_given (Err why) = (number_of why, 0)
