-- Texts put into a lent buffer, each right behind those before it.
-- Assumes nothing.
use Rattle.std.specs.Prelude.{ℕ, ◌+◌, cond, List, [], ◌∷◌, ltb, length}
use Rattle.writing.specs.Writing.{pasted}
use Rattle.writing.specs.declared.writer.Writer.{Writer}

-- a buffer and the place up to which it is written
abbrev pub so_far : Writer → List ℕ × ℕ
so_far w = (w.buf.now, w.at)

-- one text more, right behind what is there: where it does not fit, all stays as it was
unfoldable pub added : List ℕ × ℕ → List ℕ → List ℕ × ℕ
added s text = cond (ltb (length s.0) (s.1 + length text)) s (pasted s.0 s.1 text, s.1 + length text)

-- some texts more, one behind the other
abbrev pub all_added : List ℕ × ℕ → List (List ℕ) → List ℕ × ℕ
all_added s [] = s
all_added s (t ∷ ts) = all_added (added s t) ts
