-- Text in a definition: `bytes "word"` is the list of the codes of its characters.
-- Assumes nothing.
use Rattle.std.specs.Prelude.{ℕ, List, [], ◌∷◌}
use Prim.Native.String.{String, [] as ε, ◌∷◌ as ◌⊕◌}
use Prim.Native.Char.{code}

abbrev pub bytes : String → List ℕ
bytes ε = []
bytes (c ⊕ s) = code c ∷ bytes s
