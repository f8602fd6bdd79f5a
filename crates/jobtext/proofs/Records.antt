-- The record of a list of sub-areas: what is stored stands behind what was there.
-- Assumes nothing.
use Prim.Native.Nat.{◌+◌, ◌≤◌}
use mathlib.Core.List.{List, [], ◌∷◌, ◌++◌, append_assoc, append-nil}
use mathlib.Core.Path.{◌≡◌, sym, ◌∙◌, ap}
use native.Mathlib.Omega.{arith}
use lib.ListN.{length}
use Rattle.site.specs.declared.SubArea.{SubArea}
use Rattle.site.specs.declared.Site.{Site}
use Rattle.site.specs.Parts.{most_parts, parts_of}
use Rattle.site.specs.Adding.{stored}
use Rattle.site.specs.Promises.{InMemory}
use Rattle.site.proofs.Adding.{memory_stored}
use Rattle.site.proofs.Promises.{parts_stored}
use Rattle.jobtext.specs.Records.{stored_all}

pub stored_memory : (s : Site) (ps : List SubArea) → InMemory s → InMemory (stored_all s ps)
unfolding stored_all
stored_memory s [] m = m
stored_memory s (p ∷ ps) m = stored_memory (stored s p) ps (memory_stored s p m)

pub stored_count : (s : Site) (ps : List SubArea) → (stored_all s ps).count ≡ s.count + length ps
unfolding stored_all
stored_count s [] = omega arith
stored_count s (p ∷ ps) = stored_count (stored s p) ps ∙ omega arith

pub stored_parts : (s : Site) (ps : List SubArea) → InMemory s → s.count + length ps ≤ most_parts → parts_of (stored_all s ps) ≡ parts_of s ++ ps
unfolding stored_all
stored_parts s [] m h = sym (append-nil (parts_of s))
stored_parts s (p ∷ ps) m h =
    stored_parts (stored s p) ps (memory_stored s p m) (omega arith)
    ∙ ap (λ (qs : List SubArea). qs ++ ps) (parts_stored s p m (omega arith))
    ∙ append_assoc (parts_of s) (p ∷ []) ps
