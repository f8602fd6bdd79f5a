-- The word at a place of a list of words.
-- Assumes nothing.
use Rattle.std.specs.Prelude.{Option, Some, None}
use Prim.Native.Nat.{ℕ}
use mathlib.Core.Path.{◌≡◌, sym, ◌∙◌, ap}
use mathlib.Core.List.{List, [], map}
use denote.Ref.{Bor}
use lib.ListN.{get_or-eq_default}
use Rattle.std.specs.Option.{unwrap_or, option_copied}
use Rattle.std.specs.Slice.{IsItemAt}
use Rattle.std.proofs.lemmas.List.{get_or-map, length-map}
use Rattle.writing.specs.Lines.{word_at}

-- It is the word that is looked up, and nothing where none is found.
pub word_told : (words : List (Bor (List ℕ))) (k : ℕ) (found : Option (Bor (Bor (List ℕ)))) (none : Bor (List ℕ)) {copy : Option (Bor (List ℕ))} {r : Bor (List ℕ)} → IsItemAt words k found → copy ≡ option_copied found → r ≡ unwrap_or copy none → none.now ≡ [] → r.now ≡ word_at (map (λ w. w.now) words) k
unfolding word_at
word_told words k None none g q e n = ap (λ (w : Bor (List ℕ)). w.now) (rw q at e) ∙ n ∙ sym (get_or-eq_default (map (λ w. w.now) words) [] (rw (length-map words (λ w. w.now)) g.3))
word_told words k (Some x) none g q e n = ap (λ (w : Bor (List ℕ)). w.now) (rw q at e ∙ g.3.1 none) ∙ sym (get_or-map (λ w. w.now) words k none [] g.3.0)
