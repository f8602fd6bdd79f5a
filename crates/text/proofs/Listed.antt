-- The search in a list of words.
-- Assumes nothing.
use Rattle.std.specs.Prelude.{Some}
use Prim.Native.Nat.{ℕ, ◌+◌, ◌-◌, ◌≤◌, ◌<◌}
use mathlib.Core.Path.{◌≡◌, refl, sym, ◌∙◌}
use mathlib.Core.Bool.{Bool, true, false, cond}
use mathlib.Core.List.{List, [], ◌∷◌, ◌++◌, map}
use native.Mathlib.Numerals.{add-one}
use native.Mathlib.Omega.{arith}
use lib.ListN.{length, get_or, drop, length-append}
use lib.Seq.{drop-cons}
use Rattle.std.proofs.lemmas.List.{drop_all}
use Rattle.text.specs.declared.WordStep.{WordStep}
use Rattle.text.specs.Words.{opens_of, unread, word_from}
use Rattle.text.proofs.Front.{stands_within}

-- the search has the words from place k on to go
pub record Sought {X : Type 0} (now : X → List ℕ) (words : List X) (b : ℕ) (s : List ℕ) (at k : ℕ) : Type 0 where
  pub decides : word_from (map now (drop k words)) b s at k ≡ word_from (map now words) b s at 0

module _ {X : Type 0} {now : X → List ℕ} {words : List X} {b : ℕ} {s : List ℕ} {at : ℕ} where
  pub sought_none : Sought now words b s at 0
  sought_none = record { decides = refl }

  pub sought_all : {k : ℕ} {r : WordStep} → Sought now words b s at k → length words ≤ k → r ≡ unread s → r ≡ word_from (map now words) b s at 0
  unfolding word_from
  sought_all {k} w h e = e ∙ rw (drop_all k words h) at w.decides

  -- Word k, with the byte that ends it, stands there or not.
  module _ (none : X) {k : ℕ} (w : Sought now words b s at k) (h : k < length words) {o : Bool} (e : o ≡ opens_of (now (get_or words k none) ++ (b ∷ [])) (drop at s)) where
    step : word_from (map now (drop k words)) b s at k
        ≡ cond o (record { place = Some k; next = at + length (now (get_or words k none) ++ (b ∷ [])) }) (word_from (map now (drop (k + 1) words)) b s at (k + 1))
    unfolding word_from
    step = rw (e, drop-cons words k none h, add-one k)

    pub sought_found : o ≡ true → record { place = Some k; next = at + length (now (get_or words k none)) + 1 } ≡ word_from (map now words) b s at 0
    sought_found t =
        let m : at + length (now (get_or words k none) ++ (b ∷ [])) ≡ at + length (now (get_or words k none)) + 1 = let a = length-append (now (get_or words k none)) (b ∷ []) in omega arith in
        sym (rw (t, m) at step) ∙ w.decides

    pub sought_next : o ≡ false → Sought now words b s at (k + 1)
    sought_next t = record { decides = sym (rw t at step) ∙ w.decides }

-- a word with the byte that ends it ends no further than the end of s
pub sought_fits : (s w : List ℕ) (at b : ℕ) {o : Bool} → o ≡ opens_of (w ++ (b ∷ [])) (drop at s) → o ≡ true → length w + 1 ≤ length s - at
sought_fits s w at b e t =
    let a = length-append w (b ∷ []) in
    let l = stands_within s (w ++ (b ∷ [])) at e t in
    omega arith
