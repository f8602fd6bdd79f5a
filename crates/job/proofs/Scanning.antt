-- A word of an area line that is read where it stands is the first field of its line.
-- Assumes nothing.
use Rattle.std.specs.Prelude.{Some, None}
use Prim.Native.Nat.{ℕ}
use mathlib.Core.Path.{◌≡◌, refl, sym, ◌∙◌}
use mathlib.Core.Bool.{Bool, true, false, cond}
use mathlib.Core.List.{List}
use lib.ListN.{drop}
use Rattle.text.specs.Pieces.{line_feed, comma, before_of, after_of}
use Rattle.text.specs.Words.{place_from, word_from}
use Rattle.text.proofs.Splitting.{has_of}
use Rattle.text.proofs.Front.{all_free, On, field_on, field_behind}
use Rattle.text.proofs.Standing.{step_place, standing_place, standing_cut, step_after}

-- a word that a comma ends is the first field of its line
module _ (ws : List (List ℕ)) (s : List ℕ) (at : ℕ) (f : all_free comma ws ≡ true) (g : all_free line_feed ws ≡ true) where
  abbrev line : List ℕ
  line = before_of line_feed (drop at s)

  pub field_place : (word_from ws comma s at 0).place ≡ cond (has_of comma line) (place_from ws (before_of comma line) 0) None
  field_place =
      step_place ws comma s at 0
      ∙ sym (standing_cut ws comma line_feed (drop at s) 0 g refl)
      ∙ standing_place ws comma line 0 f

  pub field_there : {j : ℕ} → (word_from ws comma s at 0).place ≡ Some j → has_of comma line ≡ true
  field_there {j} h = pick (has_of comma line) refl (sym field_place ∙ h)
    where
      pick : (there : Bool) → has_of comma line ≡ there → cond there (place_from ws (before_of comma line) 0) None ≡ Some j → has_of comma line ≡ true
      pick true e h = e
      pick false e h = cc

  -- behind it stand the other fields of the line
  pub field_rest : {j : ℕ} → (word_from ws comma s at 0).place ≡ Some j → after_of comma line ≡ before_of line_feed (drop (word_from ws comma s at 0).next s)
  field_rest h = rw (step_after ws comma s at 0 f h) (field_behind comma line_feed (drop at s) (field_there h))

  pub field_goes_on : {j : ℕ} → (word_from ws comma s at 0).place ≡ Some j → On line_feed (drop at s) (drop (word_from ws comma s at 0).next s)
  field_goes_on h = rw (step_after ws comma s at 0 f h) (field_on comma line_feed (drop at s) (field_there h))
