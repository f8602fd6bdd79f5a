-- The cases of an enum in their order, and a case told by its place among them.
-- Assumes nothing.
use Rattle.std.specs.Prelude.{ℕ, List, [], ◌∷◌, Result, ok_or, slice_get}
use Rattle.refusal.specs.declared.Refusal.{Refusal}
use Rattle.refusal.specs.declared.Refusal.TheVariants.{MalformedText}
use Rattle.units.specs.declared.Nutrient.{Nutrient}
use Rattle.units.specs.declared.Nutrient.TheVariants.{P, N}

abbrev pub nutrients : List Nutrient
nutrients = P ∷ N ∷ []

abbrev pub nutrient_place : Nutrient → ℕ
nutrient_place P = 0
nutrient_place N = 1

-- the case at a place, refused 1 past the last
abbrev pub coded : {X : Type 0} → List X → ℕ → Result X Refusal
coded cases k = ok_or (slice_get cases k) MalformedText
