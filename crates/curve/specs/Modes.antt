-- Rules, "Job and answer text": the modes in the order of their words, and the place of each, counted from 0.
-- Assumes nothing.
use Rattle.std.specs.Prelude.{ℕ, List, [], ◌∷◌}
use Rattle.curve.specs.declared.Mode.{Mode}
use Rattle.curve.specs.declared.Mode.TheVariants.{Step, Mix}

abbrev pub modes : List Mode
modes = Step ∷ Mix ∷ []

abbrev pub mode_place : Mode → ℕ
mode_place Step = 0
mode_place Mix = 1
