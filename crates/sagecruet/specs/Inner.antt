-- What only private functions ask of one another: nobody need read it to believe the promises.
-- Assumes nothing.
use Rattle.std.specs.Prelude.{ℕ, ◌*◌, ◌≤◌, Bool, cond, List, length, Result, Ok, Err}
use Rattle.refusal.specs.declared.Refusal.{Refusal}
use Rattle.refusal.specs.declared.Refusal.TheVariants.{MalformedText}
use Rattle.site.specs.Parts.{most_parts}

-- a list of so many sub-areas, no more than a site holds
pub record Fours (n : ℕ) (xs : List ℕ) : Type 0 where
  pub long : n * 4 ≤ length xs
  pub few : n ≤ most_parts

-- what is told by codes, where all have words
abbrev pub where_worded : {X : Type 0} → Bool → X → Result X Refusal
where_worded ok x = cond ok (Ok x) (Err MalformedText)
