-- What only proofs ask of one another: nobody need read it to believe the promises.
-- Assumes nothing.
use Rattle.refusal.specs.declared.Refusal.{Refusal}
use Rattle.std.specs.Prelude.{ℕ, ◌+◌, ◌≤◌, ◌<◌, [], ◌∷◌, ◌≡◌, Result, Ok, Err}
use Rattle.laws.specs.Turn.{in_turn}
use Rattle.refusal.specs.declared.Refusal.TheVariants.{TotalAreaPassed}
use Rattle.units.specs.declared.Area.{Area}
use Rattle.units.specs.Limits.{most_area}
use Rattle.site.specs.declared.Site.{Site}
use Rattle.site.specs.Parts.{most_parts, parts_of, total_area}
use Rattle.site.specs.Judging.{has_room, judged}
use Rattle.site.specs.Promises.{InMemory}

-- what an area makes of a total: 3 is tried
abbrev pub grown_by : ℕ → ℕ → Result Area Refusal
grown_by total area = in_turn Err (Ok (record { 0 = total + area })) ((has_room total area, TotalAreaPassed) ∷ [])

-- What is known of a record that is judged fine.
pub record Fine (s : Site) : Type 0 where
  pub count : s.count ≤ most_parts
  pub total : total_area (parts_of s) ≤ most_area

-- A record in memory that is judged fine, with its total area.
pub record Told (s : Site) (total : Area) : Type 0 where
  pub memory : InMemory s
  pub fine : judged s ≡ Ok total
