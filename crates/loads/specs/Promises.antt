-- Rules, "Site and load": what is promised of loads, as statements that proofs/Promises.antt proves.
-- Assumes nothing.
use Rattle.std.specs.Prelude.{ℕ, ◌≤◌, ◌≡◌, List, ◌↔◌}
use Rattle.refusal.specs.Refusal.{granted}
use Rattle.units.specs.declared.Nutrient.{Nutrient}
use Rattle.units.specs.Limits.{most_percent}
use Rattle.site.specs.declared.Site.{Site}
use Rattle.site.specs.Judging.{judged}
use Rattle.site.specs.Judging as site
use Rattle.site.specs.Parts.{parts_of, empty_site}
use Rattle.site.specs.Runs.{Step, ran, built_from}
use Rattle.site.specs.Promises.{Alike, SameSubAreas, Startable}
use Rattle.loads.specs.Rates.{export_rates}
use Rattle.loads.specs.Loads.{load_of, load_under, load_answer, removed_of, given}

-- A load is granted exactly where the record is judged fine, and is then the sum of area times rate: 15 does not arise.
abbrev pub LoadGrantedExactly : Type 0
LoadGrantedExactly =
    (n : Nutrient) (s : Site) (a : ℕ)
    → (given (load_answer n s) ≡ (granted, a)) ↔ (((site.given (judged s)).0 ≡ granted) × (load_of (export_rates n) (parts_of s) ≡ a))

-- A record that is refused has its own number for an answer, and no load.
abbrev pub LoadRefused : Type 0
LoadRefused =
    (n : Nutrient) (s : Site) → ((site.given (judged s)).0 ≡ granted → ⊥) → given (load_answer n s) ≡ ((site.given (judged s)).0, 0)

-- What stands in the record past its count changes no load.
abbrev pub PastCountUnread : Type 0
PastCountUnread = (rates : List ℕ) (s t : Site) → Alike s t → load_under rates s ≡ load_under rates t

-- Two records that are judged fine and hold the same sub-areas have the same load, whatever their numbers.
abbrev pub BySubAreasAlone : Type 0
BySubAreasAlone = (rates : List ℕ) (s t : Site) → SameSubAreas s t → load_under rates s ≡ load_under rates t

-- After any run of adds and removals, from an empty site or any other that is fine, the load is that of a site built afresh from what
-- is left.
abbrev pub BuiltAfresh : Type 0
BuiltAfresh =
    (rates : List ℕ) (s : Site) (steps : List Step)
    → Startable s
    → load_under rates (ran s steps) ≡ load_under rates (ran empty_site (built_from (parts_of (ran s steps))))

-- No more is removed than is there, and a higher percent never removes less.
abbrev pub RemovedWithin : Type 0
RemovedWithin =
    (load percent : ℕ)
    → percent ≤ most_percent
    → (removed_of load percent ≤ load) × ((lower : ℕ) → lower ≤ percent → removed_of load lower ≤ removed_of load percent)
