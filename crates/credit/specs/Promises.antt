-- Rules, "The three demands", of site records and sheets: what is promised of crediting and sizing, for every lent sheet and every
-- published practice, every site record, every rate and both modes, through the numbers and values given back. Proved in
-- proofs/Promises, Granting and Ordering.
-- Assumes nothing.
use Rattle.std.specs.Prelude.{ℕ, ◌≤◌, ◌<◌, Bool, true, false, List, ◌↔◌, ◌≡◌, get_or}
use Rattle.refusal.specs.Refusal.{number_of, granted}
use Rattle.refusal.specs.declared.Refusal.TheVariants.{NoPublishedSheet, UnfitSheet, RateOutOfRange, RateBelowSheet, NoImperviousArea, AmountOutOfRange, TargetUnreachable}
use Rattle.units.specs.declared.Nutrient.{Nutrient}
use Rattle.units.specs.Limits.{largest, most_area, most_percent, highest_depth}
use Rattle.site.specs.declared.Site.{Site}
use Rattle.site.specs.Parts.{most_parts, parts_of, total_area, impervious_area}
use Rattle.site.specs.Judging.{numbered, judged, given as area_given}
use Rattle.site.specs.Promises.{all_fit, Alike, SameSubAreas}
use Rattle.loads.specs.Rates as rates
use Rattle.loads.specs.Loads.{load_of, removed_of}
use Rattle.volume.specs.Volume.{volume_of, depth_of}
use Rattle.sheet.specs.Rules.{Rules}
use Rattle.sheet.specs.Promises.{UnfitAt}
use Rattle.curve.specs.declared.Mode.{Mode}
use Rattle.curve.specs.declared.Basis.{Basis}
use Rattle.curve.specs.Curve.{percent_of}
use Rattle.curve.specs.Basis.{basis_of}
use Rattle.curve.specs.Answers.{fastest_taken}
use Rattle.curve.specs.Promises.{Usable, FasterIsNoLess, IsLeast}
use Rattle.published.specs.Tables.{depths}
use Rattle.published.specs.Published.{rates_of, percents_of, is_published}
use Rattle.credit.specs.declared.Wanted.{Wanted}
use Rattle.credit.specs.Answers.{Sheet, lent, published, credit, size, answer_of, Given, refused_with, given}

-- what crediting a volume gives back, and what sizing a target gives back
abbrev pub Credited : Sheet → Nutrient → Site → Mode → ℕ → ℕ → Given
Credited sheet n s mode r v = given (answer_of sheet (credit v) n s mode r)

abbrev pub Sized : Sheet → Nutrient → Site → Mode → ℕ → ℕ → Given
Sized sheet n s mode r target = given (answer_of sheet (size target) n s mode r)

-- a sheet's depths, rates and percents, those of the tables for a published practice
abbrev pub depths_in : Sheet → List ℕ
depths_in (lent ds rs ps) = ds
depths_in (published practice) = depths

abbrev pub rates_in : Sheet → Nutrient → List ℕ
rates_in (lent ds rs ps) n = rs
rates_in (published practice) n = rates_of practice n

abbrev pub percents_in : Sheet → Nutrient → List ℕ
percents_in (lent ds rs ps) n = ps
percents_in (published practice) n = percents_of practice n

-- the percent of a sheet at a site rate and a depth
abbrev pub percent_on : Sheet → Nutrient → Mode → ℕ → ℕ → ℕ
percent_on sheet n mode r d = percent_of (depths_in sheet) (rates_in sheet n) (percents_in sheet n) mode r d

-- and the basis of that percent
abbrev pub basis_on : Sheet → Nutrient → Mode → ℕ → ℕ → Basis
basis_on sheet n mode r d = basis_of (depths_in sheet) (rates_in sheet n) mode r d

-- the practice has a published sheet; a lent sheet is always there
abbrev pub is_there : Sheet → Nutrient → Bool
is_there (lent ds rs ps) n = true
is_there (published practice) n = is_published practice n

-- What is refused nothing, by the rules: a record of at most 32 sub-areas, each of which fits, of at most 1,000,000 in all, whose
-- numbers rise strictly from at least 1 and stay below its counter; a sheet that is there and keeps the rules; a rate that it takes,
-- within 10,000 (0 on a sheet without rates) and not below its slowest; and some impervious area. 15 does not arise: within these
-- limits no load and no V(200) passes 10^13.
pub record Accepted (sheet : Sheet) (n : Nutrient) (s : Site) (r : ℕ) : Type 0 where
  pub count : s.count ≤ most_parts
  pub each_fits : all_fit (parts_of s) ≡ true
  pub total : total_area (parts_of s) ≤ most_area
  pub numbers : numbered s ≡ true
  pub there : is_there sheet n ≡ true
  pub usable : Usable (depths_in sheet) (rates_in sheet n) (percents_in sheet n) r
  pub impervious : 0 < impervious_area (parts_of s)

-- Demand 2, what is granted: a credit exactly where all is accepted and the volume is within the limit,
abbrev pub CreditGrantedExactly : Type 0
CreditGrantedExactly =
    (sheet : Sheet) (n : Nutrient) (s : Site) (mode : Mode) (r v : ℕ)
    → ((Credited sheet n s mode r v).answer ≡ granted) ↔ (Accepted sheet n s r × (v ≤ largest))

-- and a size exactly where all is accepted and the target is at most 100 percent and at most the percent at depth 200.
abbrev pub SizeGrantedExactly : Type 0
SizeGrantedExactly =
    (sheet : Sheet) (n : Nutrient) (s : Site) (mode : Mode) (r target : ℕ)
    → ((Sized sheet n s mode r target).answer ≡ granted)
    ↔ (Accepted sheet n s r × (target ≤ most_percent) × (target ≤ percent_on sheet n mode r highest_depth))

-- whatever is wanted is refused with this number, list and place, zeros, and no basis
abbrev pub AllGive : Sheet → Nutrient → Site → Mode → ℕ → ℕ → ℕ → ℕ → Type 0
AllGive sheet n s mode r number list place = (wanted : Wanted) → given (answer_of sheet wanted n s mode r) ≡ refused_with number list place

-- a record that is judged fine, with a sheet that is there
pub record Begun (sheet : Sheet) (n : Nutrient) (s : Site) : Type 0 where
  pub fine : (area_given (judged s)).0 ≡ granted
  pub there : is_there sheet n ≡ true

-- What is refused, and in which order: the site record is judged before all else, and then 4 or 5, 6, 7, 8, 9, 15 and 10 are tried
-- (Rules, "The numbers given back"). Each line supposes that nothing before it arises; 15 never does.
pub record Refusals (sheet : Sheet) (n : Nutrient) (s : Site) (mode : Mode) (r : ℕ) : Type 0 where
  pub judged_first : ((area_given (judged s)).0 ≡ granted → ⊥) → AllGive sheet n s mode r (area_given (judged s)).0 0 0
  pub no_sheet : (area_given (judged s)).0 ≡ granted → is_there sheet n ≡ false → AllGive sheet n s mode r (number_of NoPublishedSheet) 0 0
  pub unfit : Begun sheet n s → (list place : ℕ) → UnfitAt (depths_in sheet) (rates_in sheet n) (percents_in sheet n) list place
      → AllGive sheet n s mode r (number_of UnfitSheet) list place
  pub too_fast : Begun sheet n s → Rules (depths_in sheet) (rates_in sheet n) (percents_in sheet n) → fastest_taken (rates_in sheet n) < r
      → AllGive sheet n s mode r (number_of RateOutOfRange) 0 0
  pub too_slow : Begun sheet n s → Rules (depths_in sheet) (rates_in sheet n) (percents_in sheet n) → r ≤ fastest_taken (rates_in sheet n)
      → r < get_or (rates_in sheet n) 0 0 → AllGive sheet n s mode r (number_of RateBelowSheet) 0 0
  pub no_impervious : Begun sheet n s → Usable (depths_in sheet) (rates_in sheet n) (percents_in sheet n) r → impervious_area (parts_of s) ≡ 0
      → AllGive sheet n s mode r (number_of NoImperviousArea) 0 0
  pub volume_past : Accepted sheet n s r → (v : ℕ) → largest < v → Credited sheet n s mode r v ≡ refused_with (number_of AmountOutOfRange) 0 0
  pub target_past : Accepted sheet n s r → (target : ℕ) → most_percent < target
      → Sized sheet n s mode r target ≡ refused_with (number_of AmountOutOfRange) 0 0
  pub unreachable : Accepted sheet n s r → (target : ℕ) → target ≤ most_percent → percent_on sheet n mode r highest_depth < target
      → Sized sheet n s mode r target ≡ refused_with (number_of TargetUnreachable) 0 0

abbrev pub RefusedInOrder : Type 0
RefusedInOrder = (sheet : Sheet) (n : Nutrient) (s : Site) (mode : Mode) (r : ℕ) → Refusals sheet n s mode r

-- Demand 2, from volume to credit: the load, the credit and the removed load are those of document 001's tables and equations, with
-- the rules' reading of a soil that is not known, and the basis is that of the sheet at the depth of the volume.
abbrev pub CreditIsByTheTables : Type 0
CreditIsByTheTables =
    (sheet : Sheet) (n : Nutrient) (s : Site) (mode : Mode) (r v : ℕ)
    → (Credited sheet n s mode r v).answer ≡ granted
    → ((Credited sheet n s mode r v).load ≡ load_of (rates.export_rates n) (parts_of s))
    × ((Credited sheet n s mode r v).depth ≡ depth_of (parts_of s) v)
    × ((Credited sheet n s mode r v).percent ≡ percent_on sheet n mode r (depth_of (parts_of s) v))
    × ((Credited sheet n s mode r v).basis ≡ basis_on sheet n mode r (depth_of (parts_of s) v))
    × ((Credited sheet n s mode r v).volume ≡ v)
    × ((Credited sheet n s mode r v).removed ≡ removed_of (Credited sheet n s mode r v).load (Credited sheet n s mode r v).percent)

-- Demand 2, from target to volume: the depth is the least grid depth whose percent is at least the target, with its percent and basis.
abbrev pub SizeIsByTheTables : Type 0
SizeIsByTheTables =
    (sheet : Sheet) (n : Nutrient) (s : Site) (mode : Mode) (r target : ℕ)
    → (Sized sheet n s mode r target).answer ≡ granted
    → ((Sized sheet n s mode r target).load ≡ load_of (rates.export_rates n) (parts_of s))
    × IsLeast (percent_on sheet n mode r) target (Sized sheet n s mode r target).depth
    × ((Sized sheet n s mode r target).percent ≡ percent_on sheet n mode r (Sized sheet n s mode r target).depth)
    × ((Sized sheet n s mode r target).basis ≡ basis_on sheet n mode r (Sized sheet n s mode r target).depth)
    × ((Sized sheet n s mode r target).volume ≡ volume_of (parts_of s) (Sized sheet n s mode r target).depth)
    × ((Sized sheet n s mode r target).removed ≡ removed_of (Sized sheet n s mode r target).load (Sized sheet n s mode r target).percent)

-- Demand 3: among granted answers with the same site, rate and mode, more storage never lowers the percent, nor the removed load.
abbrev pub MoreStorageNeverLess : Type 0
MoreStorageNeverLess =
    (sheet : Sheet) (n : Nutrient) (s : Site) (mode : Mode) (r v w : ℕ)
    → v ≤ w
    → (Credited sheet n s mode r v).answer ≡ granted
    → (Credited sheet n s mode r w).answer ≡ granted
    → ((Credited sheet n s mode r v).percent ≤ (Credited sheet n s mode r w).percent)
    × ((Credited sheet n s mode r v).removed ≤ (Credited sheet n s mode r w).removed)

-- A higher target never gets a smaller volume.
abbrev pub HigherTargetNeverSmaller : Type 0
HigherTargetNeverSmaller =
    (sheet : Sheet) (n : Nutrient) (s : Site) (mode : Mode) (r t u : ℕ)
    → t ≤ u
    → (Sized sheet n s mode r t).answer ≡ granted
    → (Sized sheet n s mode r u).answer ≡ granted
    → (Sized sheet n s mode r t).volume ≤ (Sized sheet n s mode r u).volume

-- The volume that is given is credited with at least its target, and every smaller volume with less.
abbrev pub SizedIsLeast : Type 0
SizedIsLeast =
    (sheet : Sheet) (n : Nutrient) (s : Site) (mode : Mode) (r target : ℕ)
    → (Sized sheet n s mode r target).answer ≡ granted
    → ((Credited sheet n s mode r (Sized sheet n s mode r target).volume).answer ≡ granted)
    × (target ≤ (Credited sheet n s mode r (Sized sheet n s mode r target).volume).percent)
    × ((v : ℕ)
    → v < (Sized sheet n s mode r target).volume
    → ((Credited sheet n s mode r v).answer ≡ granted) × ((Credited sheet n s mode r v).percent < target))

-- A target of 0 to 100 percent is refused as unreachable exactly when no volume within the limit is credited with it. That all else
-- is accepted says that the volume 0 is credited; then so is every volume within the limit.
abbrev pub UnreachableExactly : Type 0
UnreachableExactly =
    (sheet : Sheet) (n : Nutrient) (s : Site) (mode : Mode) (r target : ℕ)
    → target ≤ most_percent
    → (Credited sheet n s mode r 0).answer ≡ granted
    → ((v : ℕ) → v ≤ largest → (Credited sheet n s mode r v).answer ≡ granted)
    × (((Sized sheet n s mode r target).answer ≡ number_of TargetUnreachable)
    ↔ ((v : ℕ) → v ≤ largest → (Credited sheet n s mode r v).percent < target))

-- Where no percent of the sheet falls as its rate rises, a faster soil never lowers the credit.
abbrev pub FasterSoilNeverLess : Type 0
FasterSoilNeverLess =
    (sheet : Sheet) (n : Nutrient) (s : Site) (mode : Mode) (r q v : ℕ)
    → FasterIsNoLess (depths_in sheet) (rates_in sheet n) (percents_in sheet n)
    → r ≤ q
    → (Credited sheet n s mode r v).answer ≡ granted
    → (Credited sheet n s mode q v).answer ≡ granted
    → (Credited sheet n s mode r v).percent ≤ (Credited sheet n s mode q v).percent

-- On the published tables it is so: no percent falls as its rate rises.
abbrev pub FasterSoilOnTheTables : Type 0
FasterSoilOnTheTables =
    (practice : ℕ) (n : Nutrient) (s : Site) (mode : Mode) (r q v : ℕ)
    → r ≤ q
    → (Credited (published practice) n s mode r v).answer ≡ granted
    → (Credited (published practice) n s mode q v).answer ≡ granted
    → (Credited (published practice) n s mode r v).percent ≤ (Credited (published practice) n s mode q v).percent

-- Sizing, and then crediting the volume it gave, gives back the same.
abbrev pub SizingAgrees : Type 0
SizingAgrees =
    (sheet : Sheet) (n : Nutrient) (s : Site) (mode : Mode) (r target : ℕ)
    → (Sized sheet n s mode r target).answer ≡ granted
    → Credited sheet n s mode r (Sized sheet n s mode r target).volume ≡ Sized sheet n s mode r target

-- What stands in the record past its count changes no answer.
abbrev pub PastCountUnread : Type 0
PastCountUnread =
    (sheet : Sheet) (wanted : Wanted) (n : Nutrient) (s t : Site) (mode : Mode) (r : ℕ)
    → Alike s t
    → answer_of sheet wanted n s mode r ≡ answer_of sheet wanted n t mode r

-- Two records that are judged fine and hold the same sub-areas have the same credit and the same size, whatever their numbers.
abbrev pub BySubAreasAlone : Type 0
BySubAreasAlone =
    (sheet : Sheet) (wanted : Wanted) (n : Nutrient) (s t : Site) (mode : Mode) (r : ℕ)
    → SameSubAreas s t
    → answer_of sheet wanted n s mode r ≡ answer_of sheet wanted n t mode r
