-- Rules, "Site and load" and "Numbers of sub-areas": what is promised of a site record, as statements that proofs/Promises.antt and
-- proofs/Alike.antt, Removals.antt and Runs.antt prove.
-- Assumes nothing.
use Rattle.std.specs.Prelude.{ℕ, ◌+◌, ◌≤◌, ◌<◌, ◌≡◌, Bool, true, false, ◌&&◌, List, [], ◌∷◌, ◌++◌, ◌↔◌, ◌⊎◌, length, get_or, replicate, Err}
use Rattle.refusal.specs.declared.Refusal.TheVariants.{UnfitSubArea, TotalAreaPassed, SiteFull, NumberNotHeld, NumbersSpent}
use Rattle.refusal.specs.Refusal.{number_of, granted}
use Rattle.units.specs.Limits.{most_area}
use Rattle.site.specs.declared.SubArea.{SubArea}
use Rattle.site.specs.declared.Site.{Site}
use Rattle.site.specs.Parts.{most_parts, parts_of, numbers_of, area_of, total_area, blank, empty_site}
use Rattle.site.specs.Judging.{fits, judged_from, after_judging, numbered, judged, impervious, given}
use Rattle.site.specs.Adding.{spent_at, add_answer, added_to, added, given_back}
use Rattle.site.specs.Removing.{removed, handed_back}
use Rattle.site.specs.Runs.{Step, ran, answers, added_area, taken_area, numbers_given, up_from, built_from}

-- each of the sub-areas fits
unfoldable pub all_fit : List SubArea → Bool
all_fit [] = true
all_fit (p ∷ ps) = fits p && all_fit ps

-- What is asked of numbers and their counter: the counter is not 0, and the numbers are at least 1, rise strictly and stay below it.
pub record Rise (counter : ℕ) (ks : List ℕ) : Type 0 where
  pub started : 0 < counter
  pub positive : (i : ℕ) → i < length ks → 0 < get_or ks i 0
  pub strictly : (i j : ℕ) → i < j → j < length ks → get_or ks i 0 < get_or ks j 0
  pub below : (i : ℕ) → i < length ks → get_or ks i 0 < counter

-- That is what the test of 16 asks.
abbrev pub NumberedExactly : Type 0
NumberedExactly = (s : Site) → (numbered s ≡ true) ↔ Rise s.counter (numbers_of s)

-- A record is judged fine exactly when its count is at most 32, each sub-area fits, the total area is at most 1,000,000 and the
-- numbers are as asked; what is granted is the total area.
abbrev pub FineExactly : Type 0
FineExactly =
    (s : Site) (a : ℕ)
    → (given (judged s) ≡ (granted, a))
    ↔ ((s.count ≤ most_parts) × (all_fit (parts_of s) ≡ true) × (total_area (parts_of s) ≡ a) × (a ≤ most_area) × (numbered s ≡ true))

-- A record is refused 14 exactly when its count is above 32.
abbrev pub FullExactly : Type 0
FullExactly = (s : Site) → ((given (judged s)).0 ≡ number_of SiteFull) ↔ (most_parts < s.count)

-- It is refused 16 exactly when its numbers are not as asked and nothing else is refused: 14, 2 and 3 come first.
abbrev pub UnnumberedExactly : Type 0
UnnumberedExactly =
    (s : Site)
    → ((given (judged s)).0 ≡ number_of NumberNotHeld)
    ↔ ((s.count ≤ most_parts) × (all_fit (parts_of s) ≡ true) × (total_area (parts_of s) ≤ most_area) × (numbered s ≡ false))

-- Where sub-areas are refused by a number: those before the one that is refused all fit and keep the total within 1,000,000; it
-- does not fit and the number is 2, or it fits, the total with it passes 1,000,000 and the number is 3.
pub record RefusedAt (parts : List SubArea) (number : ℕ) : Type 0 where
  pub before : List SubArea
  pub refused : SubArea
  pub after : List SubArea
  pub split : parts ≡ before ++ (refused ∷ after)
  pub fit : all_fit before ≡ true
  pub within : total_area before ≤ most_area
  pub reason : ((fits refused ≡ false) × (number ≡ number_of UnfitSubArea))
      ⊎ ((fits refused ≡ true) × (most_area < total_area before + area_of refused) × (number ≡ number_of TotalAreaPassed))

-- Else, where a record is refused, it is refused at the first sub-area that does not fit or that passes the total, 2 before 3 at one.
abbrev pub FirstRefused : Type 0
FirstRefused =
    (s : Site)
    → s.count ≤ most_parts
    → ((given (judged s)).0 ≡ granted → ⊥)
    → ((given (judged s)).0 ≡ number_of NumberNotHeld → ⊥)
    → RefusedAt (parts_of s) (given (judged s)).0

-- One sub-area more is tried by itself, on the total area of those before it, and the others behind it on the new total.
abbrev pub TriedInTurn : Type 0
TriedInTurn =
    (total : ℕ) (p : SubArea) (ps : List SubArea)
    → judged_from total (p ∷ ps) ≡ after_judging Err (λ more. judged_from more ps) (judged_from total (p ∷ []))

-- every record in memory has its 32 places, and as many for numbers
pub record InMemory (s : Site) : Type 0 where
  pub parts : length s.parts ≡ most_parts
  pub numbers : length s.numbers ≡ most_parts

-- two records that agree up to the count, sub-areas and numbers, and in the counter
pub record Alike (s t : Site) : Type 0 where
  pub count : s.count ≡ t.count
  pub parts : parts_of s ≡ parts_of t
  pub numbers : numbers_of s ≡ numbers_of t
  pub counter : s.counter ≡ t.counter

-- What stands in the record past its count changes no answer, and the sites that adds and removals hand back agree so again.
abbrev pub PastCountUnread : Type 0
PastCountUnread =
    (s t : Site)
    → Alike s t
    → (judged s ≡ judged t)
    × (impervious s ≡ impervious t)
    × ((p : SubArea) → ((added s p).answer ≡ (added t p).answer) × ((added s p).number ≡ (added t p).number))
    × ((p : SubArea) → InMemory s → InMemory t → Alike (added s p).site (added t p).site)
    × ((n : ℕ) → (removed s n).answer ≡ (removed t n).answer)
    × ((n : ℕ) → InMemory s → InMemory t → Alike (removed s n).site (removed t n).site)

-- two records that are judged fine and hold the same sub-areas, whatever their numbers
pub record SameSubAreas (s t : Site) : Type 0 where
  pub first : (given (judged s)).0 ≡ granted
  pub second : (given (judged t)).0 ≡ granted
  pub parts : parts_of s ≡ parts_of t

-- They have the same total area and the same impervious area.
abbrev pub BySubAreasAlone : Type 0
BySubAreasAlone = (s t : Site) → SameSubAreas s t → (judged s ≡ judged t) × (impervious s ≡ impervious t)

-- An add to a record that is judged fine is granted exactly where the sub-area fits, the count is below 32, the counter is below
-- 1,000,000 and the new total is at most 1,000,000; what is granted is the new total.
abbrev pub AddGrantedExactly : Type 0
AddGrantedExactly =
    (s : Site) (p : SubArea) (total a : ℕ)
    → given (judged s) ≡ (granted, total)
    → ((given_back (added s p)).0 ≡ (granted, a))
    ↔ ((fits p ≡ true) × (s.count < most_parts) × (s.counter < spent_at) × (total + area_of p ≡ a) × (a ≤ most_area))

-- Adding tries 2, 14, 17, 3: the numbers and zeros given back by an add to a record that is judged fine.
pub record AddTries (s : Site) (total : ℕ) (p : SubArea) (answer : ℕ × ℕ) : Type 0 where
  pub unfit : fits p ≡ false → answer ≡ (number_of UnfitSubArea, 0)
  pub full : fits p ≡ true → s.count ≡ most_parts → answer ≡ (number_of SiteFull, 0)
  pub spent : fits p ≡ true → s.count < most_parts → spent_at ≤ s.counter → answer ≡ (number_of NumbersSpent, 0)
  pub passed : fits p ≡ true → s.count < most_parts → s.counter < spent_at → most_area < total + area_of p
      → answer ≡ (number_of TotalAreaPassed, 0)

-- To a record that is judged fine an add tries 2, 14, 17, 3; a record that is refused gives its own number.
abbrev pub AddRefused : Type 0
AddRefused =
    (s : Site) (p : SubArea)
    → ((total : ℕ) → given (judged s) ≡ (granted, total) → AddTries s total p (given_back (added s p)).0)
    × (((given (judged s)).0 ≡ granted → ⊥) → (given_back (added s p)).0 ≡ ((given (judged s)).0, 0))

-- A refused add hands back the site as it was, past the count too, and gives no number.
abbrev pub RefusedKeeps : Type 0
RefusedKeeps =
    (s : Site) (p : SubArea)
    → ((given_back (added s p)).0.0 ≡ granted → ⊥)
    → ((given_back (added s p)).1 ≡ s) × ((given_back (added s p)).2 ≡ 0)

-- A granted add puts the sub-area after the others, and hands back a record that is judged fine with the total area it answers. The
-- number it gives is the old counter, which stands after the other numbers, and the counter rises by one.
abbrev pub GrantedHolds : Type 0
GrantedHolds =
    (s : Site) (p : SubArea) (a : ℕ)
    → InMemory s
    → (given_back (added s p)).0 ≡ (granted, a)
    → (parts_of (given_back (added s p)).1 ≡ parts_of s ++ (p ∷ []))
    × (given (judged (given_back (added s p)).1) ≡ (granted, a))
    × ((given_back (added s p)).2 ≡ s.counter)
    × (numbers_of (given_back (added s p)).1 ≡ numbers_of s ++ (s.counter ∷ []))
    × ((given_back (added s p)).1.counter ≡ s.counter + 1)

-- An add writes only the place at the count: each other place of the record that a granted add hands back holds what it held,
-- sub-area and number, and the count is one more.
abbrev pub OnlyThePlaceAtTheCount : Type 0
OnlyThePlaceAtTheCount =
    (s : Site) (p : SubArea)
    → (given_back (added s p)).0.0 ≡ granted
    → ((given_back (added s p)).1.count ≡ s.count + 1)
    × ((k : ℕ)
    → (k ≡ s.count → ⊥)
    → (get_or (given_back (added s p)).1.parts k blank ≡ get_or s.parts k blank)
    × (get_or (given_back (added s p)).1.numbers k 0 ≡ get_or s.numbers k 0))

-- Where a record is judged fine, the add that is told its total area gives what the public add gives, and the answer that is worked
-- out from the count, the counter and that total alone is the public add's.
abbrev pub AddsAgree : Type 0
AddsAgree =
    (s : Site) (p : SubArea) (total : ℕ)
    → given (judged s) ≡ (granted, total)
    → (added_to s total p ≡ added s p) × (add_answer s.count s.counter total p ≡ (added s p).answer)

-- An empty site is judged fine.
abbrev pub EmptyFine : Type 0
EmptyFine = given (judged empty_site) ≡ (granted, 0)

-- A refused removal hands back the site as it was, past the count too.
abbrev pub RemovalKeeps : Type 0
RemovalKeeps = (s : Site) (n : ℕ) → ((handed_back (removed s n)).0.0 ≡ granted → ⊥) → (handed_back (removed s n)).1 ≡ s

-- A site t is the site s without the sub-area of a number: the others stand in their order with their numbers, the count is one less,
-- the counter is the same, and each place from the new count on holds what it held, sub-area and number.
pub record LeftWithout (s : Site) (n : ℕ) (t : Site) : Type 0 where
  pub before : List SubArea
  pub taken : SubArea
  pub after : List SubArea
  pub parts : parts_of s ≡ before ++ (taken ∷ after)
  pub left : parts_of t ≡ before ++ after
  pub lower : List ℕ
  pub higher : List ℕ
  pub numbers : numbers_of s ≡ lower ++ (n ∷ higher)
  pub others : numbers_of t ≡ lower ++ higher
  pub abreast : length lower ≡ length before
  pub count : t.count + 1 ≡ s.count
  pub counter : t.counter ≡ s.counter
  pub past : (k : ℕ) → t.count ≤ k → (get_or t.parts k blank ≡ get_or s.parts k blank) × (get_or t.numbers k 0 ≡ get_or s.numbers k 0)

-- A granted removal takes the sub-area of the number out, and hands back a record that is judged fine with the total area it answers.
abbrev pub RemovalHolds : Type 0
RemovalHolds =
    (s : Site) (n a : ℕ)
    → InMemory s
    → (handed_back (removed s n)).0 ≡ (granted, a)
    → LeftWithout s n (handed_back (removed s n)).1 × (given (judged (handed_back (removed s n)).1) ≡ (granted, a))

-- a number that a site holds
abbrev pub HoldsNumber : Site → ℕ → Type 0
HoldsNumber s n = (i : ℕ) × (i < length (numbers_of s)) × (get_or (numbers_of s) i 0 ≡ n)

-- A removal from a record that is judged fine is granted exactly where the number is held.
abbrev pub RemovedOnlyHeld : Type 0
RemovedOnlyHeld =
    (s : Site) (n : ℕ)
    → (given (judged s)).0 ≡ granted
    → ((handed_back (removed s n)).0.0 ≡ granted) ↔ HoldsNumber s n

-- Else it is refused 16; a record that is refused gives its own number.
abbrev pub RemovalRefused : Type 0
RemovalRefused =
    (s : Site) (n : ℕ)
    → ((given (judged s)).0 ≡ granted → (HoldsNumber s n → ⊥) → (handed_back (removed s n)).0 ≡ (number_of NumberNotHeld, 0))
    × (((given (judged s)).0 ≡ granted → ⊥) → (handed_back (removed s n)).0 ≡ ((given (judged s)).0, 0))

-- a record from which runs start: an empty site, or any other that is in memory and judged fine
pub record Startable (s : Site) : Type 0 where
  pub memory : InMemory s
  pub fine : (given (judged s)).0 ≡ granted

-- After any run of adds and removals from such a record it is judged fine, and its total area with what the granted removals took is
-- what it was with what the granted adds added: from an empty site, what they added.
abbrev pub RunTotal : Type 0
RunTotal =
    Startable empty_site
    × (total_area (parts_of empty_site) ≡ 0)
    × ((s : Site) (steps : List Step)
    → Startable s
    → (given (judged (ran s steps)) ≡ (granted, total_area (parts_of (ran s steps))))
    × (total_area (parts_of (ran s steps)) + taken_area s steps ≡ total_area (parts_of s) + added_area s steps))

-- The numbers given in a run are those from the counter on, as many as there were granted adds, and the counter is behind them: none is
-- given twice. From an empty site they are 1, 2, 3 and so on.
abbrev pub RunNumbers : Type 0
RunNumbers =
    (empty_site.counter ≡ 1)
    × ((s : Site) (steps : List Step)
    → (numbers_given s steps ≡ up_from s.counter (length (numbers_given s steps)))
    × ((ran s steps).counter ≡ s.counter + length (numbers_given s steps)))

-- A site built afresh from what a run from such a record left: each of these adds is granted, and it holds the same sub-areas in the
-- same order.
abbrev pub BuiltAfresh : Type 0
BuiltAfresh =
    (s : Site) (steps : List Step)
    → Startable s
    → (answers empty_site (built_from (parts_of (ran s steps))) ≡ replicate (length (parts_of (ran s steps))) granted)
    × (parts_of (ran empty_site (built_from (parts_of (ran s steps)))) ≡ parts_of (ran s steps))
