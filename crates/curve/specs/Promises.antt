-- Rules, "Curve sheets" and "How a percent was found": what is promised of the percents of every accepted sheet and of their bases, in
-- both modes, at every site rate that is granted and at every depth; and what is given back where the sheet or the rate is refused.
-- Assumes nothing.
use Rattle.std.specs.Prelude.{ℕ, ◌+◌, ◌-◌, ◌*◌, ◌/◌, ◌≤◌, ◌<◌, List, ◌↔◌, ◌≡◌, length, get_or}
use Rattle.laws.specs.Line.{line}
use Rattle.refusal.specs.declared.Refusal.TheVariants.{UnfitSheet, RateOutOfRange, RateBelowSheet, AmountOutOfRange, TargetUnreachable}
use Rattle.refusal.specs.Refusal.{number_of, granted}
use Rattle.units.specs.Limits.{most_percent, highest_depth}
use Rattle.sheet.specs.Rules.{Rules}
use Rattle.sheet.specs.Promises.{UnfitAt}
use Rattle.curve.specs.declared.Mode.{Mode}
use Rattle.curve.specs.declared.Mode.TheVariants.{Step, Mix}
use Rattle.curve.specs.declared.Fraction.{Fraction}
use Rattle.curve.specs.declared.Basis.{Basis}
use Rattle.curve.specs.declared.Basis.TheVariants.{None, Printed, Between, Start, Held}
use Rattle.curve.specs.Curve.{fastest, exact_of, percent_of, depth_reaching}
use Rattle.curve.specs.Basis.{basis_of, basis_number}
use Rattle.curve.specs.Answers.{fastest_taken, percent_answer, reach_of, given, reach_given}

-- a sheet and a site rate that are given neither 5, 6 nor 7: the sheet keeps its rules, and the rate is within 10,000 (0 on a sheet without
-- rates) and not below the slowest
pub record Usable (ds rs ps : List ℕ) (r : ℕ) : Type 0 where
  pub rules : Rules ds rs ps
  pub taken : r ≤ fastest_taken rs
  pub slowest : get_or rs 0 0 ≤ r

-- The exact percent is the fraction over / under, and the percent is it rounded down, once.
pub record Exactly (ds rs ps : List ℕ) (mode : Mode) (r d over under : ℕ) : Type 0 where
  pub divides : 0 < under
  pub exact_divides : 0 < (exact_of ds rs ps mode r d).under
  pub exact : (exact_of ds rs ps mode r d).over * under ≡ over * (exact_of ds rs ps mode r d).under
  pub once : percent_of ds rs ps mode r d ≡ over / under

-- Mode step goes by the fastest sheet rate not above the site rate: it is a rate of the sheet, not above, and the next one is above.
pub record IsFastest (rs : List ℕ) (r j : ℕ) : Type 0 where
  pub of_sheet : j < length rs
  pub not_above : get_or rs j 0 ≤ r
  pub next_above : j + 1 < length rs → r < get_or rs (j + 1) 0

abbrev pub GoesByTheFastest : Type 0
GoesByTheFastest = (ds rs ps : List ℕ) (r : ℕ) → Usable ds rs ps r → IsFastest rs r (fastest rs r)

-- the percent that is printed for that rate at the k-th depth
abbrev pub printed_at : List ℕ → List ℕ → List ℕ → ℕ → ℕ → ℕ
printed_at ds rs ps r k = get_or ps (fastest rs r * length ds + k) 0

-- Its curve has the printed percent at a printed depth,
abbrev pub PrintedAtDepths : Type 0
PrintedAtDepths =
    (ds rs ps : List ℕ) (r k : ℕ) → Usable ds rs ps r → k < length ds → Exactly ds rs ps Step r (get_or ds k 0) (printed_at ds rs ps r k) 1

-- runs straight from (0, 0) to the first depth,
abbrev pub ThroughOrigin : Type 0
ThroughOrigin =
    (ds rs ps : List ℕ) (r d : ℕ) → Usable ds rs ps r → d ≤ get_or ds 0 0
    → Exactly ds rs ps Step r d (line 0 0 (get_or ds 0 0) (printed_at ds rs ps r 0) d) (get_or ds 0 0)

-- straight between depths,
abbrev pub StraightBetweenDepths : Type 0
StraightBetweenDepths =
    (ds rs ps : List ℕ) (r k d : ℕ) → Usable ds rs ps r → k + 1 < length ds → get_or ds k 0 ≤ d → d ≤ get_or ds (k + 1) 0
    → Exactly ds rs ps Step r d (line (get_or ds k 0) (printed_at ds rs ps r k) (get_or ds (k + 1) 0) (printed_at ds rs ps r (k + 1)) d)
    (get_or ds (k + 1) 0 - get_or ds k 0)

-- and stays at its last percent beyond.
abbrev pub StaysAtLast : Type 0
StaysAtLast =
    (ds rs ps : List ℕ) (r d : ℕ) → Usable ds rs ps r → get_or ds (length ds - 1) 0 ≤ d
    → Exactly ds rs ps Step r d (printed_at ds rs ps r (length ds - 1)) 1

-- the straight line from f at the slow rate to g at the fast one, read at the site rate
abbrev pub line_between : ℕ → Fraction → ℕ → Fraction → ℕ → Fraction
line_between slow f fast g r =
    record { over = line slow (f.over * g.under) fast (g.over * f.under) r; under = (fast - slow) * (f.under * g.under) }

-- the line between the exact percents of the j-th rate and the next at that depth
abbrev pub mixture : List ℕ → List ℕ → List ℕ → ℕ → ℕ → ℕ → Fraction
mixture ds rs ps j r d =
    line_between (get_or rs j 0) (exact_of ds rs ps Step (get_or rs j 0) d) (get_or rs (j + 1) 0) (exact_of ds rs ps Step (get_or rs (j + 1) 0) d) r

-- Below the last rate mode mix runs that line between the two neighbouring rates;
abbrev pub MixesNeighbours : Type 0
MixesNeighbours =
    (ds rs ps : List ℕ) (r d : ℕ) → Usable ds rs ps r → r < get_or rs (length rs - 1) 0
    → Exactly ds rs ps Mix r d (mixture ds rs ps (fastest rs r) r d).over (mixture ds rs ps (fastest rs r) r d).under

-- at or above the last rate it takes the last curve.
abbrev pub LastCurveAlone : Type 0
LastCurveAlone =
    (ds rs ps : List ℕ) (r d : ℕ) → Usable ds rs ps r → get_or rs (length rs - 1) 0 ≤ r
    → exact_of ds rs ps Mix r d ≡ exact_of ds rs ps Step (get_or rs (length rs - 1) 0) d

-- So at a printed rate and a printed depth the printed percent comes back, in both modes.
abbrev pub PrintedComesBack : Type 0
PrintedComesBack =
    (ds rs ps : List ℕ) (mode : Mode) (j k : ℕ) → Rules ds rs ps → j < length rs → k < length ds
    → percent_of ds rs ps mode (get_or rs j 0) (get_or ds k 0) ≡ get_or ps (j * length ds + k) 0

-- The percent never falls with depth.
abbrev pub NeverFallsWithDepth : Type 0
NeverFallsWithDepth =
    (ds rs ps : List ℕ) (mode : Mode) (r d e : ℕ) → Usable ds rs ps r → d ≤ e → percent_of ds rs ps mode r d ≤ percent_of ds rs ps mode r e

-- It is at most 100 percent.
abbrev pub AtMostAll : Type 0
AtMostAll = (ds rs ps : List ℕ) (mode : Mode) (r d : ℕ) → Usable ds rs ps r → percent_of ds rs ps mode r d ≤ most_percent

-- no percent of the sheet falls as its rate rises
abbrev pub FasterIsNoLess : List ℕ → List ℕ → List ℕ → Type 0
FasterIsNoLess ds rs ps =
    (j k : ℕ) → j + 1 < length rs → k < length ds → get_or ps (j * length ds + k) 0 ≤ get_or ps ((j + 1) * length ds + k) 0

-- Where that is so, the percent never falls with the site rate.
abbrev pub NeverFallsWithRate : Type 0
NeverFallsWithRate =
    (ds rs ps : List ℕ) → FasterIsNoLess ds rs ps → (mode : Mode) (r q d : ℕ) → Usable ds rs ps r → Usable ds rs ps q → r ≤ q
    → percent_of ds rs ps mode r d ≤ percent_of ds rs ps mode q d

-- what the rules say of a target's depth: it is a grid depth whose percent is at least the target, and no lower depth has such a percent
pub record IsLeast (percent : ℕ → ℕ) (target d : ℕ) : Type 0 where
  pub on_grid : d ≤ highest_depth
  pub reaches : target ≤ percent d
  pub least : (e : ℕ) → target ≤ percent e → d ≤ e

-- Where the target is not above the percent at depth 200, the depth that is found is the least.
abbrev pub FindsTheLeast : Type 0
FindsTheLeast =
    (ds rs ps : List ℕ) (mode : Mode) (r target : ℕ) → Usable ds rs ps r → target ≤ percent_of ds rs ps mode r highest_depth
    → IsLeast (percent_of ds rs ps mode r) target (depth_reaching (percent_of ds rs ps mode r) target)

-- The basis says start exactly below the first depth,
abbrev pub StartExactly : Type 0
StartExactly =
    (ds rs ps : List ℕ) (mode : Mode) (r d : ℕ) → Usable ds rs ps r → (basis_of ds rs mode r d ≡ Start) ↔ (d < get_or ds 0 0)

-- and held exactly beyond the last.
abbrev pub HeldExactly : Type 0
HeldExactly =
    (ds rs ps : List ℕ) (mode : Mode) (r d : ℕ) → Usable ds rs ps r → (basis_of ds rs mode r d ≡ Held) ↔ (get_or ds (length ds - 1) 0 < d)

-- a depth of the sheet
pub record OfSheet (ds : List ℕ) (d : ℕ) : Type 0 where
  pub place : ℕ
  pub within : place < length ds
  pub there : d ≡ get_or ds place 0

-- mixing means a site rate strictly between two neighbouring rates of the sheet in mode mix
pub record Mixing (rs : List ℕ) (mode : Mode) (r : ℕ) : Type 0 where
  pub mix : mode ≡ Mix
  pub place : ℕ
  pub within : place + 1 < length rs
  pub above : get_or rs place 0 < r
  pub below : r < get_or rs (place + 1) 0

-- the depth is one of the sheet's, and no mixing takes place
abbrev pub AsPrinted : List ℕ → List ℕ → Mode → ℕ → ℕ → Type 0
AsPrinted ds rs mode r d = OfSheet ds d × (Mixing rs mode r → ⊥)

-- It says printed exactly where that is so,
abbrev pub PrintedExactly : Type 0
PrintedExactly =
    (ds rs ps : List ℕ) (mode : Mode) (r d : ℕ) → Usable ds rs ps r → (basis_of ds rs mode r d ≡ Printed) ↔ AsPrinted ds rs mode r d

-- and between exactly at all else from the first depth to the last.
abbrev pub BetweenExactly : Type 0
BetweenExactly =
    (ds rs ps : List ℕ) (mode : Mode) (r d : ℕ) → Usable ds rs ps r
    → (basis_of ds rs mode r d ≡ Between) ↔ ((get_or ds 0 0 ≤ d) × (d ≤ get_or ds (length ds - 1) 0) × (AsPrinted ds rs mode r d → ⊥))

-- Where it says printed, the percent is the sheet's own number at that depth, in the row of the fastest rate not above the site rate.
abbrev pub PrintedStandsInTheSheet : Type 0
PrintedStandsInTheSheet =
    (ds rs ps : List ℕ) (mode : Mode) (r d : ℕ) → Usable ds rs ps r → basis_of ds rs mode r d ≡ Printed
    → (here : OfSheet ds d) × (percent_of ds rs ps mode r d ≡ printed_at ds rs ps r here.place)

-- Where it says held, the percent is the one at the last depth.
abbrev pub HeldIsTheLast : Type 0
HeldIsTheLast =
    (ds rs ps : List ℕ) (mode : Mode) (r d : ℕ) → Usable ds rs ps r → basis_of ds rs mode r d ≡ Held
    → percent_of ds rs ps mode r d ≡ percent_of ds rs ps mode r (get_or ds (length ds - 1) 0)

-- What is given back for a usable sheet and rate: the percent at a depth of the grid, with its basis, and 9 above it;
pub record PercentGiven (ds rs ps : List ℕ) (mode : Mode) (r d : ℕ) : Type 0 where
  pub on_grid : d ≤ highest_depth
      → given (percent_answer ds rs ps mode r d) ≡ (granted, percent_of ds rs ps mode r d, basis_number (basis_of ds rs mode r d), 0, 0)
  pub too_deep : highest_depth < d → given (percent_answer ds rs ps mode r d) ≡ (number_of AmountOutOfRange, 0, 0, 0, 0)

abbrev pub PercentsGiven : Type 0
PercentsGiven = (ds rs ps : List ℕ) (mode : Mode) (r d : ℕ) → Usable ds rs ps r → PercentGiven ds rs ps mode r d

-- nothing else is granted a percent;
abbrev pub PercentGrantedExactly : Type 0
PercentGrantedExactly =
    (ds rs ps : List ℕ) (mode : Mode) (r d : ℕ) → ((given (percent_answer ds rs ps mode r d)).0 ≡ granted) ↔ (Usable ds rs ps r × (d ≤ highest_depth))

-- the numbers of a target are those of its least depth, with its percent and the basis of that
pub record LeastGiven (percent : ℕ → ℕ) (basis : ℕ → Basis) (target : ℕ) (numbers : ℕ × ℕ × ℕ × ℕ × ℕ × ℕ) : Type 0 where
  pub depth : ℕ
  pub is_least : IsLeast percent target depth
  pub are : numbers ≡ (granted, depth, percent depth, basis_number (basis depth), 0, 0)

-- for a target the least depth with its percent and basis; 9 above 100 percent, else 10 above the percent at depth 200;
pub record DepthGiven (ds rs ps : List ℕ) (mode : Mode) (r target : ℕ) : Type 0 where
  pub found : target ≤ percent_of ds rs ps mode r highest_depth
      → LeastGiven (percent_of ds rs ps mode r) (basis_of ds rs mode r) target (reach_given (reach_of ds rs ps mode r target))
  pub too_high : most_percent < target → reach_given (reach_of ds rs ps mode r target) ≡ (number_of AmountOutOfRange, 0, 0, 0, 0, 0)
  pub short : target ≤ most_percent → percent_of ds rs ps mode r highest_depth < target
      → reach_given (reach_of ds rs ps mode r target) ≡ (number_of TargetUnreachable, 0, 0, 0, 0, 0)

abbrev pub DepthsGiven : Type 0
DepthsGiven = (ds rs ps : List ℕ) (mode : Mode) (r target : ℕ) → Usable ds rs ps r → DepthGiven ds rs ps mode r target

-- and nothing else is granted a depth.
abbrev pub ReachGrantedExactly : Type 0
ReachGrantedExactly =
    (ds rs ps : List ℕ) (mode : Mode) (r target : ℕ)
    → ((reach_given (reach_of ds rs ps mode r target)).0 ≡ granted) ↔ (Usable ds rs ps r × (target ≤ percent_of ds rs ps mode r highest_depth))

-- Every percent has a basis, and the number of the basis that is given back with one is not that of none.
pub record SaysHow (ds rs ps : List ℕ) (mode : Mode) (r : ℕ) : Type 0 where
  pub any : (d : ℕ) → basis_of ds rs mode r d ≡ None → ⊥
  pub percent : (d : ℕ) → (given (percent_answer ds rs ps mode r d)).0 ≡ granted → (given (percent_answer ds rs ps mode r d)).2 ≡ basis_number None → ⊥
  pub reach : (target : ℕ) → (reach_given (reach_of ds rs ps mode r target)).0 ≡ granted
      → (reach_given (reach_of ds rs ps mode r target)).3 ≡ basis_number None → ⊥

abbrev pub NeverNone : Type 0
NeverNone = (ds rs ps : List ℕ) (mode : Mode) (r : ℕ) → SaysHow ds rs ps mode r

-- the call for a percent at any depth and the call for any target give back this number, list and place, and zeros, of which that of the basis is none's
pub record BothGive (ds rs ps : List ℕ) (mode : Mode) (r number list place : ℕ) : Type 0 where
  pub percent : (d : ℕ) → given (percent_answer ds rs ps mode r d) ≡ (number, 0, 0, list, place)
  pub reach : (target : ℕ) → reach_given (reach_of ds rs ps mode r target) ≡ (number, 0, 0, 0, list, place)

-- What is not usable: 5 first, for a sheet that breaks its rules, with its list and place; else 6 for a rate above what the sheet takes;
-- else 7 for a rate below the slowest; whatever the depth or the target.
pub record SheetRefused (ds rs ps : List ℕ) (mode : Mode) (r : ℕ) : Type 0 where
  pub unfit : (list place : ℕ) → UnfitAt ds rs ps list place → BothGive ds rs ps mode r (number_of UnfitSheet) list place
  pub too_fast : Rules ds rs ps → fastest_taken rs < r → BothGive ds rs ps mode r (number_of RateOutOfRange) 0 0
  pub too_slow : Rules ds rs ps → r ≤ fastest_taken rs → r < get_or rs 0 0 → BothGive ds rs ps mode r (number_of RateBelowSheet) 0 0

abbrev pub SheetRefusedInOrder : Type 0
SheetRefusedInOrder = (ds rs ps : List ℕ) (mode : Mode) (r : ℕ) → SheetRefused ds rs ps mode r
