-- Rules, "Curve sheets": the curve of a rate, the two modes, and the percent, rounded down once at the end.
-- A sheet is its depths ds, its rates rs, and its percents ps, rate by rate.
-- Assumes nothing.
use Rattle.std.specs.Prelude.{ℕ, ◌+◌, ◌-◌, ◌*◌, ◌/◌, min, cond, List, leb, ltb, length, get_or}
use Rattle.laws.specs.First.{first}
use Rattle.laws.specs.Line.{line}
use Rattle.units.specs.Limits.{grid_depths}
use Rattle.sheet.specs.Sheet.{previous}
use Rattle.curve.specs.declared.Mode.{Mode}
use Rattle.curve.specs.declared.Mode.TheVariants.{Step, Mix}
use Rattle.curve.specs.declared.Fraction.{Fraction}
use Rattle.curve.specs.declared.Curves.{Curves}
use Rattle.curve.specs.declared.Curves.TheVariants.{One, Two}

-- the depth at which a curve is read: beyond the last depth it stays at its last percent
abbrev pub held : List ℕ → ℕ → ℕ
held ds d = min d (get_or ds (length ds - 1) 0)

-- the segment of a depth: the place of the first sheet depth that is not below it
abbrev pub segment : List ℕ → ℕ → ℕ
segment ds x = first (λ k. ltb (get_or ds k 0) x) (length ds)

-- how wide segment k is: from the sheet depth before it, 0 before the first, to its own
abbrev pub width : List ℕ → ℕ → ℕ
width ds k = get_or ds k 0 - previous ds (length ds) k

-- the curve of the j-th rate at depth x of segment k, times the segment's width: straight from (0, 0) to the first depth, and
-- straight between depths
unfoldable pub height : List ℕ → List ℕ → ℕ → ℕ → ℕ → ℕ
height ds ps j k x =
    line (previous ds (length ds) k) (previous ps (length ds) (j * length ds + k)) (get_or ds k 0) (get_or ps (j * length ds + k) 0) x

-- the place of the fastest sheet rate not above the site rate
unfoldable pub fastest : List ℕ → ℕ → ℕ
fastest rs r = first (λ k. leb (get_or rs k 0) r) (length rs) - 1

-- mode step takes the curve of the fastest sheet rate not above the site rate; mode mix runs a straight line between the curves of
-- the two neighbouring rates, and at or above the last rate takes the last curve
unfoldable pub curves_of : List ℕ → Mode → ℕ → Curves
curves_of rs Step r = One (fastest rs r)
curves_of rs Mix r =
    cond (ltb (fastest rs r + 1) (length rs))
    (Two (fastest rs r) (record { 0 = get_or rs (fastest rs r) 0 }) (record { 0 = get_or rs (fastest rs r + 1) 0 }) (record { 0 = r }))
    (One (fastest rs r))

-- the exact percent at depth x of segment k, before it is rounded
unfoldable pub exact_in : List ℕ → List ℕ → Curves → ℕ → ℕ → Fraction
exact_in ds ps (One j) k x = record { over = height ds ps j k x; under = width ds k }
exact_in ds ps (Two j slow fast r) k x =
    record { over = line slow.0 (height ds ps j k x) fast.0 (height ds ps (j + 1) k x) r.0; under = width ds k * (fast.0 - slow.0) }

abbrev pub exact_at : List ℕ → List ℕ → Curves → ℕ → Fraction
exact_at ds ps c d = exact_in ds ps c (segment ds (held ds d)) (held ds d)

abbrev pub exact_of : List ℕ → List ℕ → List ℕ → Mode → ℕ → ℕ → Fraction
exact_of ds rs ps mode r d = exact_at ds ps (curves_of rs mode r) d

-- the fraction is rounded down once
abbrev pub rounded_down : Fraction → ℕ
rounded_down f = f.over / f.under

abbrev pub percent_at : List ℕ → List ℕ → Curves → ℕ → ℕ
percent_at ds ps c d = rounded_down (exact_at ds ps c d)

-- the percent of a sheet at a site rate and a depth
abbrev pub percent_of : List ℕ → List ℕ → List ℕ → Mode → ℕ → ℕ → ℕ
percent_of ds rs ps mode r d = percent_at ds ps (curves_of rs mode r) d

-- for sizing, the least grid depth whose percent is at least the target, 201 where there is none
abbrev pub depth_reaching : (ℕ → ℕ) → ℕ → ℕ
depth_reaching percent target = first (λ d. ltb (percent d) target) grid_depths
