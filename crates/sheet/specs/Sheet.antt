-- Rules, "Curve sheets": the rules of a sheet, and the verdict on one that is lent.
-- Assumes nothing.
use Rattle.std.specs.Prelude.{ℕ, ◌+◌, ◌-◌, ◌*◌, ◌%◌, Bool, cond, ◌&&◌, List, leb, ltb, eqb, length, get_or, Option, Some, None, Result, Ok, Err}
use Rattle.laws.specs.First.{first}
use Rattle.refusal.specs.declared.Refusal.TheVariants.{UnfitSheet}
use Rattle.refusal.specs.Refusal.{number_of, granted}
use Rattle.units.specs.Limits.{most_rate, most_percent, highest_depth}
use Rattle.sheet.specs.declared.Fault.{Fault}
use Rattle.sheet.specs.declared.Part.{Part}
use Rattle.sheet.specs.declared.Part.TheVariants.{Lengths, Depths, Rates, Percents}

abbrev pub most_depths : ℕ
most_depths = 16

abbrev pub most_rates : ℕ
most_rates = 8

-- the number before the one at place k in its row of n numbers, 0 at the start of a row
unfoldable pub previous : List ℕ → ℕ → ℕ → ℕ
previous xs n k = cond (eqb (k % n) 0) 0 (get_or xs (k - 1) 0)

-- a number x is at least `gap` above the one before it, and at most `most`
unfoldable pub in_step : ℕ → ℕ → ℕ → ℕ → Bool
in_step gap most low x = leb (low + gap) x && leb x most

-- the first place in rows of n whose number is not in step, or the length where all are
abbrev pub offending : List ℕ → ℕ → ℕ → ℕ → ℕ
offending xs n gap most = first (λ k. in_step gap most (previous xs n k) (get_or xs k 0)) (length xs)

-- 1 to 16 depths, 1 to 8 rates, and one percent for each rate at each depth
unfoldable pub lengths_fit : ℕ → ℕ → ℕ → Bool
lengths_fit depths rates percents =
    leb 1 depths && leb depths most_depths && leb 1 rates && leb rates most_rates && eqb percents (rates * depths)

-- a sheet without rates has the single rate 0
unfoldable pub without_rates : List ℕ → Bool
without_rates rs = eqb (length rs) 1 && eqb (get_or rs 0 0) 0

-- depths rise strictly from at least 1 to at most 200
abbrev pub offending_depth : List ℕ → ℕ
offending_depth ds = offending ds (length ds) 1 highest_depth

-- rates rise strictly from at least 1 to at most 10,000, or there is the single rate 0
unfoldable pub offending_rate : List ℕ → ℕ
offending_rate rs = cond (without_rates rs) (length rs) (offending rs (length rs) 1 most_rate)

-- percents are at most 100,000, and within one rate, a row of n, none is below the one before it
abbrev pub offending_percent : ℕ → List ℕ → ℕ
offending_percent n ps = offending ps n 0 most_percent

-- a place below a length is found, and one that is not is none
abbrev pub found : ℕ → ℕ → Option ℕ
found place count = cond (ltb place count) (Some place) None

-- a part that breaks a rule, with its first offending place
abbrev pub unfit : Part → ℕ → Result (Unit {0}) Fault
unfit part place = Err (record { part = part; place = place })

abbrev pub fine : Result (Unit {0}) Fault
fine = Ok tt

-- a list with an offending place below its length is unfit there; else the next one decides
abbrev pub list_judged : Part → ℕ → ℕ → Result (Unit {0}) Fault → Result (Unit {0}) Fault
list_judged part place count next = cond (ltb place count) (unfit part place) next

-- the lengths first, then depths, rates and percents in this order
unfoldable pub verdict_of : List ℕ → List ℕ → List ℕ → Result (Unit {0}) Fault
verdict_of ds rs ps =
    cond (lengths_fit (length ds) (length rs) (length ps))
    (list_judged Depths (offending_depth ds) (length ds)
    (list_judged Rates (offending_rate rs) (length rs)
    (list_judged Percents (offending_percent (length ds) ps) (length ps) fine)))
    (unfit Lengths 0)

-- the number of a part: 0 for wrong lengths, 1 depths, 2 rates, 3 percents
abbrev pub part_number : Part → ℕ
part_number Lengths = 0
part_number Depths = 1
part_number Rates = 2
part_number Percents = 3

-- the rules' number, the part's number and the place
abbrev pub given : Result (Unit {0}) Fault → ℕ × ℕ × ℕ
given (Ok _) = (granted, 0, 0)
given (Err fault) = (number_of UnfitSheet, part_number fault.part, fault.place)
