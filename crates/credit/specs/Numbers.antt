-- Rules, "Numbers to hold on to": the starred ones, all together as one list, each with all the numbers that its call gives back but
-- that of the basis; and how credits are found. Proved in proofs/Numbers.antt.
-- Assumes nothing.
use Rattle.std.specs.Prelude.{ℕ, List, [], ◌∷◌, ◌++◌, ◌≡◌, replicate}
use Rattle.units.specs.declared.Nutrient.TheVariants.{N}
use Rattle.units.specs.Limits.{largest}
use Rattle.site.specs.declared.Site.{Site}
use Rattle.site.specs.Parts.{blank}
use Rattle.volume.specs.Examples.{lot, yard}
use Rattle.volume.specs.Answers.{volume_answer, given as volume_given}
use Rattle.sheet.specs.Examples.{depths_t, rates_t, percents_t}
use Rattle.curve.specs.declared.Mode.{Mode}
use Rattle.curve.specs.declared.Mode.TheVariants.{Step, Mix}
use Rattle.curve.specs.declared.Basis.{Basis}
use Rattle.curve.specs.declared.Basis.TheVariants.{Printed, Between, Start, Held}
use Rattle.curve.specs.Examples.{on_t, target_on_t}
use Rattle.credit.specs.Answers.{Sheet, lent, Given}
use Rattle.credit.specs.Promises.{Credited, Sized}

-- sheet T, lent
abbrev pub sheet_t : Sheet
sheet_t = lent depths_t rates_t percents_t

abbrev pub lot_site : Site
lot_site = record { parts = lot ++ replicate 31 blank; count = 1; numbers = 1 ∷ replicate 31 0; counter = 2 }

abbrev pub yard_site : Site
yard_site = record { parts = yard ++ replicate 29 blank; count = 3; numbers = 1 ∷ 2 ∷ 3 ∷ replicate 29 0; counter = 4 }

-- of a percent on T: number, percent, list and place
abbrev pub percent_on_t : Mode → ℕ → ℕ → List ℕ
percent_on_t mode r d = let g = on_t mode r d in g.0 ∷ g.1 ∷ g.3 ∷ g.4 ∷ []

-- of a target on T, step, rate 50: number, depth, percent, list and place
abbrev pub depth_on_t : ℕ → List ℕ
depth_on_t target = let g = target_on_t target in g.0 ∷ g.1 ∷ g.2 ∷ g.4 ∷ g.5 ∷ []

-- of V at a depth: number and volume
abbrev pub volume_at : Site → ℕ → List ℕ
volume_at s d = let g = volume_given (volume_answer s (record { 0 = d })) in g.0 ∷ g.1 ∷ []

-- of a credit or a size: number, list and place, load, depth, percent, volume and removed load
abbrev pub numbers_of : Given → List ℕ
numbers_of g =
    g.answer ∷ g.list ∷ g.place ∷ g.load ∷ g.depth ∷ g.percent ∷ g.volume ∷ g.removed ∷ []

abbrev pub starred : List (List ℕ)
starred =
    -- T, step, rate 50: depth 40 gives 35000; 0 gives 0; 10 gives 10000; 200 gives 70000
    percent_on_t Step 50 40 ∷ percent_on_t Step 50 0 ∷ percent_on_t Step 50 10 ∷ percent_on_t Step 50 200
    -- T, mix, rate 50, depth 40: 43750; rate 26, depth 33: 30117
    ∷ percent_on_t Mix 50 40 ∷ percent_on_t Mix 26 33
    -- T, step, rate 50: target 35000 gives depth 40, 35001 gives 41, 70000 gives 100, 70001 is refused 10
    ∷ depth_on_t 35_000 ∷ depth_on_t 35_001 ∷ depth_on_t 70_000 ∷ depth_on_t 70_001
    -- T, rate 24: refused 7
    ∷ percent_on_t Step 24 40
    -- impervious 257, depth 36; impervious 400, pervious C 200 and B 150, depth 71
    ∷ volume_at lot_site 36 ∷ volume_at yard_site 71
    -- on T, step, rate 50, target 55001 gives that volume; it is credited 55500, and one unit less 55000
    ∷ numbers_of (Sized sheet_t N yard_site Step 50 55_001)
    ∷ numbers_of (Credited sheet_t N yard_site Step 50 1_100_343_750)
    ∷ numbers_of (Credited sheet_t N yard_site Step 50 1_100_343_749)
    ∷ []

abbrev pub Starred : Type 0
Starred =
    starred
    ≡ (0 ∷ 35_000 ∷ 0 ∷ 0 ∷ []) ∷ (0 ∷ 0 ∷ 0 ∷ 0 ∷ []) ∷ (0 ∷ 10_000 ∷ 0 ∷ 0 ∷ []) ∷ (0 ∷ 70_000 ∷ 0 ∷ 0 ∷ [])
    ∷ (0 ∷ 43_750 ∷ 0 ∷ 0 ∷ []) ∷ (0 ∷ 30_117 ∷ 0 ∷ 0 ∷ [])
    ∷ (0 ∷ 40 ∷ 35_000 ∷ 0 ∷ 0 ∷ []) ∷ (0 ∷ 41 ∷ 35_750 ∷ 0 ∷ 0 ∷ []) ∷ (0 ∷ 100 ∷ 70_000 ∷ 0 ∷ 0 ∷ []) ∷ (10 ∷ 0 ∷ 0 ∷ 0 ∷ 0 ∷ [])
    ∷ (7 ∷ 0 ∷ 0 ∷ 0 ∷ [])
    ∷ (0 ∷ 335_847_600 ∷ []) ∷ (0 ∷ 1_100_343_750 ∷ [])
    ∷ (0 ∷ 0 ∷ 0 ∷ 666_000 ∷ 71 ∷ 55_500 ∷ 1_100_343_750 ∷ 369_630 ∷ [])
    ∷ (0 ∷ 0 ∷ 0 ∷ 666_000 ∷ 71 ∷ 55_500 ∷ 1_100_343_750 ∷ 369_630 ∷ [])
    ∷ (0 ∷ 0 ∷ 0 ∷ 666_000 ∷ 70 ∷ 55_000 ∷ 1_100_343_749 ∷ 366_300 ∷ [])
    ∷ []

-- of a credit or a size: depth, percent and basis
abbrev pub found_by : Given → ℕ × ℕ × Basis
found_by g = (g.depth, g.percent, g.basis)

-- on T, step, rate 50: impervious 400, pervious C 200 and B 150, sized for 0, 20000, 20001, 55001 and 70000, and credited with the
-- largest volume
abbrev pub HowFound : Type 0
HowFound =
    found_by (Sized sheet_t N yard_site Step 50 0)
    ∷ found_by (Sized sheet_t N yard_site Step 50 20_000)
    ∷ found_by (Sized sheet_t N yard_site Step 50 20_001)
    ∷ found_by (Sized sheet_t N yard_site Step 50 55_001)
    ∷ found_by (Sized sheet_t N yard_site Step 50 70_000)
    ∷ found_by (Credited sheet_t N yard_site Step 50 largest)
    ∷ []
    ≡ (0, 0, Start) ∷ (20, 20_000, Printed) ∷ (21, 20_750, Between) ∷ (71, 55_500, Between) ∷ (100, 70_000, Printed) ∷ (200, 70_000, Held) ∷ []
