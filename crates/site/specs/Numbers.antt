-- Rules, "Numbers of sub-areas": numbers of adds, removals and judgings, all together as one list. Proved in proofs/Numbers.antt.
-- Assumes nothing.
use Rattle.std.specs.Prelude.{ℕ, ◌+◌, ◌-◌, List, [], ◌∷◌, ◌++◌, map, ◌≡◌, length, get_or, replicate}
use Rattle.site.specs.declared.LandUse.TheVariants.{Com}
use Rattle.site.specs.declared.Cover.TheVariants.{Imp}
use Rattle.site.specs.declared.Soil.TheVariants.{NoSoil}
use Rattle.site.specs.declared.SubArea.{SubArea}
use Rattle.site.specs.declared.Site.{Site}
use Rattle.site.specs.Parts.{most_parts, numbers_of, area_of, blank, empty_site}
use Rattle.site.specs.Judging.{judged, given}
use Rattle.site.specs.Adding.{added}
use Rattle.site.specs.Removing.{removed}
use Rattle.site.specs.Runs.{add, ran, up_from, built_from}

-- a paved sub-area
abbrev pub paved : ℕ → SubArea
paved area = record { land = Com; cover = Imp; soil = NoSoil; area = record { 0 = area } }

-- so many paved sub-areas of 1,000, 1,001 and so on, and the site that holds them
abbrev pub lots : ℕ → List SubArea
lots n = map paved (up_from 1_000 n)

abbrev pub lots_site : ℕ → Site
lots_site n =
    record { parts = lots n ++ replicate (most_parts - n) blank; count = n; numbers = up_from 1 n ++ replicate (most_parts - n) 0; counter = n + 1 }

-- a record of paved areas, with its count, numbers and counter
abbrev holding : List SubArea → ℕ → List ℕ → ℕ → Site
holding parts count numbers counter =
    record {
      parts = parts ++ replicate (most_parts - length parts) blank;
      count = count;
      numbers = numbers ++ replicate (most_parts - length numbers) 0;
      counter = counter;
    }

-- two areas with their numbers
abbrev pair : ℕ → ℕ → ℕ → Site
pair first second counter = holding (paved 100 ∷ paved 200 ∷ []) 2 (first ∷ second ∷ []) counter

-- of a judging: number and total area
abbrev of_judging : Site → List ℕ
of_judging s = let g = given (judged s) in g.0 ∷ g.1 ∷ []

-- of an add: the rules' number, the total area, the number that was given, count and counter
abbrev of_add : Site → ℕ → List ℕ
of_add s area =
    let a = added s (paved area) in
    let g = given a.answer in
    g.0 ∷ g.1 ∷ a.number ∷ a.site.count ∷ a.site.counter ∷ []

-- of a removal: the rules' number, the total area, count and counter, then the numbers that are left
abbrev of_removal : Site → ℕ → List ℕ
of_removal s n =
    let r = removed s n in
    let g = given r.answer in
    g.0 ∷ g.1 ∷ r.site.count ∷ r.site.counter ∷ numbers_of r.site

-- of a place: its number and area
abbrev of_place : Site → ℕ → List ℕ
of_place s i = get_or s.numbers i 0 ∷ area_of (get_or s.parts i blank) ∷ []

-- three sub-areas, and without the second
abbrev three : Site
three = ran empty_site (add (paved 257) ∷ add (paved 400) ∷ add (paved 150) ∷ [])

abbrev two : Site
two = (removed three 2).site

-- 32 sub-areas of 1,000 to 1,031, and without the fifth
abbrev full : Site
full = lots_site most_parts

abbrev roomy : Site
roomy = (removed full 5).site

-- two sub-areas whose counter has one number left, and with a third
abbrev nearly : Site
nearly = holding (paved 10 ∷ paved 20 ∷ []) 2 (1 ∷ 2 ∷ []) 999_999

abbrev spent : Site
spent = (added nearly (paved 30)).site

-- a record whose total area is 1,200,000, and one of 600,000
abbrev crowded : ℕ → Site
crowded counter = holding (paved 600_000 ∷ paved 600_000 ∷ []) 2 (1 ∷ 2 ∷ []) counter

abbrev half : ℕ → Site
half counter = holding (paved 600_000 ∷ []) 1 (1 ∷ []) counter

-- the full site with another counter
abbrev filled : ℕ → Site
filled counter = record { parts = full.parts; count = most_parts; numbers = full.numbers; counter = counter }

-- the calls, in the order of what is told of them
abbrev told : List (List ℕ)
told =
    numbers_of three
    ∷ of_judging three
    ∷ of_removal three 2
    ∷ of_place two 2
    ∷ of_add two 90
    ∷ of_judging full
    ∷ of_add full 5
    ∷ of_removal full 5
    ∷ of_add roomy 7
    ∷ of_place (added roomy (paved 7)).site 31
    ∷ of_add nearly 30
    ∷ of_add spent 40
    ∷ of_add (removed spent 2).site 40
    ∷ of_judging (holding (paved 10 ∷ []) 1 (1 ∷ []) 0)
    ∷ of_judging (holding [] 0 [] 0)
    ∷ of_judging (holding (paved 10 ∷ []) 33 (1 ∷ []) 0)
    ∷ of_judging (holding (paved 0 ∷ []) 1 (1 ∷ []) 0)
    ∷ of_judging (crowded 0)
    ∷ of_judging (pair 1 1 3)
    ∷ of_judging (pair 2 1 3)
    ∷ of_judging (pair 0 1 3)
    ∷ of_judging (pair 1 3 3)
    ∷ of_judging (pair 1 2 2)
    ∷ of_judging (pair 5 9 10)
    ∷ of_judging (pair 5 9 2_000_000)
    ∷ of_add (pair 5 9 2_000_000) 10
    ∷ of_add (half 1_000_000) 600_000
    ∷ of_add (half 999_999) 600_000
    ∷ of_add (filled 1_000_000) 10
    ∷ of_add (filled 1_000_000) 0
    ∷ of_removal three 0
    ∷ of_removal three 4
    ∷ of_removal two 2
    ∷ []

-- what is told of them
abbrev pub TheNumbers : Type 0
TheNumbers =
    told
    ≡ (1 ∷ 2 ∷ 3 ∷ [])
    ∷ (0 ∷ 807 ∷ [])
    ∷ (0 ∷ 407 ∷ 2 ∷ 4 ∷ 1 ∷ 3 ∷ [])
    ∷ (3 ∷ 150 ∷ [])
    ∷ (0 ∷ 497 ∷ 4 ∷ 3 ∷ 5 ∷ [])
    ∷ (0 ∷ 32_496 ∷ [])
    ∷ (14 ∷ 0 ∷ 0 ∷ 32 ∷ 33 ∷ [])
    ∷ (0 ∷ 31_492 ∷ 31 ∷ 33 ∷ up_from 1 4 ++ up_from 6 27)
    ∷ (0 ∷ 31_499 ∷ 33 ∷ 32 ∷ 34 ∷ [])
    ∷ (33 ∷ 7 ∷ [])
    ∷ (0 ∷ 60 ∷ 999_999 ∷ 3 ∷ 1_000_000 ∷ [])
    ∷ (17 ∷ 0 ∷ 0 ∷ 3 ∷ 1_000_000 ∷ [])
    ∷ (17 ∷ 0 ∷ 0 ∷ 2 ∷ 1_000_000 ∷ [])
    ∷ (16 ∷ 0 ∷ [])
    ∷ (16 ∷ 0 ∷ [])
    ∷ (14 ∷ 0 ∷ [])
    ∷ (2 ∷ 0 ∷ [])
    ∷ (3 ∷ 0 ∷ [])
    ∷ (16 ∷ 0 ∷ [])
    ∷ (16 ∷ 0 ∷ [])
    ∷ (16 ∷ 0 ∷ [])
    ∷ (16 ∷ 0 ∷ [])
    ∷ (16 ∷ 0 ∷ [])
    ∷ (0 ∷ 300 ∷ [])
    ∷ (0 ∷ 300 ∷ [])
    ∷ (17 ∷ 0 ∷ 0 ∷ 2 ∷ 2_000_000 ∷ [])
    ∷ (17 ∷ 0 ∷ 0 ∷ 1 ∷ 1_000_000 ∷ [])
    ∷ (3 ∷ 0 ∷ 0 ∷ 1 ∷ 999_999 ∷ [])
    ∷ (14 ∷ 0 ∷ 0 ∷ 32 ∷ 1_000_000 ∷ [])
    ∷ (2 ∷ 0 ∷ 0 ∷ 32 ∷ 1_000_000 ∷ [])
    ∷ (16 ∷ 0 ∷ 3 ∷ 4 ∷ 1 ∷ 2 ∷ 3 ∷ [])
    ∷ (16 ∷ 0 ∷ 3 ∷ 4 ∷ 1 ∷ 2 ∷ 3 ∷ [])
    ∷ (16 ∷ 0 ∷ 2 ∷ 4 ∷ 1 ∷ 3 ∷ [])
    ∷ []

-- 32 adds of 1,000 to 1,031 to an empty site give the full one.
abbrev pub FilledUp : Type 0
FilledUp = ran empty_site (built_from (lots most_parts)) ≡ full
