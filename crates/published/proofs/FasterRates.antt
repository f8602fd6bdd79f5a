-- In no published sheet does a percent fall as its rate rises.
-- Assumes nothing.
use Prim.Native.Nat.{ℕ, ◌+◌, ◌*◌, ◌≤◌, ◌<◌}
use mathlib.Core.Bool.{Bool, true, cond, ◌&&◌}
use mathlib.Core.List.{List}
use mathlib.Core.Logic.{⊎_elim}
use mathlib.Core.Path.{◌≡◌, refl}
use native.Mathlib.Nat.{mul-le-mul_right}
use native.Mathlib.Omega.{arith}
use lib.Dec.{leb, ltb, eqb}
use lib.ListN.{length, get_or}
use borrow.Author.Tests.{leb-true, ltb-false, eqb-true, lt-ltb}
use Rattle.laws.proofs.And.{and_left, and_right}
use Rattle.laws.proofs.Order.{lt_or_le}
use Rattle.laws.proofs.Table.{every, carry}
use Rattle.units.specs.declared.Nutrient.{Nutrient}
use Rattle.units.specs.declared.Nutrient.TheVariants.{P, N}
use Rattle.curve.specs.Promises.{FasterIsNoLess}
use Rattle.published.specs.Tables.{depths}
use Rattle.published.specs.Published.{last_practice, rates_of, percents_of}
use Rattle.published.specs.Promises.{NoneFallsWithRate}
use Rattle.published.proofs.Sheets.{for_each, none_above}

-- a percent is at most the one of the next rate at the same depth, where there is one
abbrev no_less : List ℕ → ℕ → ℕ → Bool
no_less ps i x = cond (ltb (i + 8) (length ps)) (leb x (get_or ps (i + 8) 0)) true

-- a sheet has one percent for each rate at each depth, and none of them falls with the rate
abbrev rising : List ℕ → List ℕ → Bool
rising rs ps = eqb (length ps) (length rs * 8) && every (no_less ps) ps

-- one test of the nine, for each nutrient
all_rising : (nutrient : Nutrient) (practice : ℕ) → practice ≤ last_practice → rising (rates_of practice nutrient) (percents_of practice nutrient) ≡ true
unfolding rates_of percents_of
all_rising P = for_each (λ p. rising (rates_of p P) (percents_of p P)) refl
all_rising N = for_each (λ p. rising (rates_of p N) (percents_of p N)) refl

faster : (rs ps : List ℕ) → rising rs ps ≡ true → FasterIsNoLess depths rs ps
faster rs ps e j k h l =
    let n : length ps ≡ length rs * 8 = eqb-true (length ps) (length rs * 8) (and_left (eqb (length ps) (length rs * 8)) (every (no_less ps) ps) e) in
    let t = and_right (eqb (length ps) (length rs * 8)) (every (no_less ps) ps) e in
    let g : j + 1 + 1 ≤ length rs = omega arith in
    let m = mul-le-mul_right 8 g in
    let q : j * 8 + k + 8 ≡ (j + 1) * 8 + k = omega arith in
    let c = carry (no_less ps) ps t (j * 8 + k) (omega arith) in
    let b : ltb (j * 8 + k + 8) (length ps) ≡ true = lt-ltb (j * 8 + k + 8) (length ps) (omega arith) in
    rw q at (leb-true (get_or ps (j * 8 + k) 0) (get_or ps (j * 8 + k + 8) 0) (rw b at c))

pub none_falls_with_rate : NoneFallsWithRate
none_falls_with_rate practice nutrient =
    ⊎_elim
    (λ (h : last_practice < practice). λ j k l m. absurd (omega (arith, ltb-false 0 (length (rates_of practice nutrient)) (none_above nutrient practice h))))
    (λ (h : practice ≤ last_practice). faster (rates_of practice nutrient) (percents_of practice nutrient) (all_rising nutrient practice h))
    (lt_or_le last_practice practice)
