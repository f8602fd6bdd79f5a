-- Rules, "Numbers of sub-areas": its numbers, by computation of the definitions.
-- Assumes nothing.
use Prim.Native.Nat.{ℕ, zero, suc, ◌+◌, ◌<◌}
use mathlib.Core.List.{List, map}
use mathlib.Core.Path.{◌≡◌, refl, ◌∙◌, ap}
use native.Mathlib.Numerals.{unary_clauses}
use native.Mathlib.Omega.{arith}
use lib.ListN.{drop, get_or}
use Rattle.laws.specs.First.{first_from}
use Rattle.laws.specs.Table.{values_from}
use Rattle.site.specs.declared.Site.{Site}
use Rattle.site.specs.Parts.{empty_site}
use Rattle.site.specs.Judging.{judged_from, rises_to, judged}
use Rattle.site.specs.Adding.{add_answer, added_to, added}
use Rattle.site.specs.Removing.{removed_from, removed}
use Rattle.site.specs.Runs.{ran, up_from, built_from}
use Rattle.site.specs.Numbers.{paved, lots_site, TheNumbers, FilledUp}

pub the_numbers : TheNumbers
unfolding first_from judged_from rises_to judged add_answer added_to added removed_from removed ran values_from
the_numbers = refl

-- Each add to so many sub-areas gives the site of one more.
abbrev grown : ℕ → Site
grown k = (added (lots_site k) (paved (1_000 + k))).site

abbrev larger : ℕ → Site
larger k = lots_site (k + 1)

grows : map grown (up_from 0 32) ≡ map larger (up_from 0 32)
unfolding judged_from rises_to judged add_answer added_to added values_from
grows = refl

-- what two lists of sites have in common, they have at each place
each_place : (f g : ℕ → Site) (j n k : ℕ) → map f (up_from j n) ≡ map g (up_from j n) → k < n → f (j + k) ≡ g (j + k)
unfolding values_from
each_place f g j zero k e h = absurd (omega arith)
each_place f g j (suc n) zero e h = simp unary_clauses (ap (λ (ss : List Site). get_or ss 0 empty_site) e)
each_place f g j (suc n) (suc k) e h =
    let s : suc j + k ≡ j + suc k = omega arith in
    rw (← s) (each_place f g (suc j) n k (ap (drop 1) e) (omega arith))

-- The adds from place k on fill the site up.
fills : (k n : ℕ) → k + n ≡ 32 → ran (lots_site k) (built_from (map paved (up_from (1_000 + k) n))) ≡ lots_site 32
unfolding ran values_from
fills k zero e = let z : k ≡ 32 = omega arith in ap lots_site z
fills k (suc n) e =
    let here = each_place grown larger 0 32 k grows (omega arith) in
    let z : 0 + k ≡ k = omega arith in
    let next : suc (1_000 + k) ≡ 1_000 + (k + 1) = omega arith in
    ap (λ (s : Site). ran s (built_from (map paved (up_from (suc (1_000 + k)) n)))) (rw z at here)
    ∙ ap (λ (a : ℕ). ran (lots_site (k + 1)) (built_from (map paved (up_from a n)))) next
    ∙ fills (k + 1) n (omega arith)

pub filled_up : FilledUp
unfolding values_from
filled_up = fills 0 32 refl
