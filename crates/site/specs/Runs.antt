-- Rules, "Numbers of sub-areas": runs of adds and removals, each on the site that the one before it handed back.
-- Assumes nothing.
use Rattle.std.specs.Prelude.{ℕ, ◌+◌, List, [], ◌∷◌, ◌++◌, map, get_or}
use Rattle.laws.specs.Table.{values_from}
use Rattle.site.specs.declared.SubArea.{SubArea}
use Rattle.site.specs.declared.Site.{Site}
use Rattle.site.specs.Parts.{parts_of, numbers_of, area_of, blank}
use Rattle.site.specs.Judging.{after_judging, given}
use Rattle.site.specs.Adding.{added}
use Rattle.site.specs.Removing.{place_of, removed}

-- a step of a run: a sub-area that is added, or a number that is removed
pub data Step : Type 0 where
  add : SubArea → Step
  remove : ℕ → Step

-- the site that a step hands back, granted or not
abbrev pub stepped : Site → Step → Site
stepped s (add p) = (added s p).site
stepped s (remove n) = (removed s n).site

-- the site after a run
unfoldable pub ran : Site → List Step → Site
ran s [] = s
ran s (step ∷ steps) = ran (stepped s step) steps

-- what a step answers: the rules' number, 0 where it is granted
abbrev pub answered : Site → Step → ℕ
answered s (add p) = (given (added s p).answer).0
answered s (remove n) = (given (removed s n).answer).0

-- the answers of a run, step by step
unfoldable pub answers : Site → List Step → List ℕ
answers s [] = []
answers s (step ∷ steps) = answered s step ∷ answers (stepped s step) steps

-- the area that a step adds: that of the sub-area, where its add is granted
abbrev pub adds : Site → Step → ℕ
adds s (add p) = after_judging (λ why. 0) (λ total. area_of p) (added s p).answer
adds s (remove n) = 0

-- the area that a step takes: that of the sub-area with the number, where its removal is granted
abbrev pub takes : Site → Step → ℕ
takes s (add p) = 0
takes s (remove n) =
    after_judging (λ why. 0) (λ total. area_of (get_or (parts_of s) (place_of n (numbers_of s)) blank)) (removed s n).answer

-- what the granted adds of a run added, and what its granted removals took
unfoldable pub added_area : Site → List Step → ℕ
added_area s [] = 0
added_area s (step ∷ steps) = adds s step + added_area (stepped s step) steps

unfoldable pub taken_area : Site → List Step → ℕ
taken_area s [] = 0
taken_area s (step ∷ steps) = takes s step + taken_area (stepped s step) steps

-- the numbers that a step gives: that of its add, where it is granted
abbrev pub gives : Site → Step → List ℕ
gives s (add p) = after_judging (λ why. []) (λ total. (added s p).number ∷ []) (added s p).answer
gives s (remove n) = []

-- the numbers given in a run, in their order
unfoldable pub numbers_given : Site → List Step → List ℕ
numbers_given s [] = []
numbers_given s (step ∷ steps) = gives s step ++ numbers_given (stepped s step) steps

-- so many numbers from k on
abbrev pub up_from : ℕ → ℕ → List ℕ
up_from k n = values_from (λ i. i) k n

-- the run that adds sub-areas one by one
abbrev pub built_from : List SubArea → List Step
built_from = map add
