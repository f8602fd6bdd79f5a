-- The promises hold.
-- Assumes nothing.
use Prim.Native.Nat.{ℕ, ◌≤◌}
use mathlib.Core.Bool.{Bool}
use mathlib.Core.List.{List}
use mathlib.Core.Path.{refl}
use native.Mathlib.Omega.{arith}
use lib.Dec.{ltb}
use borrow.Author.Tests.{ltb-false, le-ltb}
use Rattle.laws.proofs.First.{first_fails, fails_so_below}
use Rattle.laws.proofs.Quotient.{floor_le}
use Rattle.units.specs.Limits.{highest_depth, grid_depths}
use Rattle.curve.specs.declared.Mode.{Mode}
use Rattle.curve.specs.Curve.{curves_of, exact_of, percent_of, depth_reaching}
use Rattle.curve.specs.Inner.{Rated, Ready}
use Rattle.curve.specs.Promises.{Usable, NeverFallsWithDepth, AtMostAll, NeverFallsWithRate, FindsTheLeast}
use Rattle.curve.proofs.Answering.{rate_rated}
use Rattle.curve.proofs.Choices.{neighbours}
use Rattle.curve.proofs.Faster.{exact_faster}
use Rattle.curve.proofs.Parts.{in_segment}
use Rattle.curve.proofs.Rising.{under_some, percent_rises, percent_most}

module _ {ds rs ps : List ℕ} {r : ℕ} (g : Usable ds rs ps r) where
  -- A granted rate is reached by its sheet.
  pub granted_rated : Rated rs r
  granted_rated = rate_rated rs refl g.rules.some_rates g.taken g.slowest

  pub granted_ready : (mode : Mode) → Ready ds rs ps (curves_of rs mode r)
  granted_ready mode = record { rules = g.rules; curves = neighbours mode g.rules granted_rated }

-- the test that a depth does not reach the target
abbrev test : List ℕ → List ℕ → List ℕ → Mode → ℕ → ℕ → ℕ → Bool
test ds rs ps mode r target d = ltb (percent_of ds rs ps mode r d) target

pub never_falls_with_depth : NeverFallsWithDepth
never_falls_with_depth ds rs ps mode r d e g h = percent_rises (granted_ready g mode) d e h

pub at_most_all : AtMostAll
at_most_all ds rs ps mode r d g = percent_most (granted_ready g mode) d

pub never_falls_with_rate : NeverFallsWithRate
never_falls_with_rate ds rs ps faster mode r q d g f h =
    floor_le (exact_of ds rs ps mode r d).over (exact_of ds rs ps mode r d).under (exact_of ds rs ps mode q d).over (exact_of ds rs ps mode q d).under
    (under_some (granted_ready g mode) d) (under_some (granted_ready f mode) d)
    (exact_faster (in_segment d g.rules refl refl) faster mode (granted_rated g) (granted_rated f) h)

pub finds_the_least : FindsTheLeast
finds_the_least ds rs ps mode r target g h =
    record {
      on_grid = on_grid;
      reaches =
          let l = on_grid in
          ltb-false (percent_of ds rs ps mode r (depth_reaching (percent_of ds rs ps mode r) target)) target (first_fails (test ds rs ps mode r target) grid_depths (omega arith));
      least = λ e l. fails_so_below (test ds rs ps mode r target) grid_depths e (le-ltb (percent_of ds rs ps mode r e) target l);
    }
  where
    on_grid : depth_reaching (percent_of ds rs ps mode r) target ≤ highest_depth
    on_grid = fails_so_below (test ds rs ps mode r target) grid_depths highest_depth (le-ltb (percent_of ds rs ps mode r highest_depth) target h)
