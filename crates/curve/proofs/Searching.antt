-- The loop that searches for the least depth of a target: the bisection of the grid, and the percent at its upper end.
-- Assumes nothing.
use Prim.Native.Nat.{ℕ, ◌+◌, ◌-◌, ◌≤◌, ◌<◌}
use mathlib.Core.Bool.{Bool}
use mathlib.Core.List.{List}
use mathlib.Core.Path.{◌≡◌, refl, sym, ◌∙◌, ap}
use native.Mathlib.Omega.{arith}
use Rattle.std.specs.Prelude.{Option, Some, None}
use lib.Dec.{ltb, lit<}
use borrow.Author.Tests.{lt-ltb, le-ltb}
use Rattle.laws.proofs.Bisection.{middle, Halving, halving_starts, halving_up, halving_down, halving_done, halving_met}
use Rattle.units.specs.declared.Depth.{Depth}
use Rattle.units.specs.declared.Percent.{Percent}
use Rattle.units.specs.Limits.{highest_depth, grid_depths}
use Rattle.curve.specs.declared.Curves.{Curves}
use Rattle.curve.specs.Curve.{percent_at, depth_reaching}
use Rattle.curve.specs.Inner.{Ready, Reaching}
use Rattle.curve.proofs.Answering.{reaches_once}

-- the depths whose percent is below the target
abbrev below : List ℕ → List ℕ → Curves → ℕ → ℕ → Bool
below ds ps c t d = ltb (percent_at ds ps c d) t

-- what is known of the upper end: it is beyond the grid, or a depth with its percent
abbrev pub Known : List ℕ → List ℕ → Curves → ℕ → Option (Depth × Percent) → Type 0
Known ds ps c high None = high ≡ grid_depths
Known ds ps c high (Some (d, p)) = (d.0 ≡ high) × (high ≤ highest_depth) × (p.0 ≡ percent_at ds ps c high)

-- Before a turn: the grid is halved so far.
pub record Searching (ds ps : List ℕ) (c : Curves) (t trials low high : ℕ) (found : Option (Depth × Percent)) : Type 0 where
  pub halving : Halving (below ds ps c t) grid_depths trials low high
  pub known : Known ds ps c high found

pub search_starts : (ds ps : List ℕ) (c : Curves) (t : ℕ) → Searching ds ps c t 8 0 grid_depths None
search_starts ds ps c t = record { halving = halving_starts (below ds ps c t) grid_depths 8 (lit< tt); known = refl }

module _ (ds rs ps : List ℕ) (c : Curves) (t turn low high q : ℕ) {found : Option (Depth × Percent)} (s : Searching ds ps c t (8 - turn) low high found)
    (h : turn < 8) (l : low < high) (e : q ≡ percent_at ds ps c (middle low high)) where
  pub search_up : Ready ds rs ps c → q < t → Searching ds ps c t (8 - (turn + 1)) (middle low high + 1) high found
  search_up r k =
      let z : 8 - (turn + 1) ≡ 8 - turn - 1 = omega arith in
      rw z
      (record {
        halving = halving_up (below ds ps c t) grid_depths (8 - turn) low high (reaches_once r t) s.halving (omega arith) l
            (lt-ltb (percent_at ds ps c (middle low high)) t (omega arith));
        known = s.known;
      })

  pub search_down : t ≤ q → Searching ds ps c t (8 - (turn + 1)) low (middle low high) (Some (record { 0 = middle low high }, record { 0 = q }))
  search_down k =
      let z : 8 - (turn + 1) ≡ 8 - turn - 1 = omega arith in
      let w = s.halving.within in
      rw z
      (record {
        halving = halving_down (below ds ps c t) grid_depths (8 - turn) low high s.halving (omega arith) l
            (le-ltb (percent_at ds ps c (middle low high)) t (omega arith));
        known = (refl, omega arith, e);
      })

reached_by : (ds ps : List ℕ) (c : Curves) (t low high : ℕ) (found : Option (Depth × Percent)) → low ≡ depth_reaching (percent_at ds ps c) t → high ≡ low
    → Known ds ps c high found → Reaching ds ps c t found
reached_by ds ps c t low high None f e k = omega arith
reached_by ds ps c t low high (Some (d, p)) f e k =
    record { on_grid = omega (arith, k.0, k.1); least = k.0 ∙ e ∙ f; there = k.2 ∙ ap (percent_at ds ps c) (sym k.0) }

module _ (ds ps : List ℕ) (c : Curves) (t trials low high : ℕ) (found : Option (Depth × Percent)) (s : Searching ds ps c t trials low high found) where
  pub search_done : high ≤ low → Reaching ds ps c t found
  search_done l =
      let a = s.halving.least in
      let b = s.halving.most in
      reached_by ds ps c t low high found (halving_done (below ds ps c t) grid_depths trials low high s.halving l) (omega arith) s.known

  pub search_out : trials ≤ 0 → Reaching ds ps c t found
  search_out l = search_done (halving_met (below ds ps c t) grid_depths trials low high s.halving l)
