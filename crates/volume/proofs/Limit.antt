-- The loop that tries the total of six areas against the limit.
-- Assumes nothing.
use Prim.Native.Nat.{ℕ, ◌+◌, ◌-◌, ◌≤◌, ◌<◌}
use mathlib.Core.Bool.{true, false}
use mathlib.Core.List.{List}
use mathlib.Core.Path.{◌≡◌, sym}
use mir.Syntax.{w64}
use mir.Val.{Fits}
use native.Mathlib.Nat.{lt_of_le_of_lt}
use native.Mathlib.Omega.{arith}
use lib.Dec.{lit<}
use lib.ListN.{length, drop}
use borrow.Author.Tests.{le-leb, lt-leb}
use Rattle.laws.proofs.Sum.{sum_turn, sum_end}
use Rattle.units.specs.declared.Area.{Area}
use Rattle.units.specs.Limits.{most_area}
use Rattle.volume.specs.Areas.{no_area, area_at, total_of, within_limit}

-- What is gathered before place i, with what is left, is the total.
pub record Totalled (xs : List Area) (i total : ℕ) : Type 0 where
  pub small : total ≤ most_area
  pub rest : total + total_of (drop i xs) ≡ total_of xs

module _ (xs : List Area) where
  pub total_starts : Totalled xs 0 0
  total_starts = record { small = omega arith; rest = omega arith }

  module _ (i total : ℕ) (t : Totalled xs i total) where
    pub total_passed : i < length xs → most_area - total < area_at xs i → false ≡ within_limit xs
    total_passed h l =
        let e = sum_turn (λ (x : Area). x.0) xs i no_area h in
        sym (lt-leb (total_of xs) most_area (omega (arith, t.rest, t.small)))

    pub total_next : i < length xs → area_at xs i ≤ most_area - total → Totalled xs (i + 1) (total + area_at xs i)
    total_next h l =
        let e = sum_turn (λ (x : Area). x.0) xs i no_area h in
        record { small = omega (arith, t.small); rest = omega (arith, t.rest) }

    pub total_fits : area_at xs i ≤ most_area - total → Fits w64 (total + area_at xs i)
    total_fits l =
        let m : total + area_at xs i ≤ most_area = omega (arith, t.small) in
        record { fits = lt_of_le_of_lt m (lit< tt) }

    pub total_within : length xs ≤ i → true ≡ within_limit xs
    total_within h =
        let e = sum_end (λ (x : Area). x.0) xs i h in
        sym (le-leb (total_of xs) most_area (omega (arith, t.rest, t.small)))
