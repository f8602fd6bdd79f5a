-- Laws of the test of a sheet's lengths.
-- Assumes nothing.
use Prim.Native.Nat.{ℕ, ◌*◌, ◌%◌, ◌≤◌}
use mathlib.Core.Bool.{true, ◌&&◌}
use mathlib.Core.Path.{◌≡◌}
use native.Mathlib.Nat.{mul-mod_left}
use lib.Dec.{leb, eqb}
use borrow.Author.Tests.{leb-true, eqb-true}
use Rattle.laws.proofs.And.{and_left, and_right}
use Rattle.sheet.specs.Sheet.{lengths_fit, most_depths, most_rates}

-- The lengths' test, as facts.
pub lengths_kept : (d r p : ℕ) → lengths_fit d r p ≡ true → (1 ≤ d) × (d ≤ most_depths) × (1 ≤ r) × (r ≤ most_rates) × (p ≡ r * d)
unfolding lengths_fit
lengths_kept d r p e =
    let f₃ = and_left (leb 1 d && leb d most_depths && leb 1 r && leb r most_rates) (eqb p (r * d)) e in
    let f₂ = and_left (leb 1 d && leb d most_depths && leb 1 r) (leb r most_rates) f₃ in
    let f₁ = and_left (leb 1 d && leb d most_depths) (leb 1 r) f₂ in (
      leb-true 1 d (and_left (leb 1 d) (leb d most_depths) f₁),
      leb-true d most_depths (and_right (leb 1 d) (leb d most_depths) f₁),
      leb-true 1 r (and_right (leb 1 d && leb d most_depths) (leb 1 r) f₂),
      leb-true r most_rates (and_right (leb 1 d && leb d most_depths && leb 1 r) (leb r most_rates) f₃),
      eqb-true p (r * d) (and_right (leb 1 d && leb d most_depths && leb 1 r && leb r most_rates) (eqb p (r * d)) e),
    )

-- Where the lengths fit there is a depth, and the percents are whole rows.
pub some_depths : (d r p : ℕ) → lengths_fit d r p ≡ true → 1 ≤ d
some_depths d r p e = (lengths_kept d r p e).0

pub whole_rows : (d r p : ℕ) → lengths_fit d r p ≡ true → p % d ≡ 0
whole_rows d r p e = rw ((lengths_kept d r p e).4) (mul-mod_left r d)
