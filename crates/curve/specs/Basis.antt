-- Rules, "How a percent was found": the basis of a percent, by the depth and by whether two curves were mixed.
-- Assumes nothing.
use Rattle.std.specs.Prelude.{ℕ, ◌-◌, Bool, false, cond, ◌&&◌, not, List, ltb, eqb, length, get_or}
use Rattle.laws.specs.Text.{bytes}
use Rattle.curve.specs.declared.Mode.{Mode}
use Rattle.curve.specs.declared.Curves.{Curves}
use Rattle.curve.specs.declared.Curves.TheVariants.{One, Two}
use Rattle.curve.specs.declared.Basis.{Basis}
use Rattle.curve.specs.declared.Basis.TheVariants.{None, Printed, Between, Start, Held}
use Rattle.curve.specs.Curve.{segment, curves_of}

-- two curves are mixed: the site rate is above the slower rate. Below the faster one it is in every pair that an admitted rate has
abbrev pub mixes : Curves → Bool
mixes (One j) = false
mixes (Two j slow fast r) = ltb slow.0 r.0

-- the depth is one of the sheet's
abbrev pub is_printed : List ℕ → ℕ → Bool
is_printed ds d = eqb (get_or ds (segment ds d) 0) d

-- start below the first depth, held beyond the last; from the first to the last a depth of the sheet is printed where nothing is
-- mixed, and all else is between
unfoldable pub basis_at : List ℕ → Curves → ℕ → Basis
basis_at ds c d =
    cond (ltb d (get_or ds 0 0)) Start
    (cond (ltb (get_or ds (length ds - 1) 0) d) Held
    (cond (is_printed ds d && not (mixes c)) Printed Between))

-- the basis of a sheet's percent at a site rate and a depth
abbrev pub basis_of : List ℕ → List ℕ → Mode → ℕ → ℕ → Basis
basis_of ds rs mode r d = basis_at ds (curves_of rs mode r) d

-- its number, in the order of the cases
abbrev pub basis_number : Basis → ℕ
basis_number None = 0
basis_number Printed = 1
basis_number Between = 2
basis_number Start = 3
basis_number Held = 4

-- its words: a word's place, counted from 0, is its number
abbrev pub basis_words : List ℕ
basis_words = bytes "none printed between start held"
