-- Laws of the basis: what each test makes of it, and what each basis tells of the tests.
-- Assumes nothing.
use Prim.Native.Nat.{ℕ, ◌-◌, ◌≤◌, ◌<◌}
use mathlib.Core.Bool.{Bool, false, cond, ◌&&◌, not}
use mathlib.Core.List.{List}
use mathlib.Core.Path.{◌≡◌, sym, ◌∙◌}
use lib.ListN.{length, get_or}
use borrow.Author.Tests.{lt-ltb, le-ltb, eq-eqb}
use Rattle.curve.specs.declared.Curves.{Curves}
use Rattle.curve.specs.declared.Basis.TheVariants.{Printed, Between, Start, Held}
use Rattle.curve.specs.Curve.{segment}
use Rattle.curve.specs.Basis.{mixes, is_printed, basis_at}
use Rattle.curve.proofs.Segments.{segment_in}

-- Which basis it is, by the tests in their order.
module _ (ds : List ℕ) (c : Curves) (d : ℕ) where
  pub basis_start : d < get_or ds 0 0 → Start ≡ basis_at ds c d
  unfolding basis_at
  basis_start h = simp (lt-ltb d (get_or ds 0 0) h)

  module _ (from : get_or ds 0 0 ≤ d) where
    pub basis_held : get_or ds (length ds - 1) 0 < d → Held ≡ basis_at ds c d
    unfolding basis_at
    basis_held h = simp (le-ltb d (get_or ds 0 0) from, lt-ltb (get_or ds (length ds - 1) 0) d h)

    module _ (to : d ≤ get_or ds (length ds - 1) 0) where
      pub within : basis_at ds c d ≡ cond (is_printed ds d && not (mixes c)) Printed Between
      unfolding basis_at
      within = simp (le-ltb d (get_or ds 0 0) from, le-ltb (get_or ds (length ds - 1) 0) d to)

      module _ {mixed : Bool} (told : mixed ≡ mixes c) where
        module _ (alone : mixed ≡ false) {k : ℕ} (at : k ≡ segment ds d) where
          pub basis_printed : get_or ds k 0 ≡ d → Printed ≡ basis_at ds c d
          basis_printed e = sym (within ∙ simp (eq-eqb (get_or ds (segment ds d) 0) d (rw at at e), sym told ∙ alone))

-- A depth up to the last has its place in the sheet.
pub basis_place : (ds : List ℕ) (d : ℕ) {k : ℕ} → 1 ≤ length ds → d ≤ get_or ds (length ds - 1) 0 → k ≡ segment ds d → k < length ds
basis_place ds d some to e = rw e (segment_in ds some d to)
