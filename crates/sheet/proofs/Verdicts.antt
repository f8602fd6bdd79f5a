-- Laws of the verdict: what each list's offending place makes of it.
-- Assumes nothing.
use Prim.Native.Nat.{ℕ, ◌≤◌, ◌<◌}
use mathlib.Core.Bool.{Bool, true, false, not}
use mathlib.Core.List.{List}
use mathlib.Core.Path.{◌≡◌, sym, ◌∙◌}
use lib.ListN.{length}
use borrow.Author.Tests.{lt-ltb, le-ltb, not-true, not-false}
use Rattle.sheet.specs.declared.Part.TheVariants.{Lengths, Depths, Rates, Percents}
use Rattle.sheet.specs.Sheet.{lengths_fit, offending_depth, offending_rate, offending_percent, unfit, verdict_of}

module _ (ds rs ps : List ℕ) {b : Bool} (told : b ≡ lengths_fit (length ds) (length rs) (length ps)) where
  pub unfit_lengths : not b ≡ true → unfit Lengths 0 ≡ verdict_of ds rs ps
  unfolding verdict_of
  unfit_lengths e = simp (sym told ∙ not-true b e)

  module _ (e : not b ≡ false) {d : ℕ} (at-d : d ≡ offending_depth ds) where
    pub unfit_depths : d < length ds → unfit Depths d ≡ verdict_of ds rs ps
    unfolding verdict_of
    unfit_depths h = rw at-d (simp (sym told ∙ not-false b e, lt-ltb (offending_depth ds) (length ds) (rw at-d at h)))

    module _ (past-d : length ds ≤ d) {r : ℕ} (at-r : r ≡ offending_rate rs) where
      pub unfit_rates : r < length rs → unfit Rates r ≡ verdict_of ds rs ps
      unfolding verdict_of
      unfit_rates h =
          rw at-r
          (simp (sym told ∙ not-false b e, le-ltb (offending_depth ds) (length ds) (rw at-d at past-d), lt-ltb (offending_rate rs) (length rs) (rw at-r at h)))

      module _ (past-r : length rs ≤ r) {p : ℕ} (at_p : p ≡ offending_percent (length ds) ps) where
        pub unfit_percents : p < length ps → unfit Percents p ≡ verdict_of ds rs ps
        unfolding verdict_of
        unfit_percents h =
            rw at_p
            (simp (
              sym told ∙ not-false b e,
              le-ltb (offending_depth ds) (length ds) (rw at-d at past-d),
              le-ltb (offending_rate rs) (length rs) (rw at-r at past-r),
              lt-ltb (offending_percent (length ds) ps) (length ps) (rw at_p at h),
            ))
