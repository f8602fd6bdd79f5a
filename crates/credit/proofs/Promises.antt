-- Rules, "The three demands": the promises of the second and the third, proved: a granted answer opens the way to its figures, and
-- the laws of the two depths compare them.
-- Assumes nothing.
use Rattle.std.specs.Prelude.{Ok}
use Prim.Native.Nat.{ℕ, ◌≤◌, ◌<◌}
use mathlib.Core.Logic.{⊎_elim}
use mathlib.Core.Path.{◌≡◌, refl, ◌∙◌, ap}
use native.Mathlib.Nat.{le_refl, le_trans, lt_of_le_of_lt}
use native.Mathlib.Omega.{arith}
use Rattle.laws.proofs.Order.{lt_or_le}
use Rattle.refusal.specs.declared.Refusal.TheVariants.{TargetUnreachable}
use Rattle.refusal.specs.Refusal.{number_of, granted}
use Rattle.units.specs.declared.Nutrient.{Nutrient}
use Rattle.units.specs.Limits.{largest, highest_depth}
use Rattle.site.specs.declared.Site.{Site}
use Rattle.site.specs.Parts.{parts_of}
use Rattle.loads.specs.Rates as rates
use Rattle.loads.specs.Loads.{load_of}
use Rattle.loads.proofs.Answers.{removed_mono}
use Rattle.volume.specs.Volume.{volume_of, depth_of}
use Rattle.volume.proofs.Rising.{volume_rises}
use Rattle.volume.proofs.Reaching.{depth_on_grid}
use Rattle.curve.specs.declared.Mode.{Mode}
use Rattle.curve.proofs.Promises.{never_falls_with_rate, finds_the_least}
use Rattle.curve.specs.Curve.{depth_reaching}
use Rattle.credit.specs.Credit.{figures_of}
use Rattle.credit.specs.Answers.{Sheet, credit, size, answer_of, given, published}
use Rattle.site.proofs.Promises as site
use Rattle.site.proofs.Alike.{past_count_unread as record-past-count}
use Rattle.published.proofs.FasterRates.{none_falls_with_rate}
use Rattle.credit.specs.Promises.{depths_in, rates_in, percents_in, percent_on, basis_on, CreditIsByTheTables, SizeIsByTheTables, MoreStorageNeverLess, HigherTargetNeverSmaller, SizedIsLeast, UnreachableExactly, FasterSoilNeverLess, FasterSoilOnTheTables, SizingAgrees, PastCountUnread, BySubAreasAlone}
use Rattle.credit.proofs.Depths.{depth_mono, depth_below, depth_back, before_reaching, reaching_mono, reaching_on_grid, reaching_reaches}
use Rattle.credit.proofs.Opening.{Open, granted_opens, credit_within, credit_is, size_within, size_is, size_unreachable, percent_mono}

pub credit_is_by_the_tables : CreditIsByTheTables
credit_is_by_the_tables sheet n s mode r v g =
    let o : Open sheet n s mode r = granted_opens (credit v) g in
    rw (credit_is o v (credit_within o v g)) (refl, refl, refl, refl, refl, refl)

pub size_is_by_the_tables : SizeIsByTheTables
size_is_by_the_tables sheet n s mode r target g =
    let o : Open sheet n s mode r = granted_opens (size target) g in
    let l = size_within o target g in
    rw (size_is o target l.0 l.1)
    (refl, finds_the_least (depths_in sheet) (rates_in sheet n) (percents_in sheet n) mode r target o.accepted l.1, refl, refl, refl, refl)

pub more_storage_never_less : MoreStorageNeverLess
more_storage_never_less sheet n s mode r v w h g k =
    let o : Open sheet n s mode r = granted_opens (credit v) g in
    let p = percent_mono o (depth_of (parts_of s) v) (depth_of (parts_of s) w) (depth_mono (parts_of s) v w h) in
    rw (credit_is o v (credit_within o v g), credit_is o w (credit_within o w k))
    (p, removed_mono (load_of (rates.export_rates n) (parts_of s)) _ _ p)

pub higher_target_never_smaller : HigherTargetNeverSmaller
higher_target_never_smaller sheet n s mode r t u h g k =
    let o : Open sheet n s mode r = granted_opens (size t) g in
    let l = size_within o t g in
    let m = size_within o u k in
    rw (size_is o t l.0 l.1, size_is o u m.0 m.1)
    (volume_rises (parts_of s) _ _ (reaching_mono (percent_on sheet n mode r) t u h) (reaching_on_grid (percent_on sheet n mode r) u m.1))

pub faster_soil_never_less : FasterSoilNeverLess
faster_soil_never_less sheet n s mode r q v faster h g k =
    let o : Open sheet n s mode r = granted_opens (credit v) g in
    let p : Open sheet n s mode q = granted_opens (credit v) k in
    rw (credit_is o v (credit_within o v g), credit_is p v (credit_within p v k))
    (never_falls_with_rate (depths_in sheet) (rates_in sheet n) (percents_in sheet n) faster mode r q (depth_of (parts_of s) v) o.accepted p.accepted h)

module _ {sheet : Sheet} {n : Nutrient} {s : Site} {mode : Mode} {r : ℕ} (o : Open sheet n s mode r) where
  -- V at a depth of the grid is a volume that is credited,
  volume_within : (d : ℕ) → d ≤ highest_depth → volume_of (parts_of s) d ≤ largest
  volume_within d h = le_trans (volume_rises (parts_of s) d highest_depth h (le_refl highest_depth)) o.within.volumes_within

  -- with the percent of that depth.
  volume_is : (d : ℕ) → d ≤ highest_depth
      → answer_of sheet (credit (volume_of (parts_of s) d)) n s mode r
      ≡ Ok (figures_of (load_of (rates.export_rates n) (parts_of s)) d (percent_on sheet n mode r d) (basis_on sheet n mode r d) (volume_of (parts_of s) d))
  volume_is d h =
      credit_is o (volume_of (parts_of s) d) (volume_within d h) ∙ rw (depth_back (parts_of s) d o.within.some_impervious h)

pub sizing_agrees : SizingAgrees
sizing_agrees sheet n s mode r target g =
    let o : Open sheet n s mode r = granted_opens (size target) g in
    let l = size_within o target g in
    rw (size_is o target l.0 l.1)
    (ap given (volume_is o (depth_reaching (percent_on sheet n mode r) target) (reaching_on_grid (percent_on sheet n mode r) target l.1)))

pub sized_is_least : SizedIsLeast
sized_is_least sheet n s mode r target g =
    let o : Open sheet n s mode r = granted_opens (size target) g in
    let l = size_within o target g in
    let e = size_is o target l.0 l.1 in
    let k = reaching_on_grid (percent_on sheet n mode r) target l.1 in
    let found = depth_reaching (percent_on sheet n mode r) target in
    rw (sizing_agrees sheet n s mode r target g)
    (rw e (
      refl,
      reaching_reaches (percent_on sheet n mode r) target l.1,
      λ v h.
          let w = volume_within o found k in
          rw (credit_is o v (omega arith))
          (refl, before_reaching (percent_on sheet n mode r) target (depth_of (parts_of s) v) (depth_below (parts_of s) found v h)),
    ))

pub unreachable_exactly : UnreachableExactly
unreachable_exactly sheet n s mode r target h g =
    let o : Open sheet n s mode r = granted_opens (credit 0) g in (
      λ v l. rw (credit_is o v l),
      (
        λ e v l.
            rw (credit_is o v l)
            (⊎_elim
            (λ (k : percent_on sheet n mode r highest_depth < target).
            lt_of_le_of_lt (percent_mono o (depth_of (parts_of s) v) highest_depth (depth_on_grid (parts_of s) v)) k)
            (λ (k : target ≤ percent_on sheet n mode r highest_depth).
            let z : granted ≡ number_of TargetUnreachable = rw (size_is o target h k) at e in
            absurd (omega arith))
            (lt_or_le (percent_on sheet n mode r highest_depth) target)),
        λ below.
            rw (size_unreachable o target h (rw (volume_is o highest_depth (le_refl highest_depth)) at
            (below (volume_of (parts_of s) highest_depth) (volume_within o highest_depth (le_refl highest_depth))))),
      ),
    )

pub faster_soil_on_the_tables : FasterSoilOnTheTables
faster_soil_on_the_tables practice n s mode r q v =
    faster_soil_never_less (published practice) n s mode r q v (none_falls_with_rate practice n)

pub past_count_unread : PastCountUnread
unfolding answer_of
past_count_unread sheet wanted n s t mode r a = rw ((record-past-count s t a).0, a.parts)

pub by_sub_areas_alone : BySubAreasAlone
unfolding answer_of
by_sub_areas_alone sheet wanted n s t mode r a = rw ((site.by_sub_areas_alone s t a).0, a.parts)
