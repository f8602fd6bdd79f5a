-- Rules, "Curve sheets": crediting and sizing, by the site's load, its impervious area and its V, and by the percent at each depth
-- with its basis.
-- Assumes nothing.
use Rattle.std.specs.Prelude.{ℕ, Bool, List, [], ◌∷◌, leb, ltb, Result, Ok}
use Rattle.laws.specs.Turn.{in_turn}
use Rattle.refusal.specs.declared.Refusal.{Refusal}
use Rattle.refusal.specs.declared.Refusal.TheVariants.{NoImperviousArea, AmountOutOfRange, PastLargest, TargetUnreachable}
use Rattle.units.specs.Limits.{largest, most_percent, highest_depth}
use Rattle.loads.specs.Loads.{removed_of}
use Rattle.volume.specs.Volume.{depth_within}
use Rattle.curve.specs.declared.Basis.{Basis}
use Rattle.curve.specs.declared.SheetError.{SheetError}
use Rattle.curve.specs.Curve.{depth_reaching}
use Rattle.curve.specs.Answers.{refused}
use Rattle.credit.specs.declared.Figures.{Figures}

-- the figures that are granted, or why they are refused
abbrev pub CreditAnswer : Type 0
CreditAnswer = Result Figures SheetError

-- the figures of a granted answer, in the order in which they are printed
abbrev pub figures : ℕ → ℕ → ℕ → Basis → ℕ → ℕ → Figures
figures load depth percent basis volume removed =
    record {
      load = record { 0 = load };
      depth = record { 0 = depth };
      percent = record { 0 = percent };
      basis = basis;
      volume = record { 0 = volume };
      removed = record { 0 = removed };
    }

-- the removed load is worked out from the percent that is given
abbrev pub figures_of : ℕ → ℕ → ℕ → Basis → ℕ → Figures
figures_of load depth percent basis volume = figures load depth percent basis volume (removed_of load percent)

-- What both amounts try of a site, in this order: 8, 9 where the amount is out of its own range, 15, and what comes last.
abbrev pub tried : ℕ → ℕ → (ℕ → ℕ) → Bool → List (Bool × Refusal) → List (Bool × Refusal)
tried load impervious volume_at in_range last =
    (ltb 0 impervious, NoImperviousArea)
    ∷ (in_range, AmountOutOfRange)
    ∷ (leb load largest, PastLargest)
    ∷ (leb (volume_at highest_depth) largest, PastLargest)
    ∷ last

-- Crediting: depth of the volume, then the percent and its basis.
unfoldable pub credit_by : ℕ → ℕ → (ℕ → ℕ) → (ℕ → ℕ) → (ℕ → Basis) → ℕ → CreditAnswer
credit_by load impervious volume_at percent_at basis_at v =
    let d = depth_within volume_at v in
    in_turn refused (Ok (figures_of load d (percent_at d) (basis_at d) v))
    (tried load impervious volume_at (leb v largest) [])

-- Sizing: the least grid depth whose percent is at least the target, with that percent and its basis, then V. Last comes 10: a target above the percent at depth 200.
unfoldable pub size_by : ℕ → ℕ → (ℕ → ℕ) → (ℕ → ℕ) → (ℕ → Basis) → ℕ → CreditAnswer
size_by load impervious volume_at percent_at basis_at target =
    let d = depth_reaching percent_at target in
    in_turn refused (Ok (figures_of load d (percent_at d) (basis_at d) (volume_at d)))
    (tried load impervious volume_at (leb target most_percent) ((leb target (percent_at highest_depth), TargetUnreachable) ∷ []))
