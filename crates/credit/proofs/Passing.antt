-- A granted answer passed each of its tests, and where each passes the answer is the one that is granted.
-- Assumes nothing.
use Prim.Native.Nat.{ℕ, ◌≤◌, ◌<◌}
use mathlib.Core.Bool.{Bool, true, false}
use mathlib.Core.List.{List, [], ◌∷◌}
use mathlib.Core.Path.{◌≡◌, refl, ◌∙◌}
use lib.Dec.{leb}
use borrow.Author.Tests.{leb-true, le-leb, lt-leb, ltb-true, lt-ltb}
use Rattle.std.specs.Prelude.{Ok}
use Rattle.laws.specs.Turn.{in_turn}
use Rattle.refusal.proofs.Numbers.{refusal_not_granted}
use Rattle.refusal.specs.declared.Refusal.{Refusal}
use Rattle.refusal.specs.declared.Refusal.TheVariants.{TargetUnreachable}
use Rattle.refusal.specs.Refusal.{granted}
use Rattle.units.specs.Limits.{largest, most_percent, highest_depth}
use Rattle.volume.specs.Volume.{depth_within}
use Rattle.curve.specs.declared.Basis.{Basis}
use Rattle.curve.specs.Curve.{depth_reaching}
use Rattle.curve.specs.Answers.{refused}
use Rattle.credit.specs.Credit.{CreditAnswer, figures_of, tried, credit_by, size_by}
use Rattle.credit.specs.Answers.{given}

-- each of the tests passes
abbrev pub Pass : List (Bool × Refusal) → Type 0
Pass [] = Unit {0}
Pass ((passes, why) ∷ tests) = (passes ≡ true) × Pass tests

-- Tests in turn that end in a granted answer all pass, and what they go on to is granted.
pub granted_pass : (a : CreditAnswer) (tests : List (Bool × Refusal)) → (given (in_turn refused a tests)).answer ≡ granted
    → Pass tests × ((given a).answer ≡ granted)
granted_pass a [] g = (tt, g)
granted_pass a ((true, why) ∷ tests) g =
    let p = granted_pass a tests g in
    ((refl, p.0), p.1)
granted_pass a ((false, why) ∷ tests) g = absurd (refusal_not_granted why g)

-- What crediting and sizing ask of a site alike: 8 and 15.
pub record Within (load impervious : ℕ) (volume_at : ℕ → ℕ) : Type 0 where
  pub some_impervious : 0 < impervious
  pub load_within : load ≤ largest
  pub volumes_within : volume_at highest_depth ≤ largest

module _ (load impervious : ℕ) (volume_at percent_at : ℕ → ℕ) (basis_at : ℕ → Basis) where
  module _ (a : CreditAnswer) (amount : Bool) (rest : List (Bool × Refusal)) where
    all_passed : (given (in_turn refused a (tried load impervious volume_at amount rest))).answer ≡ granted → Within load impervious volume_at × (amount ≡ true) × Pass rest
    all_passed g =
        let p = (granted_pass a (tried load impervious volume_at amount rest) g).0 in (
          record {
            some_impervious = ltb-true 0 impervious p.0;
            load_within = leb-true load largest p.1.1.0;
            volumes_within = leb-true (volume_at highest_depth) largest p.1.1.1.0;
          },
          p.1.0,
          p.1.1.1.1,
        )

    rest_decides : Within load impervious volume_at → amount ≡ true → in_turn refused a (tried load impervious volume_at amount rest) ≡ in_turn refused a rest
    rest_decides w e =
        simp (
          lt-ltb 0 impervious w.some_impervious,
          e,
          le-leb load largest w.load_within,
          le-leb (volume_at highest_depth) largest w.volumes_within,
        )

  -- Crediting is granted where 8, 9 and 15 pass, and nowhere else.
  module _ (v : ℕ) where
    abbrev pub credited : CreditAnswer
    credited = Ok (figures_of load (depth_within volume_at v) (percent_at (depth_within volume_at v)) (basis_at (depth_within volume_at v)) v)

    pub credit_passed : (given (credit_by load impervious volume_at percent_at basis_at v)).answer ≡ granted → Within load impervious volume_at × (v ≤ largest)
    unfolding credit_by
    credit_passed g =
        let p = all_passed credited (leb v largest) [] g in
        (p.0, leb-true v largest p.1)

    pub credit_works : Within load impervious volume_at → v ≤ largest → credit_by load impervious volume_at percent_at basis_at v ≡ credited
    unfolding credit_by
    credit_works w h = rest_decides credited (leb v largest) [] w (le-leb v largest h)

  -- Sizing is granted where 10 passes too, and nowhere else.
  module _ (target : ℕ) where
    abbrev pub sized : CreditAnswer
    sized =
        Ok
        (figures_of load (depth_reaching percent_at target) (percent_at (depth_reaching percent_at target)) (basis_at (depth_reaching percent_at target)) (volume_at (depth_reaching percent_at target)))

    abbrev pub reached : List (Bool × Refusal)
    reached = (leb target (percent_at highest_depth), TargetUnreachable) ∷ []

    pub size_passed : (given (size_by load impervious volume_at percent_at basis_at target)).answer ≡ granted
        → Within load impervious volume_at × (target ≤ most_percent) × (target ≤ percent_at highest_depth)
    unfolding size_by
    size_passed g =
        let p = all_passed sized (leb target most_percent) reached g in
        (p.0, leb-true target most_percent p.1, leb-true target (percent_at highest_depth) p.2.0)

    module _ (w : Within load impervious volume_at) (h : target ≤ most_percent) where
      pub size_works : target ≤ percent_at highest_depth → size_by load impervious volume_at percent_at basis_at target ≡ sized
      unfolding size_by
      size_works l =
          rest_decides sized (leb target most_percent) reached w (le-leb target most_percent h)
          ∙ simp (le-leb target (percent_at highest_depth) l)

      pub size_short : percent_at highest_depth < target → size_by load impervious volume_at percent_at basis_at target ≡ refused TargetUnreachable
      unfolding size_by
      size_short l =
          rest_decides sized (leb target most_percent) reached w (le-leb target most_percent h)
          ∙ simp (lt-leb target (percent_at highest_depth) l)
