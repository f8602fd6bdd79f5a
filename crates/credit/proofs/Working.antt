-- Laws of crediting and sizing on six areas: the answers of the calls below, put together, are the definitions' answers.
-- Assumes nothing.
use Rattle.std.specs.Prelude.{Result, Ok, Err, Option, Some, None}
use Prim.Native.Nat.{ℕ, ◌≤◌, ◌<◌}
use mathlib.Core.Bool.{Bool, true, false}
use mathlib.Core.List.{List, [], ◌∷◌}
use mathlib.Core.Path.{◌≡◌, refl, sym, ◌∙◌, ap}
use native.Mathlib.Omega.{arith}
use lib.Dec.{leb}
use borrow.Author.Tests.{le-leb, lt-leb, lt-ltb, le-ltb}
use Rattle.laws.specs.Turn.{in_turn}
use Rattle.refusal.specs.declared.Refusal.{Refusal}
use Rattle.refusal.specs.declared.Refusal.TheVariants.{NoImperviousArea, AmountOutOfRange, PastLargest, TargetUnreachable}
use Rattle.units.specs.declared.Area.{Area}
use Rattle.units.specs.declared.Depth.{Depth}
use Rattle.units.specs.declared.Load.{Load}
use Rattle.units.specs.declared.Percent.{Percent}
use Rattle.units.specs.declared.Volume.{Volume}
use Rattle.units.specs.Limits.{most_area, largest, most_percent, highest_depth}
use Rattle.curve.specs.declared.Basis.{Basis}
use Rattle.curve.specs.declared.Basis.TheVariants as basis
use Rattle.curve.specs.Answers.{refused}
use Rattle.loads.specs.Loads as loads
use Rattle.loads.proofs.Answers.{removed_granted}
use Rattle.volume.specs.Areas.{area_at, total_of, within_limit, volume_from}
use Rattle.volume.specs.Answers.{depth_on, volume_on}
use Rattle.credit.specs.declared.Figures.{Figures}
use Rattle.credit.specs.declared.Survey.{Survey}
use Rattle.volume.specs.Volume.{depth_within}
use Rattle.credit.specs.Credit.{CreditAnswer, figures_of, credit_by}
use Rattle.credit.specs.Inner.{Work, Within, sized_at, sized_by}

-- The removed load of a load and a percent within their limits.
removed_told : (l : Load) (p : Percent) (found : Result Load Refusal) → (l.0 ≤ largest) × (p.0 ≤ most_percent) → found ≡ loads.removed_answer l.0 p.0
    → found ≡ Ok (record { 0 = loads.removed_of l.0 p.0 })
removed_told l p found h e = e ∙ sym (removed_granted l.0 p.0 h.1 h.0)

pub figures_told : (l : Load) (d : Depth) (p : Percent) (b : Basis) (v : Volume) (found : Result Load Refusal) (x : Load) → (l.0 ≤ largest) × (p.0 ≤ most_percent)
    → found ≡ loads.removed_answer l.0 p.0 → found ≡ Ok x
    → record { load = l; depth = d; percent = p; basis = b; volume = v; removed = x } ≡ figures_of l.0 d.0 p.0 b v.0
figures_told l d p b v found x h e f =
    let q : x.0 ≡ loads.removed_of l.0 p.0 = ap (λ (a : Result Load Refusal). (loads.given a).1) (sym f ∙ removed_told l p found h e) in
    ap (λ (n : ℕ). figures_with l d p b v n) q
  where
    figures_with : Load → Depth → Percent → Basis → Volume → ℕ → Figures
    figures_with l d p b v n = record { load = l; depth = d; percent = p; basis = b; volume = v; removed = record { 0 = n } }

pub never_refused : (l : Load) (p : Percent) (found : Result Load Refusal) (why : Refusal) → (l.0 ≤ largest) × (p.0 ≤ most_percent)
    → found ≡ loads.removed_answer l.0 p.0 → found ≡ Err why → ⊥
never_refused l p found why h e f =
    let t = removed_told l p found h e in
    let z : ◌≡◌ {A = ℕ} 0 1 = cc in
    omega arith

-- A refusal of the depth, or what is made of it.
abbrev by_depth : (Depth → CreditAnswer) → Result Depth Refusal → CreditAnswer
by_depth onward (Ok d) = onward d
by_depth onward (Err why) = refused why

abbrev by_volume : (Volume → CreditAnswer) → Result Volume Refusal → CreditAnswer
by_volume onward (Ok v) = onward v
by_volume onward (Err why) = refused why

-- 9 and 15 are the depth's own.
turned_depth : (b c : Bool) (onward : Depth → CreditAnswer) (d : Depth)
    → by_depth onward (in_turn Err (Ok d) ((b, AmountOutOfRange) ∷ (c, PastLargest) ∷ []))
    ≡ in_turn refused (onward d) ((b, AmountOutOfRange) ∷ (c, PastLargest) ∷ [])
turned_depth true true onward d = refl
turned_depth true false onward d = refl
turned_depth false c onward d = refl

turned_volume : (c : Bool) (onward : Volume → CreditAnswer) (v : Volume)
    → by_volume onward (in_turn Err (Ok v) ((c, PastLargest) ∷ [])) ≡ in_turn refused (onward v) ((c, PastLargest) ∷ [])
turned_volume true onward v = refl
turned_volume false onward v = refl

-- What a survey knows, with a percent within its limit.
pub ready : (s : Survey) (p : ℕ) → p ≤ most_percent → Work s.areas.of s.load.0 p
ready s p h = record { areas = s.six; fits = s.fits; whole = h }

module _ (xs : List Area) (l p : ℕ) (w : Work xs l p) (b : Basis) where
  within : within_limit xs ≡ true
  within = le-leb (total_of xs) most_area w.areas.small

  -- Without impervious area nothing is credited or sized.
  pub credit_dry : (v : ℕ) → area_at xs 0 < 1 → refused NoImperviousArea ≡ credit_by l (area_at xs 0) (volume_from xs) (λ d. p) (λ d. b) v
  unfolding credit_by
  credit_dry v h =
      let z : area_at xs 0 ≤ 0 = omega arith in
      simp (le-ltb 0 (area_at xs 0) z)

  by_depth_lem : (v : Volume) → 1 ≤ area_at xs 0
      → by_depth (λ d. Ok (figures_of l d.0 p b v.0)) (depth_on xs v) ≡ credit_by l (area_at xs 0) (volume_from xs) (λ d. p) (λ d. b) v.0
  unfolding credit_by depth_on
  by_depth_lem v h =
      simp (within, lt-ltb 0 (area_at xs 0) h, le-leb l largest w.fits)
      (turned_depth (leb v.0 largest) (leb (volume_from xs highest_depth) largest) (λ d. Ok (figures_of l d.0 p b v.0))
      (record { 0 = depth_within (volume_from xs) v.0 }))

  pub credit_granted : (v : Volume) (reached : Result Depth Refusal) (d : Depth) (f : Figures) → 1 ≤ area_at xs 0 → reached ≡ depth_on xs v → reached ≡ Ok d
      → f ≡ figures_of l d.0 p b v.0 → Ok f ≡ credit_by l (area_at xs 0) (volume_from xs) (λ d. p) (λ d. b) v.0
  credit_granted v reached d f h e g k =
      ap Ok k ∙ ap (by_depth (λ d. Ok (figures_of l d.0 p b v.0))) (sym g ∙ e) ∙ by_depth_lem v h

  pub credit_refused : (v : Volume) (reached : Result Depth Refusal) (why : Refusal) → 1 ≤ area_at xs 0 → reached ≡ depth_on xs v → reached ≡ Err why
      → refused why ≡ credit_by l (area_at xs 0) (volume_from xs) (λ d. p) (λ d. b) v.0
  credit_refused v reached why h e g = ap (by_depth (λ d. Ok (figures_of l d.0 p b v.0))) (sym g ∙ e) ∙ by_depth_lem v h

  pub size_dry : (t d : ℕ) (reached : Bool) → area_at xs 0 < 1 → refused NoImperviousArea ≡ sized_at l (area_at xs 0) (volume_from xs) t d p b reached
  unfolding sized_at
  size_dry t d reached h =
      let z : area_at xs 0 ≤ 0 = omega arith in
      simp (le-ltb 0 (area_at xs 0) z)

  pub size_out : (t d : ℕ) (reached : Bool) → 1 ≤ area_at xs 0 → most_percent < t → refused AmountOutOfRange ≡ sized_at l (area_at xs 0) (volume_from xs) t d p b reached
  unfolding sized_at
  size_out t d reached h k = simp (lt-ltb 0 (area_at xs 0) h, lt-leb t most_percent k)

  -- what follows V: 10 where the target is not reached
  outcome : ℕ → Bool → Volume → CreditAnswer
  outcome d reached v = in_turn refused (Ok (figures_of l d p b v.0)) ((reached, TargetUnreachable) ∷ [])

  by_volume_lem : (t : ℕ) (d : Depth) (reached : Bool) → 1 ≤ area_at xs 0 → t ≤ most_percent → d.0 ≤ highest_depth
      → by_volume (outcome d.0 reached) (volume_on xs d) ≡ sized_at l (area_at xs 0) (volume_from xs) t d.0 p b reached
  unfolding sized_at volume_on outcome
  by_volume_lem t d reached h k g =
      simp (within, lt-ltb 0 (area_at xs 0) h, le-leb l largest w.fits, le-leb t most_percent k, le-leb d.0 highest_depth g)
      (turned_volume (leb (volume_from xs highest_depth) largest) (outcome d.0 reached) (record { 0 = volume_from xs d.0 }))

  pub size_granted : (t : ℕ) (d : Depth) (v : Volume) (found : Result Volume Refusal) (f : Figures) {reached : Bool} → 1 ≤ area_at xs 0 → t ≤ most_percent → d.0 ≤ highest_depth
      → found ≡ volume_on xs d → found ≡ Ok v → f ≡ figures_of l d.0 p b v.0 → reached ≡ true
      → Ok f ≡ sized_at l (area_at xs 0) (volume_from xs) t d.0 p b reached
  unfolding outcome
  size_granted t d v found f h k g e n q r =
      rw r (ap Ok q ∙ ap (by_volume (outcome d.0 true)) (sym n ∙ e) ∙ by_volume_lem t d true h k g)

  pub size_unreached : (t : ℕ) (d : Depth) (v : Volume) (found : Result Volume Refusal) {reached : Bool} → 1 ≤ area_at xs 0 → t ≤ most_percent → d.0 ≤ highest_depth
      → found ≡ volume_on xs d → found ≡ Ok v → reached ≡ false → refused TargetUnreachable ≡ sized_at l (area_at xs 0) (volume_from xs) t d.0 p b reached
  unfolding outcome
  size_unreached t d v found h k g e n r = rw r (ap (by_volume (outcome d.0 false)) (sym n ∙ e) ∙ by_volume_lem t d false h k g)

  pub size_refused : (t : ℕ) (d : Depth) (found : Result Volume Refusal) (why : Refusal) (reached : Bool) → 1 ≤ area_at xs 0 → t ≤ most_percent → d.0 ≤ highest_depth
      → found ≡ volume_on xs d → found ≡ Err why → refused why ≡ sized_at l (area_at xs 0) (volume_from xs) t d.0 p b reached
  size_refused t d found why reached h k g e n = ap (by_volume (outcome d.0 reached)) (sym n ∙ e) ∙ by_volume_lem t d reached h k g

-- The same of a sizing at the depth that was found, or at none.
module _ (s : Survey) (t : ℕ) where
  pub dry_by : (found : Option (Depth × Percent × Basis)) → Within found → area_at s.areas.of 0 < 1
      → refused NoImperviousArea ≡ sized_by s.load.0 (area_at s.areas.of 0) (volume_from s.areas.of) t found
  dry_by (Some (d, p, b)) w h = size_dry _ _ _ (ready s p.0 w.1) b t d.0 true h
  dry_by None w h = size_dry _ _ _ (ready s 0 (omega arith)) basis.None t highest_depth false h

  pub out_by : (found : Option (Depth × Percent × Basis)) → Within found → 1 ≤ area_at s.areas.of 0 → most_percent < t
      → refused AmountOutOfRange ≡ sized_by s.load.0 (area_at s.areas.of 0) (volume_from s.areas.of) t found
  out_by (Some (d, p, b)) w h k = size_out _ _ _ (ready s p.0 w.1) b t d.0 true h k
  out_by None w h k = size_out _ _ _ (ready s 0 (omega arith)) basis.None t highest_depth false h k
