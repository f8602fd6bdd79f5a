-- Laws of crediting and sizing on a sheet: what the percent at a depth, or the least depth of a target, tells of 5, 6 and 7.
-- Assumes nothing.
use Rattle.std.specs.Prelude.{Result, Ok, Err}
use Prim.Native.Nat.{ℕ, ◌≤◌}
use mathlib.Core.Bool.{Bool, true, false}
use mathlib.Core.List.{List, [], ◌∷◌}
use mathlib.Core.Path.{◌≡◌, refl, sym, ◌∙◌, ap, subst}
use native.Mathlib.Omega.{arith}
use lib.Dec.{leb, ltb}
use borrow.Author.Tests.{le-leb, leb-true, le-ltb}
use Rattle.laws.specs.Turn.{in_turn}
use Rattle.laws.proofs.First.{fails_so_below}
use Rattle.refusal.specs.declared.Refusal.{Refusal}
use Rattle.refusal.specs.declared.Refusal.TheVariants.{NoImperviousArea, AmountOutOfRange, PastLargest, TargetUnreachable, TotalAreaPassed}
use Rattle.units.specs.declared.Area.{Area}
use Rattle.units.specs.declared.Depth.{Depth}
use Rattle.units.specs.declared.Percent.{Percent}
use Rattle.units.specs.declared.Volume.{Volume}
use Rattle.units.specs.Limits.{most_area, largest, most_percent, highest_depth, grid_depths}
use Rattle.volume.specs.Areas.{area_at, total_of, within_limit, volume_from}
use Rattle.volume.specs.Inner.{Six}
use Rattle.volume.proofs.Reaching.{within_on_grid}
use Rattle.volume.specs.Answers.{depth_on}
use Rattle.curve.specs.declared.Mode.{Mode}
use Rattle.curve.specs.declared.Basis.{Basis}
use Rattle.curve.specs.declared.Basis.TheVariants.{None}
use Rattle.curve.specs.declared.Curves.{Curves}
use Rattle.curve.specs.declared.SheetError.{SheetError}
use Rattle.curve.specs.declared.Reached.{Reached}
use Rattle.curve.specs.declared.Reached.TheVariants as reach
use Rattle.curve.specs.Curve.{percent_at, depth_reaching}
use Rattle.curve.specs.Basis.{basis_at}
use Rattle.curve.specs.Answers as curve
use Rattle.curve.specs.Answers.{Admission, PercentAnswer, ReachAnswer, refused}
use Rattle.curve.proofs.Granting.{admitted_ready}
use Rattle.curve.proofs.Rising.{percent_most}
use Rattle.credit.specs.declared.Wanted.TheVariants.{Credit, Size}
use Rattle.volume.specs.Volume.{depth_within}
use Rattle.credit.specs.Credit.{CreditAnswer, figures_of, credit_by, size_by}
use Rattle.credit.specs.Answers.{worked, on_sheet}
use Rattle.credit.proofs.Admitting.{on_curves}
use Rattle.credit.specs.Inner.{Work, depth_in, sized_at}

-- The depth of an answer is on the grid.
kept_on_grid : (a b c : Bool) (x : Depth) → x.0 ≤ highest_depth
    → (depth_in (in_turn Err (Ok x) ((a, TotalAreaPassed) ∷ (b, AmountOutOfRange) ∷ (c, PastLargest) ∷ []))).0 ≤ highest_depth
kept_on_grid true true true x h = h
kept_on_grid true true false x h = omega arith
kept_on_grid true false c x h = omega arith
kept_on_grid false b c x h = omega arith

depth_on_grid : (xs : List Area) (v : Volume) → (depth_in (depth_on xs v)).0 ≤ highest_depth
unfolding depth_on
depth_on_grid xs v =
    let l = within_on_grid (volume_from xs) v.0 in
    kept_on_grid (within_limit xs) (leb v.0 largest) (leb (volume_from xs highest_depth) largest) (record { 0 = depth_within (volume_from xs) v.0 }) (omega arith)

-- Crediting looks at the percent only where 9 and 15 do not arise.
turn_same : (i b m c : Bool) {x y : CreditAnswer} → (b ≡ true → c ≡ true → x ≡ y)
    → in_turn refused x ((i, NoImperviousArea) ∷ (b, AmountOutOfRange) ∷ (m, PastLargest) ∷ (c, PastLargest) ∷ [])
    ≡ in_turn refused y ((i, NoImperviousArea) ∷ (b, AmountOutOfRange) ∷ (m, PastLargest) ∷ (c, PastLargest) ∷ [])
turn_same false b m c e = refl
turn_same true false m c e = refl
turn_same true true false c e = refl
turn_same true true true false e = refl
turn_same true true true true e = e refl refl

-- Where 9 and 15 do not arise, the depth of the answer is the depth of the volume.
depth_told : (xs : List Area) (v : Volume) → Six xs → leb v.0 largest ≡ true → leb (volume_from xs highest_depth) largest ≡ true
    → (depth_in (depth_on xs v)).0 ≡ depth_within (volume_from xs) v.0
unfolding depth_on
depth_told xs v s b c = simp (le-leb (total_of xs) most_area s.small, b, c)

credit_same : (xs : List Area) (l : ℕ) (v : Volume) (p : ℕ) (b : Basis) (f : ℕ → ℕ) (g : ℕ → Basis) → Six xs
    → p ≡ f (depth_in (depth_on xs v)).0 → b ≡ g (depth_in (depth_on xs v)).0
    → credit_by l (area_at xs 0) (volume_from xs) (λ d. p) (λ d. b) v.0 ≡ credit_by l (area_at xs 0) (volume_from xs) f g v.0
unfolding credit_by
credit_same xs l v p b f g s e h =
    turn_same (ltb 0 (area_at xs 0)) (leb v.0 largest) (leb l largest) (leb (volume_from xs highest_depth) largest)
    (λ i c. rw (e, h, depth_told xs v s i c))

-- The percent at a grid depth, by what 5, 6 and 7 leave.
abbrev percent_by : List ℕ → List ℕ → ℕ → Admission → PercentAnswer
percent_by ds ps d a = curve.after_admission (λ c. Ok (record { 0 = percent_at ds ps c d }, basis_at ds c d)) a

percent_by_lem : (ds rs ps : List ℕ) (mode : Mode) (r d : ℕ) → d ≤ highest_depth
    → curve.percent_answer ds rs ps mode r d ≡ percent_by ds ps d (curve.admission_of ds rs ps mode r)
unfolding curve.percent_answer
percent_by_lem ds rs ps mode r d h = simp (le-leb d highest_depth h)

told_pair : (x y : Percent × Basis) → ◌≡◌ {A = PercentAnswer} (Ok x) (Ok y) → y ≡ x
told_pair x y h = cc

module _ (onward : Curves → CreditAnswer) (ds ps : List ℕ) (d : ℕ) where
  refused_told : (a : Admission) (error : SheetError) → percent_by ds ps d a ≡ Err error → Err error ≡ on_curves onward a
  refused_told (Ok c) error e = cc
  refused_told (Err e) error f = cc

module _ (xs : List Area) (l : ℕ) (v : Volume) (ds rs ps : List ℕ) (mode : Mode) (r : ℕ) (reached : Result Depth Refusal) (d : Depth) (found : PercentAnswer)
    (w : Work xs l 0) (e : reached ≡ depth_on xs v) (g : d ≡ depth_in reached) (f : found ≡ curve.percent_answer ds rs ps mode r d.0) where
  told : percent_by ds ps (depth_in (depth_on xs v)).0 (curve.admission_of ds rs ps mode r) ≡ found
  told =
      sym
      (f ∙ ap (λ (k : Depth). curve.percent_answer ds rs ps mode r k.0) (g ∙ ap depth_in e)
      ∙ percent_by_lem ds rs ps mode r (depth_in (depth_on xs v)).0 (depth_on_grid xs v))

  pub credit_stopped : {error : SheetError} → found ≡ Err error → Err error ≡ on_sheet (Credit v) l (area_at xs 0) (volume_from xs) ds rs ps mode r
  unfolding on_sheet
  credit_stopped {error} h = refused_told _ ds ps _ (curve.admission_of ds rs ps mode r) error (told ∙ h)

  granted_by : (a : Admission) (p : Percent) (b : Basis) → percent_by ds ps (depth_in (depth_on xs v)).0 a ≡ Ok (p, b)
      → credit_by l (area_at xs 0) (volume_from xs) (λ d. p.0) (λ d. b) v.0
      ≡ on_curves (λ c. worked (Credit v) l (area_at xs 0) (volume_from xs) (percent_at ds ps c) (basis_at ds c)) a
  granted_by (Ok c) p b h =
      let k = told_pair _ _ h in
      credit_same xs l v p.0 b (percent_at ds ps c) (basis_at ds c) w.areas (ap (λ (q : Percent × Basis). q.0.0) k) (ap (λ (q : Percent × Basis). q.1) k)
  granted_by (Err error) p b h = cc

  pub credit_worked : (p : Percent) (b : Basis) (answer : CreditAnswer) → found ≡ Ok (p, b)
      → answer ≡ credit_by l (area_at xs 0) (volume_from xs) (λ d. p.0) (λ d. b) v.0
      → answer ≡ on_sheet (Credit v) l (area_at xs 0) (volume_from xs) ds rs ps mode r
  unfolding on_sheet
  credit_worked p b answer h k = k ∙ granted_by (curve.admission_of ds rs ps mode r) p b (told ∙ h)

  most_by : (a : Admission) (p : Percent) (b : Basis) → a ≡ curve.admission_of ds rs ps mode r → percent_by ds ps (depth_in (depth_on xs v)).0 a ≡ Ok (p, b) → p.0 ≤ most_percent
  most_by (Ok c) p b k h =
      subst (λ (n : ℕ). n ≤ most_percent) (ap (λ (x : PercentAnswer). (curve.given x).1) h)
      (percent_most (admitted_ready ds rs ps mode r (sym k)) (depth_in (depth_on xs v)).0)
  most_by (Err error) p b k h = let z : ◌≡◌ {A = ℕ} 0 1 = cc in absurd (omega arith)

  pub credit_ready : (p : Percent) (b : Basis) → found ≡ Ok (p, b) → Work xs l p.0
  credit_ready p b h =
      record { areas = w.areas; fits = w.fits; whole = most_by (curve.admission_of ds rs ps mode r) p b refl (told ∙ h) }

-- Where the target is above 100 percent or is not reached, the depth, the percent and the basis change nothing.
unreached_same : (i b m c : Bool) (x y : CreditAnswer) (last : List (Bool × Refusal)) → (b ≡ true → last ≡ (false, TargetUnreachable) ∷ [])
    → in_turn refused x ((i, NoImperviousArea) ∷ (b, AmountOutOfRange) ∷ (m, PastLargest) ∷ (c, PastLargest) ∷ (false, TargetUnreachable) ∷ [])
    ≡ in_turn refused y ((i, NoImperviousArea) ∷ (b, AmountOutOfRange) ∷ (m, PastLargest) ∷ (c, PastLargest) ∷ last)
unreached_same false b m c x y last e = refl
unreached_same true false m c x y last e = refl
unreached_same true true false c x y last e = refl
unreached_same true true true false x y last e = refl
unreached_same true true true true x y last e = rw (e refl)

missed_same : (l i : ℕ) (volume_at percent_at : ℕ → ℕ) (bases : ℕ → Basis) (t : ℕ) → (leb t most_percent ≡ true → leb t (percent_at highest_depth) ≡ false)
    → sized_at l i volume_at t highest_depth 0 None false ≡ size_by l i volume_at percent_at bases t
unfolding sized_at size_by
missed_same l i volume_at percent_at bases t e =
    unreached_same (ltb 0 i) (leb t most_percent) (leb l largest) (leb (volume_at highest_depth) largest)
    (Ok (figures_of l highest_depth 0 None (volume_at highest_depth)))
    (Ok (figures_of l (depth_reaching percent_at t) (percent_at (depth_reaching percent_at t)) (bases (depth_reaching percent_at t)) (volume_at (depth_reaching percent_at t))))
    ((leb t (percent_at highest_depth), TargetUnreachable) ∷ [])
    (λ b. ap (λ (x : Bool). (x, TargetUnreachable) ∷ []) (e b))

-- What the least depth of a target says, by the tests of 9 and 10.
abbrev least_by : (ℕ → ℕ) → (ℕ → Basis) → ℕ → Bool → Bool → Reached
least_by percent_at bases t high short = in_turn (λ why. why) (curve.least_found percent_at bases t) ((high, reach.TooHigh) ∷ (short, reach.Short) ∷ [])

module _ (percent_at : ℕ → ℕ) (bases : ℕ → Basis) (t : ℕ) where
  found_by_lem : (a b : Bool) (d : Depth) (p : Percent) (how : Basis) → least_by percent_at bases t a b ≡ reach.Found d p how
      → (b ≡ true)
      × (depth_reaching percent_at t ≡ d.0)
      × (percent_at (depth_reaching percent_at t) ≡ p.0)
      × (bases (depth_reaching percent_at t) ≡ how)
  found_by_lem false b d p how h = let z : ◌≡◌ {A = ℕ} 0 1 = cc in absurd (omega arith)
  found_by_lem true false d p how h = let z : ◌≡◌ {A = ℕ} 0 1 = cc in absurd (omega arith)
  found_by_lem true true d p how h = (refl, ap (λ (x : Reached). (curve.reach_given (Ok x)).1) h, ap (λ (x : Reached). (curve.reach_given (Ok x)).2) h, cc)

  short_by : (a b : Bool) → least_by percent_at bases t a b ≡ reach.Short → a ≡ true → b ≡ false
  short_by false b h e = cc
  short_by true false h e = refl
  short_by true true h e = cc

  high_by : (a b : Bool) → least_by percent_at bases t a b ≡ reach.TooHigh → a ≡ true → b ≡ false
  high_by false b h e = cc
  high_by true false h e = refl
  high_by true true h e = cc

module _ (xs : List Area) (l : ℕ) (t : Percent) (ds rs ps : List ℕ) (mode : Mode) (r : ℕ) (found : ReachAnswer) (w : Work xs l 0)
    (f : found ≡ curve.reach_of ds rs ps mode r t.0) where
  -- the least depth by what 5, 6 and 7 leave
  abbrev reach_by : Admission → ReachAnswer
  reach_by a =
      curve.after_admission
      (λ c. Ok (least_by (percent_at ds ps c) (basis_at ds c) t.0 (leb t.0 most_percent) (leb t.0 (percent_at ds ps c highest_depth))))
      a

  -- and the sizing
  abbrev sized_by : Admission → CreditAnswer
  sized_by a = on_curves (λ c. worked (Size t) l (area_at xs 0) (volume_from xs) (percent_at ds ps c) (basis_at ds c)) a

  told_by : reach_by (curve.admission_of ds rs ps mode r) ≡ found
  unfolding curve.reach_of
  told_by = sym f

  -- What is told is told of the curves.
  told_ok : (x y : Reached) → ◌≡◌ {A = ReachAnswer} (Ok x) (Ok y) → x ≡ y
  told_ok x y h = cc

  sized_by_lem : (a : Admission) (d : Depth) (p : Percent) (b : Basis) → reach_by a ≡ Ok (reach.Found d p b)
      → sized_at l (area_at xs 0) (volume_from xs) t.0 d.0 p.0 b true ≡ sized_by a
  unfolding sized_at size_by
  sized_by_lem (Ok c) d p b h =
      let k = found_by_lem (percent_at ds ps c) (basis_at ds c) t.0 (leb t.0 most_percent) (leb t.0 (percent_at ds ps c highest_depth)) d p b (told_ok _ _ h) in
      rw (k.0, ← k.1, ← k.2, ← k.3)
  sized_by_lem (Err error) d p b h = cc

  pub size_worked : (d : Depth) (p : Percent) (b : Basis) (answer : CreditAnswer) → found ≡ Ok (reach.Found d p b)
      → answer ≡ sized_at l (area_at xs 0) (volume_from xs) t.0 d.0 p.0 b true
      → answer ≡ on_sheet (Size t) l (area_at xs 0) (volume_from xs) ds rs ps mode r
  unfolding on_sheet
  size_worked d p b answer h k = k ∙ sized_by_lem (curve.admission_of ds rs ps mode r) d p b (told_by ∙ h)

  -- A target that is missed is refused by what is tried in turn.
  missed_by : (a : Admission) (x : Reached)
      → ((c : Curves) → least_by (percent_at ds ps c) (basis_at ds c) t.0 (leb t.0 most_percent) (leb t.0 (percent_at ds ps c highest_depth)) ≡ x
      → leb t.0 most_percent ≡ true → leb t.0 (percent_at ds ps c highest_depth) ≡ false)
      → reach_by a ≡ Ok x
      → sized_at l (area_at xs 0) (volume_from xs) t.0 highest_depth 0 None false ≡ sized_by a
  missed_by (Ok c) x e h = missed_same l (area_at xs 0) (volume_from xs) (percent_at ds ps c) (basis_at ds c) t.0 (e c (told_ok _ _ h))
  missed_by (Err error) x e h = cc

  module _ {answer : CreditAnswer} (k : answer ≡ sized_at l (area_at xs 0) (volume_from xs) t.0 highest_depth 0 None false) where
    pub size_short : found ≡ Ok reach.Short → answer ≡ on_sheet (Size t) l (area_at xs 0) (volume_from xs) ds rs ps mode r
    unfolding on_sheet
    size_short h =
        k ∙ missed_by (curve.admission_of ds rs ps mode r) reach.Short
        (λ c. short_by (percent_at ds ps c) (basis_at ds c) t.0 (leb t.0 most_percent) (leb t.0 (percent_at ds ps c highest_depth)))
        (told_by ∙ h)

    pub size_high : found ≡ Ok reach.TooHigh → answer ≡ on_sheet (Size t) l (area_at xs 0) (volume_from xs) ds rs ps mode r
    unfolding on_sheet
    size_high h =
        k ∙ missed_by (curve.admission_of ds rs ps mode r) reach.TooHigh
        (λ c. high_by (percent_at ds ps c) (basis_at ds c) t.0 (leb t.0 most_percent) (leb t.0 (percent_at ds ps c highest_depth)))
        (told_by ∙ h)

  refused_by : (a : Admission) (error : SheetError) → reach_by a ≡ Err error → Err error ≡ sized_by a
  refused_by (Ok c) error h = cc
  refused_by (Err e) error h = cc

  pub size_stopped : {error : SheetError} → found ≡ Err error → Err error ≡ on_sheet (Size t) l (area_at xs 0) (volume_from xs) ds rs ps mode r
  unfolding on_sheet
  size_stopped {error} h = refused_by (curve.admission_of ds rs ps mode r) error (told_by ∙ h)

  -- A depth that was found is on the grid, and its percent is at most 100 percent.
  ready_by : (a : Admission) (d : Depth) (p : Percent) (b : Basis) → a ≡ curve.admission_of ds rs ps mode r → reach_by a ≡ Ok (reach.Found d p b)
      → (p.0 ≤ most_percent) × (d.0 ≤ highest_depth)
  ready_by (Ok c) d p b e h =
      let k = found_by_lem (percent_at ds ps c) (basis_at ds c) t.0 (leb t.0 most_percent) (leb t.0 (percent_at ds ps c highest_depth)) d p b (told_ok _ _ h) in
      let m = percent_most (admitted_ready ds rs ps mode r (sym e)) (depth_reaching (percent_at ds ps c) t.0) in
      let g = fails_so_below (λ n. ltb (percent_at ds ps c n) t.0) grid_depths highest_depth
      (le-ltb (percent_at ds ps c highest_depth) t.0 (leb-true t.0 (percent_at ds ps c highest_depth) k.0)) in
      (omega arith, omega arith)
  ready_by (Err error) d p b e h = let z : ◌≡◌ {A = ℕ} 0 1 = cc in absurd (omega arith)

  pub size_ready : (d : Depth) (p : Percent) (b : Basis) → found ≡ Ok (reach.Found d p b) → Work xs l p.0
  size_ready d p b h =
      record { areas = w.areas; fits = w.fits; whole = (ready_by (curve.admission_of ds rs ps mode r) d p b refl (told_by ∙ h)).0 }

  pub size_on_grid : (d : Depth) (p : Percent) (b : Basis) → found ≡ Ok (reach.Found d p b) → d.0 ≤ highest_depth
  size_on_grid d p b h = (ready_by (curve.admission_of ds rs ps mode r) d p b refl (told_by ∙ h)).1
