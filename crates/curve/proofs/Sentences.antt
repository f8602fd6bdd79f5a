-- The sentences of Rules, "Curve sheets", hold: the curve of a rate at printed depths, from the origin, between depths and beyond
-- them, and the line between the curves of two rates.
-- Assumes nothing.
use Prim.Native.Nat.{ℕ, suc, ◌+◌, ◌-◌, ◌*◌, ◌/◌, ◌≤◌, ◌<◌}
use mathlib.Core.List.{List}
use mathlib.Core.Logic.{⊎_elim}
use mathlib.Core.Path.{◌≡◌, sym, ◌∙◌}
use native.Mathlib.Nat.{le_refl, le_trans, le_of_lt, eq-or-lt_of_le, min-eq_left, min-eq_right, mul_comm, mul_assoc, mul_left_comm, mul-pos, sub-zero, add-mul}
use native.Mathlib.Numerals.{add-one}
use native.Mathlib.Omega.{arith}
use lib.Dec.{leb, ltb}
use lib.ListN.{length, get_or}
use borrow.Author.Tests.{lt-ltb, le-ltb, le-leb, lt-leb}
use Rattle.laws.specs.First.{first}
use Rattle.laws.specs.Line.{line}
use Rattle.laws.proofs.First.{first_is, fails_so_below}
use Rattle.laws.proofs.Line.{line_start, line_end}
use Rattle.laws.proofs.Order.{lt_or_le}
use Rattle.laws.proofs.Quotient.{floor_same}
use Rattle.laws.proofs.Table.{rises}
use Rattle.units.specs.declared.Rate.{Rate}
use Rattle.sheet.specs.Sheet.{previous}
use Rattle.sheet.specs.Rules.{Rules}
use Rattle.sheet.proofs.Rows.{row_start, row_next, one_start, one_next, one_rises}
use Rattle.curve.specs.declared.Mode.{Mode}
use Rattle.curve.specs.declared.Mode.TheVariants.{Step, Mix}
use Rattle.curve.specs.declared.Curves.{Curves}
use Rattle.curve.specs.declared.Curves.TheVariants.{One, Two}
use Rattle.curve.specs.Curve.{held, segment, width, height, fastest, curves_of, exact_in, exact_at, exact_of, percent_at}
use Rattle.curve.specs.Inner.{Rated, Ready}
use Rattle.curve.specs.Promises.{Usable, Exactly, GoesByTheFastest, printed_at, PrintedAtDepths, ThroughOrigin, StraightBetweenDepths, StaysAtLast, line_between, mixture, MixesNeighbours, LastCurveAlone, PrintedComesBack}
use Rattle.curve.proofs.Choices.{rates_apart, fastest_in, fastest_from, fastest_to}
use Rattle.curve.proofs.Heights.{width_some}
use Rattle.curve.proofs.Promises.{granted_rated, granted_ready}
use Rattle.curve.proofs.Rising.{under_some}
use Rattle.curve.proofs.Segments.{held_last, segment_in, segment_to}

-- products in another order
turned : (a b c : ℕ) → a * b * c ≡ c * b * a
turned a b c = simp (mul_assoc, mul_comm, mul_left_comm)

module _ {ds rs ps : List ℕ} (s : Rules ds rs ps) where
  -- The depths rise, so that none is above the last.
  pub depths_rise : (i j : ℕ) → i ≤ j → j < length ds → get_or ds i 0 ≤ get_or ds j 0
  depths_rise i j h b =
      ⊎_elim (λ (e : i ≡ j). rw e (le_refl _))
      (λ (l : i < j).
      let p = one_rises ds (length ds) s.depths i j l b (le_refl _) in
      let q = (s.depths j b).rises in
      omega arith)
      (eq-or-lt_of_le h)

  pub up_to_last : (k : ℕ) → k < length ds → get_or ds k 0 ≤ get_or ds (length ds - 1) 0
  up_to_last k h = depths_rise k (length ds - 1) (omega arith) (omega arith)

  -- Where two segments meet, the one ends and the other starts at the printed percent.
  meet : (j k x : ℕ) → x ≡ get_or ds k 0 → suc k < length ds → height ds ps j k x * width ds (suc k) ≡ height ds ps j (suc k) x * width ds k
  unfolding height
  meet j k x e h =
      rw (e, one_next ds (length ds) k h, row_next ps (length ds) j k h, line_end (previous ds (length ds) k) (previous ps (length ds) (j * length ds + k)) (get_or ds k 0) (get_or ps (j * length ds + k) 0), line_start (get_or ds k 0) (get_or ps (j * length ds + k) 0) (get_or ds (suc k) 0) (get_or ps (j * length ds + suc k) 0))
      (turned (width ds k) (get_or ps (j * length ds + k) 0) (get_or ds (suc k) 0 - get_or ds k 0))

  module _ (j m d : ℕ) (h : m < length ds) (from : previous ds (length ds) m ≤ d) (to : d ≤ get_or ds m 0) where
    not_deep : d ≤ get_or ds (length ds - 1) 0
    not_deep = le_trans to (up_to_last m h)

    k_below : segment ds d ≤ m
    k_below = fails_so_below (λ i. ltb (get_or ds i 0) d) (length ds) m (le-ltb (get_or ds m 0) d to)

    -- Its segment is this one, or the one before where it lies on the border.
    on_border : segment ds d < m → (m ≡ suc (segment ds d)) × (d ≡ get_or ds (segment ds d) 0)
    on_border l =
        let a = segment_to ds s.some_depths d not_deep in
        let b = one_rises ds (length ds) s.depths (segment ds d) m l h (le_refl _) in
        (next a, omega arith)
      where
        next : d ≤ get_or ds (segment ds d) 0 → m ≡ suc (segment ds d)
        next a =
            ⊎_elim (λ (e : suc (segment ds d) ≡ m). sym e)
            (λ (i : suc (segment ds d) < m).
            let b = one_rises ds (length ds) s.depths (suc (segment ds d)) m i h (le_refl _) in
            let c = (s.depths (suc (segment ds d)) (omega arith)).rises in
            let q = one_next ds (length ds) (segment ds d) (omega arith) in
            absurd (omega arith))
            (eq-or-lt_of_le l)

    -- A depth of a segment has its exact percent on the segment's line.
    pub on_line : (exact_at ds ps (One j) d).over * width ds m ≡ height ds ps j m d * (exact_at ds ps (One j) d).under
    unfolding exact_in
    on_line =
        rw (min-eq_left not_deep)
        (⊎_elim
        (λ (e : segment ds d ≡ m). rw e)
        (λ (l : segment ds d < m).
        let b = on_border l in
        let n : suc (segment ds d) < length ds = rw b.0 at h in
        rw b.0 (meet j (segment ds d) d b.1 n))
        (eq-or-lt_of_le k_below))

  -- A printed depth lies at the end of its own segment.
  pub printed_segment : (k : ℕ) → k < length ds → k ≡ segment ds (get_or ds k 0)
  printed_segment k h =
      first_is (λ i. ltb (get_or ds i 0) (get_or ds k 0)) (length ds) k (le_of_lt h)
      (λ i l.
      lt-ltb (get_or ds i 0) (get_or ds k 0)
      (let p = one_rises ds (length ds) s.depths i k l h (le_refl _) in
      let q = (s.depths k h).rises in
      omega arith))
      (λ l. le-ltb (get_or ds k 0) (get_or ds k 0) (le_refl _))

  -- At a printed depth the curve of a rate has its printed percent.
  printed_exact : (j k : ℕ) → k < length ds
      → (exact_at ds ps (One j) (get_or ds k 0)).over * 1 ≡ get_or ps (j * length ds + k) 0 * (exact_at ds ps (One j) (get_or ds k 0)).under
  unfolding exact_in height
  printed_exact j k h =
      rw (min-eq_left (up_to_last k h), sym (printed_segment k h), line_end (previous ds (length ds) k) (previous ps (length ds) (j * length ds + k)) (get_or ds k 0) (get_or ps (j * length ds + k) 0))
      (plain (width ds k) (get_or ps (j * length ds + k) 0))
    where
      plain : (w p : ℕ) → w * p * 1 ≡ p * w
      plain w p = let e = mul_comm w p in omega arith

  -- A printed rate is its own fastest.
  pub rates_rise : (i j : ℕ) → i ≤ j → j < length rs → get_or rs i 0 ≤ get_or rs j 0
  rates_rise i j a b =
      rises (λ k. get_or rs k 0) (length rs - 1) (λ k l. rw (sym (add-one k)) (le_of_lt (rates_apart s k (omega arith)))) i j a (omega arith)

  printed_fastest : (j : ℕ) → j < length rs → fastest rs (get_or rs j 0) ≡ j
  unfolding fastest
  printed_fastest j h =
      let e : j + 1 ≡ first (λ k. leb (get_or rs k 0) (get_or rs j 0)) (length rs) = reached in
      rw (sym e) (omega arith)
    where
      reached : j + 1 ≡ first (λ k. leb (get_or rs k 0) (get_or rs j 0)) (length rs)
      reached =
          first_is (λ k. leb (get_or rs k 0) (get_or rs j 0)) (length rs) (j + 1) (omega arith)
          (λ k l. le-leb (get_or rs k 0) (get_or rs j 0) (rates_rise k j (omega arith) h))
          (λ l. lt-leb (get_or rs (j + 1) 0) (get_or rs j 0) (rates_apart s j l))

  -- Step at a printed rate takes its curve.
  step_printed : (j d : ℕ) → j < length rs → exact_of ds rs ps Step (get_or rs j 0) d ≡ exact_at ds ps (One j) d
  unfolding curves_of
  step_printed j d h = rw (printed_fastest j h)

  -- The last rate is the fastest not above what is at or above it, and no other is.
  last_fastest : {r : ℕ} → Rated rs r → get_or rs (length rs - 1) 0 ≤ r → fastest rs r ≡ length rs - 1
  last_fastest {r} p h =
      let i = fastest_in p in
      ⊎_elim
      (λ (l : fastest rs r + 1 < length rs).
      let a = fastest_to p l in
      let b = rates_rise (fastest rs r + 1) (length rs - 1) (omega arith) (omega arith) in
      absurd (omega arith))
      (λ (l : length rs ≤ fastest rs r + 1). omega arith)
      (lt_or_le (fastest rs r + 1) (length rs))

  some_faster : {r : ℕ} → Rated rs r → r < get_or rs (length rs - 1) 0 → fastest rs r + 1 < length rs
  some_faster {r} p h =
      let i = fastest_in p in
      ⊎_elim (λ (l : fastest rs r + 1 < length rs). l)
      (λ (l : length rs ≤ fastest rs r + 1).
      let e : fastest rs r ≡ length rs - 1 = omega arith in
      let f : get_or rs (length rs - 1) 0 ≤ r = rw e at (fastest_from p) in
      absurd (omega arith))
      (lt_or_le (fastest rs r + 1) (length rs))

  -- At a printed rate both modes take the curve of that rate.
  pub printed_rate : (mode : Mode) (j d : ℕ) → j < length rs → percent_at ds ps (curves_of rs mode (get_or rs j 0)) d ≡ percent_at ds ps (One j) d
  unfolding curves_of exact_in
  printed_rate Step j d h = rw (printed_fastest j h)
  printed_rate Mix j d h =
      rw (printed_fastest j h)
      (⊎_elim
      (λ (l : j + 1 < length rs).
      simp (lt-ltb (j + 1) (length rs) l)
      (rw (line_start (get_or rs j 0) (height ds ps j (segment ds (held ds d)) (held ds d)) (get_or rs (j + 1) 0) (height ds ps (j + 1) (segment ds (held ds d)) (held ds d)))
      (let w = width_some s (segment_in ds s.some_depths (held ds d) (held_last ds d)) in
      let a = rates_apart s j l in
      floor_same
      ((get_or rs (j + 1) 0 - get_or rs j 0) * height ds ps j (segment ds (held ds d)) (held ds d)) (width ds (segment ds (held ds d)) * (get_or rs (j + 1) 0 - get_or rs j 0))
      (height ds ps j (segment ds (held ds d)) (held ds d)) (width ds (segment ds (held ds d)))
      (mul-pos w (omega arith)) w
      (sorted (get_or rs (j + 1) 0 - get_or rs j 0) (height ds ps j (segment ds (held ds d)) (held ds d)) (width ds (segment ds (held ds d)))))))
      (λ (l : length rs ≤ j + 1). simp (le-ltb (j + 1) (length rs) l))
      (lt_or_le (j + 1) (length rs)))
    where
      sorted : (f h w : ℕ) → f * h * w ≡ h * (w * f)
      sorted f h w = simp (mul_assoc, mul_comm, mul_left_comm)

  pub printed_depth : (j k : ℕ) → j < length rs → k < length ds → percent_at ds ps (One j) (get_or ds k 0) ≡ get_or ps (j * length ds + k) 0
  printed_depth j k i h =
      let n : Ready ds rs ps (One j) = record { rules = s; curves = i } in
      floor_same (exact_at ds ps (One j) (get_or ds k 0)).over (exact_at ds ps (One j) (get_or ds k 0)).under (get_or ps (j * length ds + k) 0) 1
      (under_some n (get_or ds k 0)) (omega arith) (printed_exact j k h)
      ∙ whole (get_or ps (j * length ds + k) 0)
    where
      whole : (p : ℕ) → p / 1 ≡ p
      whole p = omega arith

-- The line between two curves, over the product of their denominators.
mixed : (ds ps : List ℕ) (j d : ℕ) (slow fast r : Rate)
    → (exact_at ds ps (Two j slow fast r) d).over * (line_between slow.0 (exact_at ds ps (One j) d) fast.0 (exact_at ds ps (One (j + 1)) d) r.0).under
    ≡ (line_between slow.0 (exact_at ds ps (One j) d) fast.0 (exact_at ds ps (One (j + 1)) d) r.0).over * (exact_at ds ps (Two j slow fast r) d).under
unfolding exact_in
mixed ds ps j d slow fast r =
    scaled (fast.0 - r.0) (r.0 - slow.0) (height ds ps j (segment ds (held ds d)) (held ds d)) (height ds ps (j + 1) (segment ds (held ds d)) (held ds d))
    (width ds (segment ds (held ds d))) (fast.0 - slow.0)
  where
    sorted : (l w v : ℕ) → l * (v * (w * w)) ≡ l * w * (w * v)
    sorted l w v = simp (mul_assoc, mul_comm, mul_left_comm)

    scaled : (p q h k w v : ℕ) → (p * h + q * k) * (v * (w * w)) ≡ (p * (h * w) + q * (k * w)) * (w * v)
    scaled p q h k w v = rw (sym (mul_assoc p h w), sym (mul_assoc q k w), sym (add-mul (p * h) (q * k) w)) (sorted (p * h + q * k) w v)

-- Beyond the last depth a curve stays as it is there.
pub exact_beyond : (ds ps : List ℕ) (c : Curves) (d : ℕ) → get_or ds (length ds - 1) 0 ≤ d → exact_at ds ps c d ≡ exact_at ds ps c (get_or ds (length ds - 1) 0)
exact_beyond ds ps c d h = rw (min-eq_right h, min-eq_left (le_refl (get_or ds (length ds - 1) 0)))

-- An exact percent that equals a fraction is rounded as it is.
module _ {ds rs ps : List ℕ} {r : ℕ} (g : Usable ds rs ps r) where
  exactly : (mode : Mode) (d over under : ℕ) → 0 < under → (exact_of ds rs ps mode r d).over * under ≡ over * (exact_of ds rs ps mode r d).under
      → Exactly ds rs ps mode r d over under
  exactly mode d over under h e =
      let u = under_some (granted_ready g mode) d in
      record {
        divides = h;
        exact_divides = u;
        exact = e;
        once = floor_same (exact_of ds rs ps mode r d).over (exact_of ds rs ps mode r d).under over under u h e;
      }

  -- The same of the curve of step.
  stepped : (d over under : ℕ) → 0 < under
      → (exact_at ds ps (One (fastest rs r)) d).over * under ≡ over * (exact_at ds ps (One (fastest rs r)) d).under
      → Exactly ds rs ps Step r d over under
  unfolding curves_of
  stepped d over under h e = exactly Step d over under h e

pub goes_by_the_fastest : GoesByTheFastest
goes_by_the_fastest ds rs ps r g =
    record { of_sheet = fastest_in (granted_rated g); not_above = fastest_from (granted_rated g); next_above = fastest_to (granted_rated g) }

pub printed_at_depths : PrintedAtDepths
printed_at_depths ds rs ps r k g h =
    stepped g (get_or ds k 0) (printed_at ds rs ps r k) 1 (omega arith) (printed_exact g.rules (fastest rs r) k h)

pub stays_at_last : StaysAtLast
stays_at_last ds rs ps r d g h =
    stepped g d (printed_at ds rs ps r (length ds - 1)) 1 (omega arith)
    (rw (exact_beyond ds ps (One (fastest rs r)) d h)
    (printed_exact g.rules (fastest rs r) (length ds - 1) (let n = g.rules.some_depths in omega arith)))

pub through_origin : ThroughOrigin
unfolding height
through_origin ds rs ps r d g h =
    let n = g.rules.some_depths in
    let w : 0 < get_or ds 0 0 = simp (one_start ds (length ds), sub-zero) at (width_some g.rules n) in
    stepped g d (line 0 0 (get_or ds 0 0) (printed_at ds rs ps r 0) d) (get_or ds 0 0) w
    (simp sub-zero
    (simp (one_start ds (length ds), row_start ps (length ds) (fastest rs r), sub-zero)
    at (on_line g.rules (fastest rs r) 0 d n (rw (one_start ds (length ds)) (omega arith)) h)))

pub straight_between_depths : StraightBetweenDepths
unfolding height
straight_between_depths ds rs ps r k d g h from to =
    let e : k + 1 ≡ suc k = add-one k in
    let l : suc k < length ds = rw e at h in
    let w = width_some g.rules l in
    rw e
    (stepped g d (line (get_or ds k 0) (printed_at ds rs ps r k) (get_or ds (suc k) 0) (printed_at ds rs ps r (suc k)) d) (get_or ds (suc k) 0 - get_or ds k 0)
    (rw (one_next ds (length ds) k l) at w)
    (rw (one_next ds (length ds) k l, row_next ps (length ds) (fastest rs r) k l)
    at (on_line g.rules (fastest rs r) (suc k) d l (rw (one_next ds (length ds) k l) from) (rw e at to))))

-- Below the last rate mix takes two curves.
mix_two : (ds rs ps : List ℕ) (r d : ℕ) → fastest rs r + 1 < length rs
    → exact_of ds rs ps Mix r d
    ≡ exact_at ds ps (Two (fastest rs r) (record { 0 = get_or rs (fastest rs r) 0 }) (record { 0 = get_or rs (fastest rs r + 1) 0 }) (record { 0 = r })) d
unfolding curves_of
mix_two ds rs ps r d l = simp (lt-ltb (fastest rs r + 1) (length rs) l)

pub mixes_neighbours : MixesNeighbours
mixes_neighbours ds rs ps r d g h =
    let l = some_faster g.rules (granted_rated g) h in
    let i : fastest rs r < length rs = omega arith in
    let a = rates_apart g.rules (fastest rs r) l in
    let low = step_printed g.rules (fastest rs r) d i in
    let high = step_printed g.rules (fastest rs r + 1) d l in
    exactly g Mix d (mixture ds rs ps (fastest rs r) r d).over (mixture ds rs ps (fastest rs r) r d).under
    (rw (low, high)
    (mul-pos (omega arith)
    (mul-pos (under_some {rs = rs} {c = One (fastest rs r)} (record { rules = g.rules; curves = i }) d)
    (under_some {rs = rs} {c = One (fastest rs r + 1)} (record { rules = g.rules; curves = l }) d))))
    (rw (low, high, mix_two ds rs ps r d l)
    (mixed ds ps (fastest rs r) d (record { 0 = get_or rs (fastest rs r) 0 }) (record { 0 = get_or rs (fastest rs r + 1) 0 }) (record { 0 = r })))

pub last_curve_alone : LastCurveAlone
unfolding curves_of
last_curve_alone ds rs ps r d g h =
    let e = last_fastest g.rules (granted_rated g) h in
    let n = g.rules.some_rates in
    rw (step_printed g.rules (length rs - 1) d (omega arith), e)
    (simp (le-ltb (length rs - 1 + 1) (length rs) (omega arith)))

pub printed_comes_back : PrintedComesBack
printed_comes_back ds rs ps mode j k s h l = printed_rate s mode j (get_or ds k 0) h ∙ printed_depth s j k h l
