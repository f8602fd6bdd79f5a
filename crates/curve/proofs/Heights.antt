-- Laws of one rate's curve: its height times the width of a segment.
-- Assumes nothing.
use Prim.Native.Nat.{ℕ, ◌+◌, ◌*◌, ◌≤◌, ◌<◌}
use mathlib.Core.List.{List}
use mathlib.Core.Logic.{⊎_elim}
use mathlib.Core.Path.{◌≡◌, sym}
use native.Mathlib.Nat.{le_refl, le_trans, eq-or-lt_of_le, mul-le-mul_left, mul-le-mul_right, mul_assoc, mul_comm, mul_left_comm, le_of_eq}
use native.Mathlib.Omega.{arith}
use lib.ListN.{length, get_or}
use Rattle.laws.proofs.Line.{line_above, line_below, line_rises}
use Rattle.units.specs.Limits.{most_percent, highest_depth}
use Rattle.sheet.specs.Sheet.{previous}
use Rattle.sheet.specs.Rules.{Rules}
use Rattle.sheet.proofs.Rows.{row_place, row_rises}
use Rattle.curve.specs.Curve.{width, height}
use Rattle.curve.specs.Inner.{most_height, OnLine, InSegment}

module _ {ds rs ps : List ℕ} (s : Rules ds rs ps) where
  -- A rate's place and a depth's place are a percent's place.
  pub percent_place : {j k : ℕ} → j < length rs → k < length ds → j * length ds + k < length ps
  percent_place {j} {k} h l =
      let p = row_place j k (length rs) (length ds) h l in
      let e = s.one_each in
      omega arith

  -- No segment is empty, and none is wider than the grid.
  pub width_some : {k : ℕ} → k < length ds → 0 < width ds k
  width_some {k} h =
      let p = (s.depths k h).rises in
      omega arith

  pub width_most : {k : ℕ} → k < length ds → width ds k ≤ highest_depth
  width_most {k} h =
      let p = (s.depths k h).small in
      omega arith

module _ {ds rs ps : List ℕ} {j k x : ℕ} (c : InSegment ds rs ps k x) (h : j < length rs) where
  place : j * length ds + k < length ps
  place = percent_place c.rules h c.within

  -- What the line asks of its numbers.
  pub point_fits : OnLine (previous ds (length ds) k) (previous ps (length ds) (j * length ds + k)) (get_or ds k 0) (get_or ps (j * length ds + k) 0) x
  point_fits =
      let small = (c.rules.depths k c.within).small in
      let rises = (c.rules.percents (j * length ds + k) place).rises in
      let most = (c.rules.percents (j * length ds + k) place).small in
      record { from = c.from; to = c.to; short = omega arith; low = omega arith; high = omega arith }

  -- The curve is not above the percent at the end of its segment,
  pub height_below : height ds ps j k x ≤ width ds k * get_or ps (j * length ds + k) 0
  unfolding height
  height_below =
      let rises = (c.rules.percents (j * length ds + k) place).rises in
      line_below (previous ds (length ds) k) (previous ps (length ds) (j * length ds + k)) (get_or ds k 0) (get_or ps (j * length ds + k) 0) x (get_or ps (j * length ds + k) 0)
      c.from c.to (omega arith) (le_refl _)

  -- not below the one at its start,
  pub height_above : width ds k * previous ps (length ds) (j * length ds + k) ≤ height ds ps j k x
  unfolding height
  height_above =
      let rises = (c.rules.percents (j * length ds + k) place).rises in
      line_above (previous ds (length ds) k) (previous ps (length ds) (j * length ds + k)) (get_or ds k 0) (get_or ps (j * length ds + k) 0) x (previous ps (length ds) (j * length ds + k))
      c.from c.to (le_refl _) (omega arith)

  -- and at most 100 percent.
  pub height_share : height ds ps j k x ≤ width ds k * most_percent
  height_share = le_trans height_below (mul-le-mul_left (width ds k) (c.rules.percents (j * length ds + k) place).small)

  pub height_most : height ds ps j k x ≤ most_height
  height_most = le_trans height_share (mul-le-mul_right most_percent (width_most c.rules c.within))

-- W p V ≤ V q W, for p at most q
across : (a b p q w v : ℕ) → a ≤ w * p → v * q ≤ b → p ≤ q → a * v ≤ b * w
across a b p q w v h l m =
    le_trans (mul-le-mul_right v h)
    (le_trans (mul-le-mul_right v (mul-le-mul_left w m)) (le_trans (le_of_eq (sorted w q v)) (mul-le-mul_right w l)))
  where
    sorted : (w q v : ℕ) → w * q * v ≡ v * q * w
    sorted w q v = simp (mul_assoc, mul_comm, mul_left_comm)

-- Deeper along a curve, through a border between segments too, the fraction is no smaller.
pub height_rises : {ds rs ps : List ℕ} {j k m x z : ℕ} → InSegment ds rs ps k x → InSegment ds rs ps m z → j < length rs → x ≤ z → k ≤ m
    → height ds ps j k x * width ds m ≤ height ds ps j m z * width ds k
unfolding height
height_rises {ds} {rs} {ps} {j} {k} {m} {x} {z} c d i h l =
    ⊎_elim
    (λ (e : k ≡ m). same e)
    (λ (l : k < m).
    across (height ds ps j k x) (height ds ps j m z) (get_or ps (j * length ds + k) 0) (previous ps (length ds) (j * length ds + m)) (width ds k) (width ds m)
    (height_below c i) (height_above d i)
    (row_rises ps (length ds) c.rules.percents j k m l d.within (let p = percent_place c.rules i d.within in omega arith)))
    (eq-or-lt_of_le l)
  where
    same : k ≡ m → height ds ps j k x * width ds m ≤ height ds ps j m z * width ds k
    same e =
        rw (sym e)
        (mul-le-mul_right (width ds k)
        (let rises = (c.rules.percents (j * length ds + k) (percent_place c.rules i c.within)).rises in
        line_rises (previous ds (length ds) k) (previous ps (length ds) (j * length ds + k)) (get_or ds k 0) (get_or ps (j * length ds + k) 0) x z
        (omega arith) c.from h (rw (sym e) at d.to)))
