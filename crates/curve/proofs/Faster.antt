-- Where no percent of a sheet falls as its rate rises, a faster site rate has no smaller exact percent.
-- Assumes nothing.
use Prim.Native.Nat.{ℕ, zero, suc, ◌+◌, ◌-◌, ◌*◌, ◌≤◌, ◌<◌}
use mathlib.Core.List.{List}
use mathlib.Core.Logic.{⊎_elim}
use mathlib.Core.Path.{◌≡◌, sym}
use native.Mathlib.Nat.{le_refl, le_trans, le_of_eq, eq-or-lt_of_le, mul-le-mul_right, mul_assoc, mul_comm, mul_left_comm, le_of_mul-le-mul_right}
use native.Mathlib.Numerals.{add-one}
use native.Mathlib.Omega.{arith}
use lib.ListN.{length, get_or}
use borrow.Author.Tests.{lt-ltb, le-ltb}
use Rattle.laws.proofs.Line.{line_above, line_below, line_rises, line_mono}
use Rattle.laws.proofs.Order.{lt_or_le}
use Rattle.laws.proofs.Table.{rises}
use Rattle.sheet.specs.Sheet.{previous}
use Rattle.sheet.proofs.Rows.{row_start, row_next}
use Rattle.curve.specs.declared.Mode.{Mode}
use Rattle.curve.specs.declared.Mode.TheVariants.{Step, Mix}
use Rattle.curve.specs.declared.Fraction.{Fraction}
use Rattle.curve.specs.Curve.{width, height, fastest, curves_of, exact_in}
use Rattle.curve.specs.Inner.{InSegment, Rated}
use Rattle.curve.specs.Promises.{FasterIsNoLess}
use Rattle.curve.proofs.Choices.{reached_mono, fastest_in, fastest_from, fastest_to}
use Rattle.curve.proofs.Heights.{width_some}
use Rattle.curve.proofs.Rising.{NotAbove}

-- One fraction is not above another, by way of a third, h over w.
through : (a u h w b v : ℕ) → 0 < w → a * w ≤ h * u → h * v ≤ b * w → a * v ≤ b * u
through a u h w b v pos p q =
    le_of_mul-le-mul_right
    (le_trans (le_of_eq (sorted a v w)) (le_trans (mul-le-mul_right v p) (le_trans (le_of_eq (sorted h u v)) (le_trans (mul-le-mul_right u q) (le_of_eq (sorted b w u))))))
    pos
  where
    sorted : (x y z : ℕ) → x * y * z ≡ x * z * y
    sorted x y z = simp (mul_assoc, mul_comm)

module _ (ds rs ps : List ℕ) (faster : FasterIsNoLess ds rs ps) where
  -- A faster rate's percent at the same depth is no smaller,
  percent_faster : (k i j : ℕ) → k < length ds → i ≤ j → j < length rs → get_or ps (i * length ds + k) 0 ≤ get_or ps (j * length ds + k) 0
  percent_faster k i j h a b =
      rises (λ j. get_or ps (j * length ds + k) 0) (length rs - 1) (λ j l. rw (sym (add-one j)) (faster j k (omega arith) h)) i j a (omega arith)

  -- nor is the one before it,
  previous_faster : (k i j : ℕ) → k < length ds → i ≤ j → j < length rs → previous ps (length ds) (i * length ds + k) ≤ previous ps (length ds) (j * length ds + k)
  previous_faster zero i j h a b = rw (row_start ps (length ds) i) (omega arith)
  previous_faster (suc k) i j h a b = rw (row_next ps (length ds) i k h, row_next ps (length ds) j k h) (percent_faster k i j (omega arith) a b)

  -- nor its curve.
  height_faster : (k x i j : ℕ) → k < length ds → i ≤ j → j < length rs → height ds ps i k x ≤ height ds ps j k x
  unfolding height
  height_faster k x i j h a b =
      line_mono (previous ds (length ds) k) (previous ps (length ds) (i * length ds + k)) (get_or ds k 0) (get_or ps (i * length ds + k) 0)
      (previous ps (length ds) (j * length ds + k)) (get_or ps (j * length ds + k) 0) x (previous_faster k i j h a b) (percent_faster k i j h a b)

fastest_mono : (rs : List ℕ) (r q : ℕ) → r ≤ q → fastest rs r ≤ fastest rs q
unfolding fastest
fastest_mono rs r q h = let l = reached_mono rs r q h in omega arith

module _ {ds rs ps : List ℕ} {k x : ℕ} (s : InSegment ds rs ps k x) (faster : FasterIsNoLess ds rs ps) where
  -- a sheet's curve in segment k, as a fraction
  abbrev curve : ℕ → Fraction
  curve j = record { over = height ds ps j k x; under = width ds k }

  abbrev exact : Mode → ℕ → Fraction
  exact mode r = exact_in ds ps (curves_of rs mode r) k x

  -- A site rate's exact percent is not above the curve of any rate after its fastest,
  below_faster : (mode : Mode) {r : ℕ} (j : ℕ) → Rated rs r → fastest rs r < j → j < length rs → NotAbove (exact mode r) (curve j)
  unfolding exact_in curves_of
  below_faster Step {r} j p a b = mul-le-mul_right (width ds k) (height_faster ds rs ps faster k x (fastest rs r) j s.within (omega arith) b)
  below_faster Mix {r} j p a b =
      simp (lt-ltb (fastest rs r + 1) (length rs) (omega arith))
      (le_trans
      (mul-le-mul_right (width ds k)
      (let to = fastest_to p (omega arith) in
      line_below (get_or rs (fastest rs r) 0) (height ds ps (fastest rs r) k x) (get_or rs (fastest rs r + 1) 0) (height ds ps (fastest rs r + 1) k x) r (height ds ps j k x)
      (fastest_from p) (omega arith)
      (height_faster ds rs ps faster k x (fastest rs r) j s.within (omega arith) b) (height_faster ds rs ps faster k x (fastest rs r + 1) j s.within (omega arith) b)))
      (le_of_eq (sorted (get_or rs (fastest rs r + 1) 0 - get_or rs (fastest rs r) 0) (height ds ps j k x) (width ds k))))
    where
      sorted : (f h w : ℕ) → f * h * w ≡ h * (w * f)
      sorted f h w = simp (mul_assoc, mul_comm, mul_left_comm)

  -- and not below the curve of its fastest.
  above_fastest : (mode : Mode) {r : ℕ} → Rated rs r → NotAbove (curve (fastest rs r)) (exact mode r)
  unfolding exact_in curves_of
  above_fastest Step p = le_refl _
  above_fastest Mix {r} p =
      ⊎_elim
      (λ (h : fastest rs r + 1 < length rs).
      simp (lt-ltb (fastest rs r + 1) (length rs) h)
      (le_trans
      (le_of_eq (sorted (get_or rs (fastest rs r + 1) 0 - get_or rs (fastest rs r) 0) (height ds ps (fastest rs r) k x) (width ds k)))
      (mul-le-mul_right (width ds k)
      (let to = fastest_to p h in
      line_above (get_or rs (fastest rs r) 0) (height ds ps (fastest rs r) k x) (get_or rs (fastest rs r + 1) 0) (height ds ps (fastest rs r + 1) k x) r (height ds ps (fastest rs r) k x)
      (fastest_from p) (omega arith) (le_refl _) (height_faster ds rs ps faster k x (fastest rs r) (fastest rs r + 1) s.within (omega arith) h)))))
      (λ (h : length rs ≤ fastest rs r + 1). simp (le-ltb (fastest rs r + 1) (length rs) h) (le_refl _))
      (lt_or_le (fastest rs r + 1) (length rs))
    where
      sorted : (f h w : ℕ) → h * (w * f) ≡ f * h * w
      sorted f h w = simp (mul_assoc, mul_comm, mul_left_comm)

  -- Between the same two rates the line rises.
  same_fastest : (mode : Mode) {r q : ℕ} → Rated rs r → Rated rs q → r ≤ q → fastest rs r ≡ fastest rs q → NotAbove (exact mode r) (exact mode q)
  unfolding exact_in curves_of
  same_fastest Step {r} {q} p o l e = rw e (le_refl _)
  same_fastest Mix {r} {q} p o l e =
      ⊎_elim
      (λ (h : fastest rs q + 1 < length rs).
      rw e
      (simp (lt-ltb (fastest rs q + 1) (length rs) h)
      (mul-le-mul_right (width ds k * (get_or rs (fastest rs q + 1) 0 - get_or rs (fastest rs q) 0))
      (let to = fastest_to o h in
      line_rises (get_or rs (fastest rs q) 0) (height ds ps (fastest rs q) k x) (get_or rs (fastest rs q + 1) 0) (height ds ps (fastest rs q + 1) k x) r q
      (height_faster ds rs ps faster k x (fastest rs q) (fastest rs q + 1) s.within (omega arith) h)
      (rw e at (fastest_from p)) l (omega arith)))))
      (λ (h : length rs ≤ fastest rs q + 1). rw e (simp (le-ltb (fastest rs q + 1) (length rs) h) (le_refl _)))
      (lt_or_le (fastest rs q + 1) (length rs))

  pub exact_faster : (mode : Mode) {r q : ℕ} → Rated rs r → Rated rs q → r ≤ q → NotAbove (exact mode r) (exact mode q)
  exact_faster mode {r} {q} p o l =
      ⊎_elim
      (λ (e : fastest rs r ≡ fastest rs q). same_fastest mode p o l e)
      (λ (h : fastest rs r < fastest rs q).
      through (exact mode r).over (exact mode r).under (height ds ps (fastest rs q) k x) (width ds k) (exact mode q).over (exact mode q).under
      (width_some s.rules s.within) (below_faster mode (fastest rs q) p h (fastest_in o)) (above_fastest mode o))
      (eq-or-lt_of_le (fastest_mono rs r q l))
