-- The percent of an accepted sheet never falls with depth, and is at most 100 percent.
-- Assumes nothing.
use Prim.Native.Nat.{ℕ, ◌+◌, ◌-◌, ◌*◌, ◌≤◌, ◌<◌}
use mathlib.Core.List.{List}
use mathlib.Core.Path.{◌≡◌, refl, sym}
use native.Mathlib.Nat.{le_trans, le_of_eq, mul-le-mul_left, mul-le-mul_right, mul_assoc, mul_comm, mul-pos, add-mul, add-le-add, div-le_of_le-mul}
use native.Mathlib.Omega.{arith}
use lib.ListN.{length}
use Rattle.laws.proofs.Line.{line_below}
use Rattle.laws.proofs.Quotient.{floor_le}
use Rattle.units.specs.Limits.{most_percent}
use Rattle.curve.specs.declared.Curves.{Curves}
use Rattle.curve.specs.declared.Curves.TheVariants.{One, Two}
use Rattle.curve.specs.declared.Fraction.{Fraction}
use Rattle.curve.specs.Curve.{held, segment, width, height, exact_in, exact_at, percent_at}
use Rattle.curve.specs.Inner.{InSegment, Between, Neighbours, Ready}
use Rattle.curve.proofs.Segments.{held_mono, segment_mono}
use Rattle.curve.proofs.Heights.{width_some, height_share, height_rises}
use Rattle.curve.proofs.Parts.{in_segment}

-- one fraction is not above another
abbrev pub NotAbove : Fraction → Fraction → Type 0
NotAbove f g = f.over * g.under ≤ g.over * f.under

-- Mixing with the same weights keeps the order of fractions.
mixed : (p q a b c d u v w : ℕ) → a * v ≤ c * u → b * v ≤ d * u → (p * a + q * b) * (v * w) ≤ (p * c + q * d) * (u * w)
mixed p q a b c d u v w h l =
    rw (sym (mul_assoc (p * a + q * b) v w), sym (mul_assoc (p * c + q * d) u w))
    (mul-le-mul_right w
    (rw (add-mul (p * a) (q * b) v, add-mul (p * c) (q * d) u, mul_assoc p a v, mul_assoc q b v, mul_assoc p c u, mul_assoc q d u)
    (add-le-add (mul-le-mul_left p h) (mul-le-mul_left q l))))

module _ {ds rs ps : List ℕ} {k m x z : ℕ} (s : InSegment ds rs ps k x) (t : InSegment ds rs ps m z) (h : x ≤ z) (l : k ≤ m) where
  -- Deeper, the exact percent is no smaller, by one curve and by two.
  exact_rises : (c : Curves) → Neighbours rs c → NotAbove (exact_in ds ps c k x) (exact_in ds ps c m z)
  unfolding exact_in
  exact_rises (One j) n = height_rises s t n h l
  exact_rises (Two j slow fast r) n =
      mixed (fast.0 - r.0) (r.0 - slow.0) (height ds ps j k x) (height ds ps (j + 1) k x) (height ds ps j m z) (height ds ps (j + 1) m z) (width ds k) (width ds m)
      (fast.0 - slow.0) (height_rises s t (before n) h l) (height_rises s t n.next h l)
    where
      before : Between rs j slow.0 fast.0 r.0 → j < length rs
      before n = let i = n.next in omega arith

module _ {ds rs ps : List ℕ} {k x : ℕ} (s : InSegment ds rs ps k x) where
  -- Its denominator is not 0,
  exact_under : (c : Curves) → Neighbours rs c → 0 < (exact_in ds ps c k x).under
  unfolding exact_in
  exact_under (One j) n = width_some s.rules s.within
  exact_under (Two j slow fast r) n = mul-pos (width_some s.rules s.within) (let i = n.apart in omega arith)

  -- and it is at most 100 percent.
  exact_share : (c : Curves) → Neighbours rs c → (exact_in ds ps c k x).over ≤ (exact_in ds ps c k x).under * most_percent
  unfolding exact_in
  exact_share (One j) n = height_share s n
  exact_share (Two j slow fast r) n =
      le_trans
      (line_below slow.0 (height ds ps j k x) fast.0 (height ds ps (j + 1) k x) r.0 (width ds k * most_percent) n.from n.to
      (height_share s (before n)) (height_share s n.next))
      (le_of_eq (sorted (fast.0 - slow.0) (width ds k) most_percent))
    where
      before : Between rs j slow.0 fast.0 r.0 → j < length rs
      before n = let i = n.next in omega arith

      sorted : (a b c : ℕ) → a * (b * c) ≡ b * a * c
      sorted a b c = simp (mul_assoc, mul_comm)

module _ {ds rs ps : List ℕ} {c : Curves} (s : Ready ds rs ps c) where
  lies : (d : ℕ) → InSegment ds rs ps (segment ds (held ds d)) (held ds d)
  lies d = in_segment d s.rules refl refl

  pub under_some : (d : ℕ) → 0 < (exact_at ds ps c d).under
  under_some d = exact_under (lies d) c s.curves

  pub divided : (d : ℕ) {f : Fraction} → f ≡ exact_at ds ps c d → 0 < f.under
  divided d e = rw e (under_some d)

  -- The percent never falls with depth,
  pub percent_rises : (d e : ℕ) → d ≤ e → percent_at ds ps c d ≤ percent_at ds ps c e
  percent_rises d e h =
      floor_le (exact_at ds ps c d).over (exact_at ds ps c d).under (exact_at ds ps c e).over (exact_at ds ps c e).under (under_some d) (under_some e)
      (exact_rises (lies d) (lies e) (held_mono ds h) (segment_mono ds (held ds d) (held ds e) (held_mono ds h)) c s.curves)

  -- and is at most 100 percent.
  pub percent_most : (d : ℕ) → percent_at ds ps c d ≤ most_percent
  percent_most d = div-le_of_le-mul (exact_at ds ps c d).under (exact_share (lies d) c s.curves)
