-- The exact percent is put together from its parts, and each part fits.
-- Assumes nothing.
use Prim.Native.Nat.{ℕ, ◌+◌, ◌-◌, ◌*◌, ◌≤◌, ◌<◌}
use mathlib.Core.List.{List}
use mathlib.Core.Path.{◌≡◌}
use native.Mathlib.Nat.{mul-le-mul}
use native.Mathlib.Omega.{arith}
use lib.ListN.{length, get_or}
use Rattle.units.specs.Limits.{most_rate, highest_depth}
use Rattle.sheet.specs.Sheet.{previous}
use Rattle.sheet.specs.Rules.{Rules}
use Rattle.curve.specs.Curve.{held, segment, width, height}
use Rattle.curve.specs.Inner.{OnLine, InSegment, Between}
use Rattle.curve.proofs.Segments.{held_last, segment_in, segment_from, segment_to}
use Rattle.curve.proofs.Heights.{width_most, point_fits, height_most}

-- The held depth lies in its segment.
pub in_segment : {ds rs ps : List ℕ} (d : ℕ) {x k : ℕ} → Rules ds rs ps → x ≡ held ds d → k ≡ segment ds x → InSegment ds rs ps k x
in_segment {ds} {rs} {ps} d {x} s e f =
    let h : x ≤ get_or ds (length ds - 1) 0 = rw e (held_last ds d) in
    rw f
    (record {
      rules = s;
      within = segment_in ds s.some_depths x h;
      from = segment_from ds s.some_depths x h;
      to = segment_to ds s.some_depths x h;
    })

pub line_fits : {ds rs ps : List ℕ} (j : ℕ) {k x x₀ y₀ : ℕ} → InSegment ds rs ps k x → j < length rs → x₀ ≡ previous ds (length ds) k
    → y₀ ≡ previous ps (length ds) (j * length ds + k) → OnLine x₀ y₀ (get_or ds k 0) (get_or ps (j * length ds + k) 0) x
line_fits j s h e f = rw (e, f) (point_fits s h)

pub mix_fits : {ds rs ps : List ℕ} {j k x slow fast r a b : ℕ} → InSegment ds rs ps k x → Between rs j slow fast r → a ≡ height ds ps j k x
    → b ≡ height ds ps (j + 1) k x → OnLine slow a fast b r
mix_fits {ds} {rs} {ps} {j} {k} {x} s n e f =
    let h = n.next in
    let i : j < length rs = omega arith in
    record { from = n.from; to = n.to; short = n.short; low = rw e (height_most s i); high = rw f (height_most s h) }

pub under_fits : {ds rs ps : List ℕ} {j k x slow fast r w : ℕ} → InSegment ds rs ps k x → Between rs j slow fast r → w ≡ width ds k
    → w * (fast - slow) ≤ highest_depth * most_rate
under_fits {slow = slow} {fast = fast} {w = w} s n e =
    let h = n.short in
    let i : fast - slow ≤ most_rate = omega arith in
    let v : w ≤ highest_depth = rw e (width_most s.rules s.within) in
    mul-le-mul v i
