-- Laws of a walk over the sub-areas of a site, for whoever sums or tries them in turn.
-- Assumes nothing.
use Prim.Native.Nat.{ℕ, suc, ◌+◌, ◌≤◌, ◌<◌}
use mathlib.Core.Path.{◌≡◌, ◌∙◌, ap}
use mathlib.Core.List.{[], ◌∷◌}
use native.Mathlib.Numerals.{add-one}
use native.Mathlib.Omega.{arith}
use lib.ListN.{length, drop, get_or, drop_of_length-le}
use lib.Seq.{drop-cons, get_or-take, length-take-le}
use Rattle.site.specs.declared.SubArea.{SubArea}
use Rattle.site.specs.declared.Site.{Site}
use Rattle.site.specs.Parts.{parts_of, blank, most_parts}

-- A record in memory has its 32 places, and one that is judged fine has its count among them.
pub record Whole (s : Site) : Type 0 where
  pub places : length s.parts ≡ most_parts
  pub count : s.count ≤ most_parts

length_parts : (s : Site) → Whole s → length (parts_of s) ≡ s.count
length_parts s w = length-take-le s.count s.parts (omega arith)

-- From place i on there stand the sub-area at place i and those from place i + 1 on.
pub part_at : (s : Site) (i : ℕ) → Whole s → i < s.count → drop i (parts_of s) ≡ get_or s.parts i blank ∷ drop (i + 1) (parts_of s)
part_at s i w h =
    rw add-one (drop-cons (parts_of s) i blank (let e = length_parts s w in omega arith)
    ∙ ap (λ (p : SubArea). p ∷ drop (suc i) (parts_of s)) (get_or-take s.count s.parts i blank h))

-- From the count on there stands none.
pub none_left : (s : Site) (i : ℕ) → Whole s → s.count ≤ i → drop i (parts_of s) ≡ []
none_left s i w h =
    let e = length_parts s w in
    let past : length (parts_of s) ≤ i = omega arith in
    drop_of_length-le (parts_of s) past
