-- Rules, "Volume of a depth": what is promised of V and of the depth of a volume.
-- Assumes nothing.
use Rattle.std.specs.Prelude.{ℕ, ◌≤◌, ◌<◌, List, ◌↔◌, ◌≡◌}
use Rattle.refusal.specs.declared.Refusal.TheVariants.{AmountOutOfRange}
use Rattle.refusal.specs.Refusal.{number_of, granted}
use Rattle.units.specs.declared.Depth.{Depth}
use Rattle.units.specs.declared.Volume.{Volume}
use Rattle.units.specs.Limits.{most_area, largest, highest_depth}
use Rattle.units.specs.Depths as depths
use Rattle.site.specs.declared.SubArea.{SubArea}
use Rattle.site.specs.declared.Site.{Site}
use Rattle.site.specs.Parts.{parts_of, total_area, impervious_area}
use Rattle.site.specs.Judging.{judged}
use Rattle.site.specs.Judging as site
use Rattle.site.specs.Promises.{Alike, SameSubAreas}
use Rattle.volume.specs.Volume.{volume_of, depth_of}
use Rattle.volume.specs.Areas.{areas_of, volume_from}
use Rattle.volume.specs.Answers.{volume_answer, depth_answer, volume_on, depth_on, gathered_answer, given}

-- V is 0 at depth 0.
abbrev pub StartsAtZero : Type 0
StartsAtZero = (ps : List SubArea) → volume_of ps 0 ≡ 0

-- V never falls with depth.
abbrev pub NeverFalls : Type 0
NeverFalls = (ps : List SubArea) (d e : ℕ) → d ≤ e → e ≤ highest_depth → volume_of ps d ≤ volume_of ps e

-- V rises strictly where there is impervious area.
abbrev pub RisesStrictly : Type 0
RisesStrictly = (ps : List SubArea) (d e : ℕ) → 0 < impervious_area ps → d < e → e ≤ highest_depth → volume_of ps d < volume_of ps e

-- V(200) of a record that is judged fine does not pass 10^13.
abbrev pub Fits : Type 0
Fits = (ps : List SubArea) → total_area ps ≤ most_area → volume_of ps highest_depth ≤ largest

-- The depth of a volume is the largest grid depth d with V(d) not above the volume.
abbrev pub LargestDepth : Type 0
LargestDepth =
    (ps : List SubArea) (v : ℕ)
    → (depth_of ps v ≤ highest_depth)
    × (volume_of ps (depth_of ps v) ≤ v)
    × ((d : ℕ) → d ≤ highest_depth → volume_of ps d ≤ v → d ≤ depth_of ps v)

-- V is granted exactly where the record is judged fine and the depth is at most 200, and is then V at that depth: 15 does not arise.
abbrev pub VolumeGrantedExactly : Type 0
VolumeGrantedExactly =
    (s : Site) (d : Depth) (v : ℕ)
    → (given (volume_answer s d) ≡ (granted, v))
    ↔ (((site.given (judged s)).0 ≡ granted) × (d.0 ≤ highest_depth) × (volume_of (parts_of s) d.0 ≡ v))

-- The depth of a volume is granted exactly where the record is judged fine and the volume is at most 10^13: 15 does not arise.
abbrev pub DepthGrantedExactly : Type 0
DepthGrantedExactly =
    (s : Site) (v : Volume) (d : ℕ)
    → (depths.given (depth_answer s v) ≡ (granted, d))
    ↔ (((site.given (judged s)).0 ≡ granted) × (v.0 ≤ largest) × (depth_of (parts_of s) v.0 ≡ d))

-- Else V is refused: a record that is refused gives its own number and 0, and for another a depth above 200 gives 9 and 0.
abbrev pub VolumeRefused : Type 0
VolumeRefused =
    (s : Site) (d : Depth)
    → (((site.given (judged s)).0 ≡ granted → ⊥) → given (volume_answer s d) ≡ ((site.given (judged s)).0, 0))
    × ((site.given (judged s)).0 ≡ granted → highest_depth < d.0 → given (volume_answer s d) ≡ (number_of AmountOutOfRange, 0))

-- Else the depth is refused: a record that is refused gives its own number and 0, and for another a volume above 10^13 gives 9 and 0.
abbrev pub DepthRefused : Type 0
DepthRefused =
    (s : Site) (v : Volume)
    → (((site.given (judged s)).0 ≡ granted → ⊥) → depths.given (depth_answer s v) ≡ ((site.given (judged s)).0, 0))
    × ((site.given (judged s)).0 ≡ granted → largest < v.0 → depths.given (depth_answer s v) ≡ (number_of AmountOutOfRange, 0))

-- The six areas of a site are all that V needs: V from them is V of the site, and on those of a record that is judged fine the calls
-- answer as on the record.
abbrev pub SixAreasSuffice : Type 0
SixAreasSuffice =
    ((ps : List SubArea) (d : ℕ) → volume_from (areas_of ps) d ≡ volume_of ps d)
    × ((s : Site) (d : Depth) → (site.given (judged s)).0 ≡ granted → volume_on (areas_of (parts_of s)) d ≡ volume_answer s d)
    × ((s : Site) (v : Volume) → (site.given (judged s)).0 ≡ granted → depth_on (areas_of (parts_of s)) v ≡ depth_answer s v)

-- What stands in the record past its count changes neither V nor the depth of a volume, nor what is gathered.
abbrev pub PastCountUnread : Type 0
PastCountUnread =
    (s t : Site)
    → Alike s t
    → ((d : Depth) → volume_answer s d ≡ volume_answer t d)
    × ((v : Volume) → depth_answer s v ≡ depth_answer t v)
    × (gathered_answer s ≡ gathered_answer t)

-- Two records that are judged fine and hold the same sub-areas have the same V and the same depth of a volume, and the same is
-- gathered, whatever their numbers.
abbrev pub BySubAreasAlone : Type 0
BySubAreasAlone =
    (s t : Site)
    → SameSubAreas s t
    → ((d : Depth) → volume_answer s d ≡ volume_answer t d)
    × ((v : Volume) → depth_answer s v ≡ depth_answer t v)
    × (gathered_answer s ≡ gathered_answer t)
