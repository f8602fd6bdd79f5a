-- Rules, "Volume of a depth" and "The numbers given back": what the calls answer.
-- Assumes nothing.
use Rattle.refusal.specs.declared.Refusal.{Refusal}
use Rattle.std.specs.Prelude.{ℕ, Bool, cond, List, [], ◌∷◌, leb, Result, Ok, Err}
use Rattle.laws.specs.Turn.{in_turn}
use Rattle.refusal.specs.declared.Refusal.TheVariants.{TotalAreaPassed, AmountOutOfRange, PastLargest}
use Rattle.refusal.specs.Refusal.{number_of, granted}
use Rattle.units.specs.declared.Area.{Area}
use Rattle.units.specs.declared.Depth.{Depth}
use Rattle.units.specs.declared.Volume.{Volume}
use Rattle.units.specs.Limits.{largest, highest_depth}
use Rattle.site.specs.declared.Site.{Site}
use Rattle.site.specs.Parts.{parts_of}
use Rattle.site.specs.Judging.{judged, after_judging}
use Rattle.volume.specs.declared.Gathered.{Gathered}
use Rattle.volume.specs.Volume.{volume_of, depth_within}
use Rattle.volume.specs.Areas.{no_areas, areas_of, within_limit, volume_from}

-- V(200) is within 10^13
abbrev pub not_past : ℕ → Bool
not_past v200 = leb v200 largest

-- V at a depth, for any V: 9 and 15 are tried
abbrev pub volume_by : (ℕ → ℕ) → Depth → Result Volume Refusal
volume_by volume_at d =
    in_turn Err (Ok (record { 0 = volume_at d.0 }))
    ((leb d.0 highest_depth, AmountOutOfRange) ∷ (not_past (volume_at highest_depth), PastLargest) ∷ [])

-- the depth of a volume, for any V: 9 and 15 are tried
abbrev pub depth_by : (ℕ → ℕ) → Volume → Result Depth Refusal
depth_by volume_at v =
    in_turn Err (Ok (record { 0 = depth_within volume_at v.0 }))
    ((leb v.0 largest, AmountOutOfRange) ∷ (not_past (volume_at highest_depth), PastLargest) ∷ [])

-- on a site: the record is judged first
unfoldable pub volume_answer : Site → Depth → Result Volume Refusal
volume_answer s d = after_judging Err (λ total. volume_by (volume_of (parts_of s)) d) (judged s)

unfoldable pub depth_answer : Site → Volume → Result Depth Refusal
depth_answer s v = after_judging Err (λ total. depth_by (volume_of (parts_of s)) v) (judged s)

-- on six areas: refused 3 where their total passes the limit
unfoldable pub volume_on : List Area → Depth → Result Volume Refusal
volume_on xs d = cond (within_limit xs) (volume_by (volume_from xs) d) (Err TotalAreaPassed)

unfoldable pub depth_on : List Area → Volume → Result Depth Refusal
depth_on xs v = cond (within_limit xs) (depth_by (volume_from xs) v) (Err TotalAreaPassed)

-- the six areas of a site beside its total area; a refused record has none
unfoldable pub gathered_answer : Site → Gathered
gathered_answer s =
    after_judging (λ why. record { answer = Err why; areas = record { of = no_areas } })
    (λ total. record { answer = Ok (record { 0 = total }); areas = record { of = areas_of (parts_of s) } })
    (judged s)

-- the rules' number and value: a refusal's value is 0
abbrev pub given : Result Volume Refusal → ℕ × ℕ
given (Ok v) = (granted, v.0)
given (Err why) = (number_of why, 0)
