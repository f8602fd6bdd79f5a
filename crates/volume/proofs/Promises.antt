-- The promises of V and of the depth of a volume, proved.
-- Assumes nothing.
use Rattle.site.specs.Judging.{judged}
use Rattle.site.proofs.Promises as site
use Rattle.site.proofs.Alike.{past_count_unread as record-past-count}
use Rattle.volume.specs.Answers.{volume_answer, depth_answer, gathered_answer}
use Rattle.volume.specs.Promises.{StartsAtZero, NeverFalls, RisesStrictly, Fits, LargestDepth, VolumeGrantedExactly, DepthGrantedExactly, VolumeRefused, DepthRefused, SixAreasSuffice, PastCountUnread, BySubAreasAlone}
use Rattle.volume.proofs.Rising.{volume_zero, volume_rises, volume_strict, volume_fits}
use Rattle.volume.proofs.Reaching.{depth_on_grid, depth_within_lem, depth_largest}
use Rattle.volume.proofs.Granting.{volume_only, volume_there, volume_own, volume_above, depth_only, depth_there, depth_own, depth_above}
use Rattle.volume.proofs.Products.{volume_gathered}
use Rattle.volume.proofs.Answered.{volume_same, depth_same}

pub starts_at_zero : StartsAtZero
starts_at_zero = volume_zero

pub never_falls : NeverFalls
never_falls = volume_rises

pub rises_strictly : RisesStrictly
rises_strictly = volume_strict

pub fits : Fits
fits = volume_fits

pub largest_depth : LargestDepth
largest_depth ps v = (depth_on_grid ps v, depth_within_lem ps v, depth_largest ps v)

pub volume_granted_exactly : VolumeGrantedExactly
volume_granted_exactly s d v = (volume_only s d v, λ h. volume_there s d v h.0 h.1 h.2)

pub depth_granted_exactly : DepthGrantedExactly
depth_granted_exactly s v d = (depth_only s v d, λ h. depth_there s v d h.0 h.1 h.2)

pub volume_refused : VolumeRefused
volume_refused s d = (volume_own s d, volume_above s d)

pub depth_refused : DepthRefused
depth_refused s v = (depth_own s v, depth_above s v)

pub six_areas_suffice : SixAreasSuffice
six_areas_suffice = (
  volume_gathered,
  λ s d h. let g = site.given_some (judged s) h in volume_same s g.0 g.1 d,
  λ s v h. let g = site.given_some (judged s) h in depth_same s g.0 g.1 v,
)

pub past_count_unread : PastCountUnread
unfolding volume_answer depth_answer gathered_answer
past_count_unread s t r =
    let e = (record-past-count s t r).0 in
    let p = r.parts in
    (λ d. simp (e, p), λ v. simp (e, p), simp (e, p))

pub by_sub_areas_alone : BySubAreasAlone
unfolding volume_answer depth_answer gathered_answer
by_sub_areas_alone s t r =
    let e = (site.by_sub_areas_alone s t r).0 in
    let p = r.parts in
    (λ d. simp (e, p), λ v. simp (e, p), simp (e, p))
