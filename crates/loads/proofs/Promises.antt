-- The promises of loads, proved.
-- Assumes nothing.
use mathlib.Core.Path.{sym}
use Rattle.site.specs.Parts.{parts_of, empty_site}
use Rattle.site.specs.Runs.{ran, built_from}
use Rattle.site.proofs.Promises as site
use Rattle.site.proofs.Alike.{past_count_unread as record-past-count}
use Rattle.site.proofs.Runs.{empty_starts, run_fine, built_afresh as record-built-afresh}
use Rattle.loads.specs.Loads.{load_under}
use Rattle.loads.specs.Promises.{LoadGrantedExactly, LoadRefused, PastCountUnread, BySubAreasAlone, BuiltAfresh, RemovedWithin}
use Rattle.loads.proofs.Permit.{granted_load, fine_load, refused_load}
use Rattle.loads.proofs.Answers.{removed_le, removed_mono}

pub load_granted_exactly : LoadGrantedExactly
load_granted_exactly n s a = (granted_load n s a, λ h. fine_load n s a h.0 h.1)

pub load_refused : LoadRefused
load_refused = refused_load

pub past_count_unread : PastCountUnread
unfolding load_under
past_count_unread rates s t r = simp ((record-past-count s t r).0, r.parts)

pub by_sub_areas_alone : BySubAreasAlone
unfolding load_under
by_sub_areas_alone rates s t r = simp ((site.by_sub_areas_alone s t r).0, r.parts)

pub built_afresh : BuiltAfresh
built_afresh rates s steps h =
    by_sub_areas_alone rates (ran s steps) (ran empty_site (built_from (parts_of (ran s steps))))
    (record {
      first = run_fine s steps h;
      second = run_fine empty_site (built_from (parts_of (ran s steps))) empty_starts;
      parts = sym (record-built-afresh s steps h).1;
    })

pub removed_within : RemovedWithin
removed_within load percent h = (removed_le load percent h, λ lower l. removed_mono load lower percent l)
