-- `volume::depth` meets its contract: on the six areas of the site.
-- Assumes nothing.
use Rattle.std.proofs.Common.{rules}
use Rattle.std.proofs.lemmas.Result.{err_from_is_err_and}
use Rattle.volume.proofs.Answered.{depth_on_site, depth_stops}
use Rattle.volume.proofs.depth.Goals as goal

pub returns-in_err-gathered : goal.returns-in_err-gathered
returns-in_err-gathered c =
    let p = err_from_is_err_and c.from_residual.result c.from_residual.ensures.1 in
    rw (p.1, p.2) (depth_stops _ _ c.gather-gathered.ensures _ _ c.in_err-gathered.was)

pub returns : goal.returns
returns c = search (depth_on_site, rules)
