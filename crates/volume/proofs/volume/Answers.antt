-- `volume::volume` meets its contract: on the six areas of the site.
-- Assumes nothing.
use Rattle.std.proofs.Common.{rules}
use Rattle.std.proofs.lemmas.Result.{err_from_is_err_and}
use Rattle.volume.proofs.Answered.{volume_on_site, volume_stops}
use Rattle.volume.proofs.volume.Goals as goal

pub returns-in_err-found : goal.returns-in_err-found
returns-in_err-found c =
    let p = err_from_is_err_and c.from_residual.result c.from_residual.ensures.1 in
    rw (p.1, p.2) (volume_stops _ _ c.gather-found.ensures _ _ c.in_err-found.was)

pub returns : goal.returns
returns c = search (volume_on_site, rules)
