-- `job::areas::read_area` meets its contract: each field is read behind the one before it.
-- Assumes nothing.
use Rattle.text.specs.Pieces.{pieces, joined}
use Rattle.job.proofs.AreaLines.{bad_land, bad_cover, bad_soil, bad_area, area_reads}
use Rattle.job.proofs.areas.read_area.Goals as goal

pub returns-in_err-land : goal.returns-in_err-land
unfolding pieces joined
returns-in_err-land c =
    bad_land _ _ c.behind-at.ensures c.case.ensures c.in_err-land.was c.from_residual.ensures

pub returns-in_err-cover : goal.returns-in_err-cover
unfolding pieces joined
returns-in_err-cover c =
    bad_cover _ _ c.behind-at.ensures c.case.ensures c.in_ok-land.was c.case-2.ensures c.in_err-cover.was c.from_residual-in_err-cover.ensures

pub returns-in_err-soil : goal.returns-in_err-soil
unfolding pieces joined
returns-in_err-soil c =
    bad_soil _ _ c.behind-at.ensures c.case.ensures c.in_ok-land.was c.case-2.ensures c.in_ok-cover.was c.case-3.ensures c.in_err-soil.was c.from_residual-in_err-soil.ensures

pub returns-in_err-area : goal.returns-in_err-area
unfolding pieces joined
returns-in_err-area c =
    bad_area _ _ c.behind-at.ensures c.case.ensures c.in_ok-land.was c.case-2.ensures c.in_ok-cover.was c.case-3.ensures c.in_ok-soil.was c.number.ensures c.in_err-area.was c.from_residual-in_err-area.ensures

pub returns : goal.returns
unfolding pieces joined
returns c =
    area_reads _ _ c.behind-at.ensures c.case.ensures c.in_ok-land.was c.case-2.ensures c.in_ok-cover.was c.case-3.ensures c.in_ok-soil.was c.number.ensures c.in_ok-area.was
