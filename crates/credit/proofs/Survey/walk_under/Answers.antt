-- `credit::Survey::walk_under` meets its contract: the loop's invariant says that the sub-areas so far passed, and have the total area,
-- the six areas and the load that are carried. All sums fit, since the total area is at most the largest.
-- Assumes nothing.
use Rattle.std.proofs.lemmas.Result.{err_from_is_err_and}
use Rattle.site.proofs.Walking.{overfull}
use Rattle.credit.proofs.Surveying.{survey_starts, area_fits, product_fits, load_fits, survey_next, survey_refused, survey_unnumbered, survey_ends}
use Rattle.credit.proofs.Survey.walk_under.Goals as goal

pub loop-part-init : goal.loop-part-init
loop-part-init c = survey_starts _ _

pub returns-in_err-total : goal.returns-in_err-total
returns-in_err-total c =
    let p = err_from_is_err_and c.from_residual.result c.from_residual.ensures.1 in
    rw (p.1, p.2)
    (survey_refused _ _ _ _ _ _ c.if-site-gt-MOST_PARTS.false c.loop-part.invariant c.loop-part-test.true c.try_part.ensures c.in_err-total.was)

pub returns-then-site-gt-MOST_PARTS : goal.returns-then-site-gt-MOST_PARTS
returns-then-site-gt-MOST_PARTS c = overfull _ c.if-site-gt-MOST_PARTS.true

pub overflow_add-of : goal.overflow_add-of
overflow_add-of c = area_fits _ _ _ _ _ _ c.loop-part.invariant c.loop-part-test.true c.try_part.ensures _ c.in_ok-total.was _

pub overflow_mul-load : goal.overflow_mul-load
overflow_mul-load c = product_fits _ _ _ _ _ _ c.loop-part.invariant c.loop-part-test.true c.try_part.ensures _ c.in_ok-total.was _ c.rate_of.ensures.1

pub overflow_add-load : goal.overflow_add-load
overflow_add-load c = load_fits _ _ _ _ _ _ c.loop-part.invariant c.loop-part-test.true c.try_part.ensures _ c.in_ok-total.was _ c.rate_of.ensures.1

pub loop-part-preserved : goal.loop-part-preserved
loop-part-preserved c = survey_next _ _ _ _ _ _ c.loop-part.invariant c.loop-part-test.true c.try_part.ensures _ c.in_ok-total.was _ c.rate_of.ensures.1 _ c.area_place.ensures.0 c.rate_of.ensures.0

pub returns-then-not-numbered : goal.returns-then-not-numbered
returns-then-not-numbered c =
    survey_unnumbered _ _ _ _ _ _ c.if-site-gt-MOST_PARTS.false c.loop-part.invariant c.loop-part-test.false c.numbered.ensures c.if-not-numbered.true

pub returns : goal.returns
returns c =
    survey_ends _ _ _ _ _ _ c.if-site-gt-MOST_PARTS.false c.loop-part.invariant c.loop-part-test.false c.numbered.ensures c.if-not-numbered.false
