-- `job::areas::read_areas` meets its contract: the lines from a place on, added to the site so far, decide the reading of all of them.
-- Assumes nothing.
use borrow.Author.Rules.{rules}
use native.Mathlib.Omega.{arith}
use Rattle.job.proofs.Walking.{walked_none, walked_bad, walked_refused, walked_place, walked_number, walked_shorter, walked_next, walked_fine}
use Rattle.job.proofs.areas.read_areas.Goals as goal

pub loop-at-init : goal.loop-at-init
loop-at-init c = search (walked_none, rules)

pub returns-in_err-part : goal.returns-in_err-part
returns-in_err-part c =
    walked_bad _ _ _ _ _ _ _ c.loop-at.invariant _ c.read_area.ensures c.loop-at-test.true
    c.malformed.ensures c.ok_or.ensures.value c.in_err-part.was c.from_residual.ensures.1

pub returns-in_err-total : goal.returns-in_err-total
returns-in_err-total c =
    walked_refused _ _ _ _ _ _ _ c.loop-at.invariant _ c.read_area.ensures c.malformed.result
    c.map_err.result c.ok_or.ensures.value c.in_ok-part.was c.add_answer-answer.ensures (search rules)
    c.in_err-total.was c.from_residual-in_err-total.ensures.1

pub offset_bounds-site-site : goal.offset_bounds-site-site
offset_bounds-site-site c =
    let p =
    walked_place _ _ _ _ _ _ _ c.loop-at.invariant _ c.read_area.ensures c.malformed.result
    c.map_err.result c.ok_or.ensures.value c.in_ok-part.was c.add_answer-answer.ensures (search rules)
    c.in_ok-total.was in
    omega arith

pub bounds-site-site : goal.bounds-site-site
bounds-site-site c =
    walked_place _ _ _ _ _ _ _ c.loop-at.invariant _ c.read_area.ensures c.malformed.result
    c.map_err.result c.ok_or.ensures.value c.in_ok-part.was c.add_answer-answer.ensures (search rules)
    c.in_ok-total.was

pub offset_bounds-site-site-in-loop-at : goal.offset_bounds-site-site-in-loop-at
offset_bounds-site-site-in-loop-at c =
    let p =
    walked_place _ _ _ _ _ _ _ c.loop-at.invariant _ c.read_area.ensures c.malformed.result
    c.map_err.result c.ok_or.ensures.value c.in_ok-part.was c.add_answer-answer.ensures (search rules)
    c.in_ok-total.was in
    omega arith

pub bounds-site-site-in-loop-at : goal.bounds-site-site-in-loop-at
bounds-site-site-in-loop-at c =
    walked_place _ _ _ _ _ _ _ c.loop-at.invariant _ c.read_area.ensures c.malformed.result
    c.map_err.result c.ok_or.ensures.value c.in_ok-part.was c.add_answer-answer.ensures (search rules)
    c.in_ok-total.was

pub overflow_add-site : goal.overflow_add-site
overflow_add-site c =
    let p =
    walked_place _ _ _ _ _ _ _ c.loop-at.invariant _ c.read_area.ensures c.malformed.result
    c.map_err.result c.ok_or.ensures.value c.in_ok-part.was c.add_answer-answer.ensures (search rules)
    c.in_ok-total.was in
    omega arith

pub overflow_add-site-in-loop-at : goal.overflow_add-site-in-loop-at
overflow_add-site-in-loop-at c =
    let p =
    walked_number _ _ _ _ _ _ _ c.loop-at.invariant _ c.read_area.ensures c.malformed.result
    c.map_err.result c.ok_or.ensures.value c.in_ok-part.was c.add_answer-answer.ensures (search rules)
    c.in_ok-total.was in
    omega arith

pub loop-at-smaller : goal.loop-at-smaller
loop-at-smaller c =
    walked_shorter _ _ _ _ _ _ _ c.loop-at.invariant _ c.read_area.ensures c.malformed.result
    c.map_err.result c.ok_or.ensures.value c.in_ok-part.was c.add_answer-answer.ensures (search rules)
    c.loop-at-test.true

pub loop-at-preserved : goal.loop-at-preserved
loop-at-preserved c =
    walked_next _ _ _ _ _ _ _ c.loop-at.invariant _ c.read_area.ensures c.malformed.result
    c.map_err.result c.ok_or.ensures.value c.in_ok-part.was c.add_answer-answer.ensures (search rules)
    c.loop-at-test.true c.in_ok-total.was

pub returns : goal.returns
returns c = search (walked_fine, rules)
