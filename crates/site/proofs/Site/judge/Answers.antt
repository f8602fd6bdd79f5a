-- `site::Site::judge` meets its contract: the loop's invariant says that what is left, with the total area so far, decides as all sub-areas
-- do.
-- Assumes nothing.
use Rattle.std.proofs.Common.{rules}
use Rattle.std.proofs.lemmas.Result.{err_from_is_err_and}
use Rattle.site.proofs.Trying.{tried_refused, tried_all, part_refused, numbers_fine, numbers_refused}
use Rattle.site.proofs.Site.judge.Goals as goal

pub returns-in_err-total : goal.returns-in_err-total
returns-in_err-total c =
    let p = err_from_is_err_and c.from_residual.result c.from_residual.ensures.1 in
    rw (p.1, p.2) (part_refused _ c.if-self-gt-MOST_PARTS.false (tried_refused _ _ _ c.loop-part.invariant c.loop-part-test.true c.try_part.ensures c.in_err-total.was))

pub returns-then-not-numbered : goal.returns-then-not-numbered
returns-then-not-numbered c = search (numbers_refused, tried_all, rules)

pub returns : goal.returns
returns c = search (numbers_fine, tried_all, rules)
