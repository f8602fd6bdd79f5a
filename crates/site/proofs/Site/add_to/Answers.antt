-- `site::Site::add_to` meets its contract: where the answer grants there is a place at the count, and a number.
-- Assumes nothing.
use Rattle.std.proofs.Common.{rules}
use Rattle.std.proofs.lemmas.Result.{err_from_is_err_and}
use Rattle.site.proofs.Adding.{granted_place, granted_number, stores_site, stores_answer, keeps_site, keeps_answer}
use Rattle.site.proofs.Site.add_to.Goals as goal

pub returns-in_err-total-clause-site : goal.returns-in_err-total-clause-site
returns-in_err-total-clause-site c = keeps_site _ _ _ c.add_answer.ensures c.in_err-total.was

pub returns-in_err-total-clause-answer : goal.returns-in_err-total-clause-answer
returns-in_err-total-clause-answer c =
    let p = err_from_is_err_and c.from_residual.result c.from_residual.ensures.1 in
    rw (p.1, p.2) (keeps_answer _ _ _ c.add_answer.ensures c.in_err-total.was)

pub offset_bounds-self-self : goal.offset_bounds-self-self
offset_bounds-self-self c = let h = granted_place _ _ _ _ c.add_answer.ensures c.in_ok-total.was in search rules

pub bounds-self-self : goal.bounds-self-self
bounds-self-self c = let h = granted_place _ _ _ _ c.add_answer.ensures c.in_ok-total.was in search rules

pub offset_bounds-self-self-2 : goal.offset_bounds-self-self-2
offset_bounds-self-self-2 c = let h = granted_place _ _ _ _ c.add_answer.ensures c.in_ok-total.was in search rules

pub bounds-self-self-2 : goal.bounds-self-self-2
bounds-self-self-2 c = let h = granted_place _ _ _ _ c.add_answer.ensures c.in_ok-total.was in search rules

pub overflow_add-self : goal.overflow_add-self
overflow_add-self c = let h = granted_place _ _ _ _ c.add_answer.ensures c.in_ok-total.was in search rules

pub overflow_add-self-2 : goal.overflow_add-self-2
overflow_add-self-2 c = let h = granted_number _ _ _ _ c.add_answer.ensures c.in_ok-total.was in search rules

pub returns-clause-site : goal.returns-clause-site
returns-clause-site c = stores_site _ _ _ c.add_answer.ensures c.in_ok-total.was

pub returns-clause-answer : goal.returns-clause-answer
returns-clause-answer c = stores_answer _ _ _ c.add_answer.ensures c.in_ok-total.was
