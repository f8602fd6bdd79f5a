-- `site::Site::add` meets its contract: a refused record stops it, and for a fine one the add that is told the total area agrees with the
-- definition.
-- Assumes nothing.
use mathlib.Core.Path.{sym, ◌∙◌, ap}
use Rattle.std.proofs.lemmas.Result.{err_from_is_err_and}
use Rattle.site.specs.Adding.{Added, placed}
use Rattle.site.proofs.Adding.{add_agrees, add_stops}
use Rattle.site.proofs.Site.add.Goals as goal

pub returns-in_err-total-clause-site : goal.returns-in_err-total-clause-site
returns-in_err-total-clause-site c = ap (λ (a : Added). a.site) (add_stops _ _ c.judge.ensures c.in_err-total.was)

pub returns-in_err-total-clause-answer : goal.returns-in_err-total-clause-answer
returns-in_err-total-clause-answer c =
    let p = err_from_is_err_and c.from_residual.result c.from_residual.ensures.1 in
    rw (p.1, p.2) (ap placed (add_stops _ _ c.judge.ensures c.in_err-total.was))

pub returns-clause-site : goal.returns-clause-site
returns-clause-site c = c.add_to.ensures.site ∙ ap (λ (a : Added). a.site) (add_agrees _ _ _ (sym c.judge.ensures ∙ c.in_ok-total.was))

pub returns-clause-answer : goal.returns-clause-answer
returns-clause-answer c = c.add_to.ensures.answer ∙ ap placed (add_agrees _ _ _ (sym c.judge.ensures ∙ c.in_ok-total.was))
